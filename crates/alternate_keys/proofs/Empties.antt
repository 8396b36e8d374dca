-- Trees without entries, and a file without rows.
use Rattle.std.proofs.Common.{◌≡◌, ◌<◌, ◌+◌, ◌++◌, ℕ, zero, suc, List, [], ◌∷◌, length, refl, sym, ap, subst, ◌∙◌}
use Rattle.std.proofs.Common.{arith}
use Rattle.std.specs.Prelude.{map, replicate, slice_index_or, Contains, Option}
use Rattle.std.specs.List.{All}
use Rattle.std.proofs.lemmas.Grind.{flat_map-append}
use Rattle.std.proofs.lemmas.List.Elements.{All-nil, All-cons, All-tail, All-append}
use Rattle.station.specs.Disk.{Sector}
use Rattle.btree.specs.Moves.{Once}
use Rattle.btree.proofs.Runs.{in_none}
use Rattle.records.specs.declared.key.KeyOfReference.TheVariants.{Prime, Alternate}
use Rattle.records.specs.Spec.{Spec}
use Rattle.records.specs.Files.{empty_file}
use Rattle.volume_format.specs.Catalog.{Listing, listing_bytes}
use Rattle.volume_format.specs.Trees.{AreOf, layout_under}
use Rattle.volume_format.specs.Chained.{chained_bytes}
use Rattle.volume_format.specs.Forest.{TreeLevels, IsForest, IsTreeIn, pages_under, pages_within}
use Rattle.volume_format.specs.Volume.{IsKept, IsIndex, trees_of, listing_of, no_tree}
use Rattle.volume_format.proofs.Forests.{all_left, all_right}
use Rattle.alternate_keys.specs.Created.{empty_tree, empty_trees, empty_file_trees}
use Rattle.alternate_keys.specs.Placed.{HasFileTrees}
use Rattle.alternate_keys.proofs.WholeTrees.{empty_grows}

within_two : (left right : List TreeLevels) → pages_within (left ++ right) ≡ pages_within left ++ pages_within right
within_two left right = flat_map-append pages_under left right

-- trees without pages come to a forest, and leave it
same_within : (left between right : List TreeLevels) → pages_within between ≡ []
    → pages_within (left ++ (between ++ right)) ≡ pages_within (left ++ right)
same_within left between right none =
    within_two left (between ++ right) ∙ ap (λ (l : List ℕ). pages_within left ++ l)
    (within_two between right ∙ ap (λ (l : List ℕ). l ++ pages_within right) none) ∙ sym (within_two left right)

pub forest_with : (pages : List (Option Sector)) (left between right : List TreeLevels) → IsForest pages (left ++ right)
    → All (IsTreeIn pages) between → pages_within between ≡ [] → IsForest pages (left ++ (between ++ right))
forest_with pages left between right forest grow none =
    let same = sym (same_within left between right none) in
    record {
      grow = All-append (IsTreeIn pages) left (between ++ right) (all_left (IsTreeIn pages) left right forest.grow)
          (All-append (IsTreeIn pages) between right grow (all_right (IsTreeIn pages) left right forest.grow));
      once = subst Once same forest.once;
      covered = λ page some. subst (λ (l : List ℕ). Contains l page) same (forest.covered page some);
    }

pub forest_without : (pages : List (Option Sector)) (left right : List TreeLevels) (tree : TreeLevels)
    → IsForest pages (left ++ tree ∷ right) → pages_under tree ≡ [] → IsForest pages (left ++ right)
forest_without pages left right tree forest none =
    let same = same_within left (tree ∷ []) right (ap (λ (l : List ℕ). l ++ []) none) in
    let rest = all_right (IsTreeIn pages) left (tree ∷ right) forest.grow in
    record {
      grow = All-append (IsTreeIn pages) left right (all_left (IsTreeIn pages) left (tree ∷ right) forest.grow)
          (All-tail (IsTreeIn pages) tree right rest);
      once = subst Once same forest.once;
      covered = λ page some. subst (λ (l : List ℕ). Contains l page) same (forest.covered page some);
    }

-- the trees of a file without rows
module _ (spec : Spec) where
  how_many : (i n : ℕ) → length (empty_trees spec i n) ≡ n
  how_many i zero = refl
  how_many i (suc n) = ap (λ (k : ℕ). suc k) (how_many (suc i) n)

  at_place : (i n k : ℕ) → k < n → slice_index_or (empty_trees spec i n) k no_tree ≡ empty_tree spec (Alternate (i + k))
  at_place i zero k low = absurd (omega (arith, low))
  at_place i (suc n) zero low = ap (λ (j : ℕ). empty_tree spec (Alternate j)) (let e : i ≡ i + zero = omega arith in e)
  at_place i (suc n) (suc k) low = at_place (suc i) n k (omega (arith, low))
      ∙ ap (λ (j : ℕ). empty_tree spec (Alternate j)) (let e : suc i + k ≡ i + suc k = omega arith in e)

  no_roots : (i n : ℕ) → map (λ (tree : TreeLevels). tree.tree.root) (empty_trees spec i n) ≡ replicate n 0
  no_roots i zero = refl
  no_roots i (suc n) = ap (λ (l : List ℕ). 0 ∷ l) (no_roots (suc i) n)

  no_pages : (i n : ℕ) → pages_within (empty_trees spec i n) ≡ []
  no_pages i zero = refl
  no_pages i (suc n) = no_pages (suc i) n

  all_grow : (pages : List (Option Sector)) (i n : ℕ) → All (IsTreeIn pages) (empty_trees spec i n)
  all_grow pages i zero = All-nil (IsTreeIn pages)
  all_grow pages i (suc n) = All-cons (IsTreeIn pages) (empty_tree spec (Alternate i)) (empty_trees spec (suc i) n)
      (empty_grows pages (layout_under spec (Alternate i)) 0) (all_grow pages (suc i) n)

  pub empty_grow : (pages : List (Option Sector)) (name : List ℕ)
      → All (IsTreeIn pages) (trees_of (empty_file_trees name spec))
  empty_grow pages name = All-cons (IsTreeIn pages) (empty_tree spec Prime)
      (empty_trees spec 0 (length spec.alternates))
      (empty_grows pages (layout_under spec Prime) (chained_bytes spec)) (all_grow pages 0 (length spec.alternates))

  pub empty_pages : (name : List ℕ) → pages_within (trees_of (empty_file_trees name spec)) ≡ []
  empty_pages name = no_pages 0 (length spec.alternates)

  no_pairs : (i : ℕ) → AreOf spec (Alternate i) [] []
  no_pairs i = record { each = λ row has. absurd (in_none row has); only = λ entry has. absurd (in_none entry has) }

  index_by : (i : ℕ) (tree : TreeLevels) → tree ≡ empty_tree spec (Alternate i) → IsIndex (empty_file spec) i tree
  index_by i tree is =
      subst (λ (t : TreeLevels). IsIndex (empty_file spec) i t) (sym is) (record {
        layout = refl;
        whole = refl;
        pairs = no_pairs i;
      })

  pub empty_is : (generation : ℕ) (name : List ℕ) → IsKept (generation + 1) (empty_file_trees name spec)
  empty_is generation name = record {
    layout = refl;
    form = refl;
    rows = refl;
    count = how_many 0 (length spec.alternates);
    indexes = λ i within.
        index_by i (slice_index_or (empty_trees spec 0 (length spec.alternates)) i no_tree)
        (at_place 0 (length spec.alternates) i within
        ∙ ap (λ (j : ℕ). empty_tree spec (Alternate j)) (let e : 0 + i ≡ i = omega arith in e));
    arrivals = omega arith;
  }

  listing_with : List ℕ → Listing
  listing_with roots = record { spec = spec; prime = 0; alternates = roots; next_arrival = 1 }

  pub empty_says : (name listing : List ℕ) → listing ≡ listing_bytes
      (record { spec = spec; prime = 0; alternates = replicate (length spec.alternates) 0; next_arrival = 1 })
      → listing ≡ listing_bytes (listing_of (empty_file_trees name spec))
  unfolding listing_with
  empty_says name listing is =
      is ∙ ap (λ (l : List ℕ). listing_bytes (listing_with l)) (sym (no_roots 0 (length spec.alternates)))

  -- it stands among others
  pub empty_placed : (name : List ℕ) (generation : ℕ) (pages : List (Option Sector)) (left right : List TreeLevels)
      (listing : List ℕ) → IsForest pages (left ++ right) →
      listing ≡ listing_bytes
      (record { spec = spec; prime = 0; alternates = replicate (length spec.alternates) 0; next_arrival = 1 })
      → HasFileTrees (record { name = name; file = empty_file spec }) (generation + 1) pages left right listing
  empty_placed name generation pages left right listing forest is = record {
    kept = empty_file_trees name spec;
    named_is = refl;
    forest = forest_with pages left (trees_of (empty_file_trees name spec)) right forest (empty_grow pages name)
        (empty_pages name);
    is = empty_is generation name;
    says = empty_says name listing is;
  }
