-- The trees of the alternate keys become others, one after the other.
use Rattle.std.proofs.Common.{◌≡◌, ◌<◌, ◌+◌, ◌++◌, ⊎_elim, ◌⊎◌, inl, inr, ℕ, zero, suc, List, [], ◌∷◌, length, refl}
use Rattle.std.proofs.Common.{sym, ap, subst, ◌∙◌, append_assoc, arith}
use Rattle.std.specs.Prelude.{drop, slice_index_or, Option}
use Rattle.std.proofs.lemmas.List.{length-append}
use Rattle.station.specs.Disk.{Sector}
use Rattle.btree_pages.specs.Keys.{Ascend}
use Rattle.btree.specs.Rooted.{RootedTree}
use Rattle.btree.specs.Entries.{Entry}
use Rattle.btree.specs.Laws.{keys_listed}
use Rattle.btree.proofs.There.{tree_ascends}
use Rattle.records.specs.declared.key.KeyOfReference.TheVariants.{Alternate}
use Rattle.records.specs.Spec.{Spec}
use Rattle.records.specs.Files.{File}
use Rattle.volume_format.specs.Trees.{layout_under, AreOf}
use Rattle.volume_format.specs.Forest.{TreeLevels, IsForest, tree_levels}
use Rattle.volume_format.specs.Grows.{IsTreeAmong}
use Rattle.volume_format.specs.Volume.{IsIndex, no_tree}
use Rattle.alternate_keys.specs.Placed.{HasIndexes, HaveBecome, listed_tree, roots_of}
use Rattle.alternate_keys.proofs.Among.{grows}
use Rattle.alternate_keys.proofs.Keeping.{same_tree}
use Rattle.alternate_keys.proofs.WholeTrees.{whole_stands}

pub rest_of : {X : Type 0} (xs : List X) (k : ℕ) (d : X) → k < length xs
    → drop k xs ≡ slice_index_or xs k d ∷ drop (k + 1) xs
rest_of [] k d low = absurd (omega (arith, low))
rest_of (x ∷ xs) zero d low = refl
rest_of (x ∷ xs) (suc k) d low = rest_of xs k d (omega (arith, low))
    ∙ ap (λ n. slice_index_or xs k d ∷ drop n (x ∷ xs)) (let e : suc (k + 1) ≡ suc k + 1 = omega arith in e)

at_first : {X : Type 0} (xs : List X) (x d : X) (k : ℕ) → k < length xs
    → slice_index_or (xs ++ x ∷ []) k d ≡ slice_index_or xs k d
at_first [] x d k low = absurd (omega (arith, low))
at_first (y ∷ xs) x d zero low = refl
at_first (y ∷ xs) x d (suc k) low = at_first xs x d k (omega (arith, low))

own_end : {X : Type 0} (x d : X) (ys : List X) → slice_index_or (ys ++ x ∷ []) (length ys) d ≡ x
own_end x d [] = refl
own_end x d (y ∷ ys) = own_end x d ys

at_end : {X : Type 0} (xs : List X) (x d : X) (k : ℕ) → k ≡ length xs → slice_index_or (xs ++ x ∷ []) k d ≡ x
at_end xs x d k is = ap (λ n. slice_index_or (xs ++ x ∷ []) n d) is ∙ own_end x d xs

below_or_at : (k i : ℕ) → k < suc i → (k < i) ⊎ (k ≡ i)
below_or_at zero zero less = inr refl
below_or_at zero (suc i) less = inl (omega arith)
below_or_at (suc k) zero less = absurd (omega (arith, less))
below_or_at (suc k) (suc i) less =
    ⊎_elim (λ low. inl (omega (arith, low))) (λ is. inr (ap (λ n. suc n) is)) (below_or_at k i (omega (arith, less)))

roots_more : (trees : List TreeLevels) (tree : TreeLevels)
    → roots_of (trees ++ tree ∷ []) ≡ roots_of trees ++ tree.tree.root ∷ []
roots_more [] tree = refl
roots_more (t ∷ trees) tree = ap (λ (l : List ℕ). t.tree.root ∷ l) (roots_more trees tree)

pub roots_count : (trees : List TreeLevels) → length (roots_of trees) ≡ length trees
roots_count [] = refl
roots_count (t ∷ trees) = ap (λ (n : ℕ). suc n) (roots_count trees)

-- the next tree stands among the others
pub stands_next : (held new : File) (before pages : List (Option Sector)) (left right trees : List TreeLevels)
    (listing : List ℕ) (i : ℕ) (roots : List ℕ) → HasIndexes held before left right trees listing →
    (become : HaveBecome new pages left right trees i roots) → i < length held.spec.alternates → (tree : RootedTree)
    → tree ≡ listed_tree held.spec i listing →
    IsTreeAmong pages (left ++ become.done) (drop (i + 1) trees ++ right) tree
    (slice_index_or trees i no_tree).entries
stands_next held new before pages left right trees listing i roots has become low tree is =
    let t : TreeLevels = slice_index_or trees i no_tree in
    let count = has.count in
    let index = has.indexes i low in
    let same : t.tree ≡ tree =
    same_tree t.tree (listed_tree held.spec i listing) index.layout (has.roots i low) ∙ sym is in
    let rest : drop i trees ++ right ≡ t ∷ (drop (i + 1) trees ++ right) =
    ap (λ (l : List TreeLevels). l ++ right) (rest_of trees i no_tree (omega (arith, count, low))) in
    let parted : left ++ (become.done ++ (drop i trees ++ right))
    ≡ (left ++ become.done) ++ (t ∷ (drop (i + 1) trees ++ right)) =
    ap (λ (l : List TreeLevels). left ++ (become.done ++ l)) rest
    ∙ sym (append_assoc left become.done (t ∷ (drop (i + 1) trees ++ right))) in
    whole_stands pages (left ++ become.done) (drop (i + 1) trees ++ right) t tree index.whole same
    (subst (λ (ts : List TreeLevels). IsForest pages ts) parted become.forest)

-- and has become another
pub become_next : (held after : File) (before pages later : List (Option Sector)) (left right trees : List TreeLevels)
    (listing : List ℕ) (i : ℕ) (roots : List ℕ) → HasIndexes held before left right trees listing →
    (become : HaveBecome after pages left right trees i roots) → i < length held.spec.alternates
    → (tree new : RootedTree) (entries : List Entry) → tree ≡ listed_tree held.spec i listing
    → new.layout ≡ tree.layout → after.spec ≡ held.spec →
    AreOf after.spec (Alternate i) after.rows entries
    → IsTreeAmong later (left ++ become.done) (drop (i + 1) trees ++ right) new entries
    → HaveBecome after later left right trees (i + 1) (roots ++ new.root ∷ [])
become_next held after before pages later left right trees listing i roots has become low tree new entries is layout
    spec are stands =
    let x : TreeLevels = tree_levels new stands.levels in
    let own : IsIndex after i x = record {
      layout =
          layout ∙ ap (λ (r : RootedTree). r.layout) is ∙ ap (λ (s : Spec). layout_under s (Alternate i)) (sym spec);
      whole = refl;
      pairs = subst (λ (es : List Entry). AreOf after.spec (Alternate i) after.rows es) (sym stands.listed) are;
    } in
    let count = become.count in
    let many = length-append become.done (x ∷ []) in
    let parted : (left ++ become.done) ++ (x ∷ (drop (i + 1) trees ++ right))
    ≡ left ++ ((become.done ++ x ∷ []) ++ (drop (i + 1) trees ++ right)) =
    append_assoc left become.done (x ∷ (drop (i + 1) trees ++ right))
    ∙ ap (λ (l : List TreeLevels). left ++ l) (sym (append_assoc become.done (x ∷ []) (drop (i + 1) trees ++ right))) in
    record {
      done = become.done ++ x ∷ [];
      count = omega (arith, count, many);
      forest = subst (λ (ts : List TreeLevels). IsForest later ts) parted stands.forest;
      indexes = λ k less. by k (below_or_at k i (omega (arith, less))) become.indexes become.count own;
      roots_are = roots_more become.done x ∙ ap (λ (l : List ℕ). l ++ new.root ∷ []) become.roots_are;
    }
  where
    by : (k : ℕ) → (k < i) ⊎ (k ≡ i) → ((k : ℕ) → k < i → IsIndex after k (slice_index_or become.done k no_tree))
        → length become.done ≡ i → IsIndex after i (tree_levels new stands.levels) →
        IsIndex after k (slice_index_or (become.done ++ tree_levels new stands.levels ∷ []) k no_tree)
    by k (inl less) all count own = subst (λ (p : TreeLevels). IsIndex after k p)
        (sym (at_first become.done (tree_levels new stands.levels) no_tree k (omega (arith, less, count)))) (all k less)
    by k (inr is) all count own =
        subst (λ (p : TreeLevels). IsIndex after k p)
        (sym (at_end become.done (tree_levels new stands.levels) no_tree k (is ∙ sym count)))
        (subst (λ (n : ℕ). IsIndex after n (tree_levels new stands.levels)) (sym is) own)

-- the entries of a tree that stands among others ascend
pub entries_ascend : (pages : List (Option Sector)) (left right : List TreeLevels) (tree : RootedTree)
    (entries : List Entry) → IsTreeAmong pages left right tree entries → Ascend (keys_listed entries)
entries_ascend pages left right tree entries stands =
    subst (λ (es : List Entry). Ascend (keys_listed es)) stands.listed
    (tree_ascends tree.layout pages tree.root stands.levels (grows pages left right tree entries stands))
