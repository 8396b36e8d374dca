-- The catalog of a volume that gets the second mark.
use Rattle.std.proofs.Common.{◌≡◌, ◌<◌, ◌≤◌, ◌+◌, ◌^◌, ◌++◌, inl, true, ℕ, zero, suc, List, [], ◌∷◌, length, refl, ap}
use Rattle.std.proofs.Common.{sym, subst, ◌∙◌, arith}
use Rattle.std.specs.Prelude.{map, Option, Some}
use Rattle.std.specs.List.{All, AllByRecursion, flat_map}
use Rattle.std.proofs.lemmas.Grind.{flat_map-append}
use Rattle.std.proofs.lemmas.List.{length-map}
use Rattle.std.proofs.lemmas.List.Elements.{All-nil, All-cons, All-weaker}
use Rattle.station.specs.Disk.{Sector}
use Rattle.pages.specs.Image.{Map}
use Rattle.btree.specs.Entries.{Entry, entries_of}
use Rattle.btree.specs.Laws.{keys_listed}
use Rattle.btree.specs.Moves.{Moves}
use Rattle.btree.specs.Rooted.{RootedTree}
use Rattle.btree.specs.Tree.{TreeNode, IsTreeOrEmpty, pages_of}
use Rattle.btree.proofs.Ascending.{entry_at}
use Rattle.records.specs.declared.key.KeyOfReference.TheVariants.{Prime}
use Rattle.records.specs.Files.{Files, NamedFile, IsNamed}
use Rattle.records.specs.Rows.{Row}
use Rattle.records.specs.Spec.{Spec, is_spec}
use Rattle.records.specs.Stores.{IsKey}
use Rattle.volume_format.specs.Catalog.{Listing, catalog_layout, catalog_value, listing_bytes}
use Rattle.volume_format.specs.Forest.{TreeLevels, IsForest, IsTreeIn, tree_levels}
use Rattle.volume_format.specs.Grows.{IsTreeAmong}
use Rattle.volume_format.specs.Trees.{entry_under, layout_under}
use Rattle.volume_format.specs.Volume.{FileTrees, IsKept, MapHolds, trees_of, catalog_entry, catalog_tree}
use Rattle.volume_format.specs.Volume.{listing_of}
use Rattle.volume_format.proofs.Forests.{all_right, forest_moves}
use Rattle.volume_format.proofs.Whole.{whole_grows, same_count}
use Rattle.alternate_keys.specs.Listed.{catalog_at, root_in}
use Rattle.alternate_keys.specs.Placed.{HasTrees}
use Rattle.alternate_keys.specs.Seen.{HasRows, row_tree_of}
use Rattle.alternate_keys.proofs.Empties.{forest_with}
use Rattle.alternate_keys.proofs.FileTrees.{good_spec, prime_rows}
use Rattle.alternate_keys.proofs.Placing.{next_kept, own_named}
use Rattle.alternate_keys.proofs.Preparing.{map_with}
use Rattle.alternate_keys.proofs.Splits.{named_of}

-- With a new catalog, in which each entry has the number of rows, the map holds the same files.
pub holds_counted : (m : Map) (files : Files) (holds : MapHolds m files) (pages : List (Option Sector)) (catalog : ℕ)
    → IsTreeAmong pages [] (flat_map trees_of holds.kept) (catalog_at 1 catalog) (map (catalog_entry 1) holds.kept)
    → MapHolds (map_with 1 (m.generation + 1) catalog pages) files
holds_counted m files holds pages catalog stands = record {
  kept = holds.kept;
  keeps = record {
    catalog = stands.levels;
    forest = stands.forest;
    listed = stands.listed;
    each = All-weaker (IsKept m.generation) (IsKept (m.generation + 1)) (next_kept m.generation) holds.kept
        holds.keeps.each;
  };
  named = holds.named;
  are = holds.are;
  short = λ first. absurd (omega (arith, first));
}

-- A tree that was built of pages that were in no tree stands among the others.
pub built_among : (before after : List (Option Sector)) (trees : List TreeLevels) (tree : RootedTree)
    (levels : List (List TreeNode)) (entries : List Entry) → IsForest before trees
    → IsTreeOrEmpty tree.layout after tree.root levels → Moves before [] after (pages_of levels)
    → entries_of tree.layout levels ≡ entries → IsTreeAmong after [] trees tree entries
built_among before after trees tree levels entries forest holds moves listed =
    let old : TreeLevels = tree_levels (record { layout = tree.layout; root = 0 }) [] in
    let with_old : IsForest before (old ∷ trees) = forest_with before [] (old ∷ []) trees forest
    (All-cons (IsTreeIn before) old [] (whole_grows before old.tree [] (inl (refl, refl))) (All-nil (IsTreeIn before)))
    refl in
    record {
      levels = levels;
      forest = forest_moves before after [] trees old (tree_levels tree levels) with_old moves
          (whole_grows after tree levels holds);
      listed = listed;
    }

-- Entries of both marks have the same keys.
pub same_keys : (one two : ℕ) (kept : List FileTrees)
    → keys_listed (map (catalog_entry one) kept) ≡ keys_listed (map (catalog_entry two) kept)
same_keys one two [] = refl
same_keys one two (k ∷ kept) = ap (λ (l : List (List ℕ)). (catalog_entry one k).key ∷ l) (same_keys one two kept)

-- The file of the entry at a place, between others.
pub record IsFileAt (mark n : ℕ) (entry : Entry) (kept : List FileTrees) : Type 0 where
  pub before : List FileTrees
  pub one : FileTrees
  pub after : List FileTrees
  pub is : kept ≡ before ++ one ∷ after
  pub count : length before ≡ n
  pub of : catalog_entry mark one ≡ entry

pub file_at_entry : (mark n : ℕ) (entry : Entry) (kept : List FileTrees)
    → entry_at n (map (catalog_entry mark) kept) ≡ Some entry → IsFileAt mark n entry kept
file_at_entry mark n entry [] at = absurd cc
file_at_entry mark zero entry (k ∷ kept) at =
    record { before = []; one = k; after = kept; is = refl; count = refl; of = cc }
file_at_entry mark (suc n) entry (k ∷ kept) at =
    let rest = file_at_entry mark n entry kept at in
    record {
      before = k ∷ rest.before;
      one = rest.one;
      after = rest.after;
      is = ap (λ (l : List FileTrees). k ∷ l) rest.is;
      count = ap (λ (i : ℕ). suc i) rest.count;
      of = rest.of;
    }

-- Its trees are among those of the others.
pub trees_between : (m : Map) (files : Files) (holds : MapHolds m files) (before : List FileTrees) (one : FileTrees)
    (after : List FileTrees) → holds.kept ≡ before ++ one ∷ after → m.generation < 2 ^ 63 → length m.pages ≤ 2 ^ 20
    → HasTrees one.named.file.spec one.named m.generation m.pages
    (catalog_tree m holds.keeps.catalog ∷ flat_map trees_of before) (flat_map trees_of after)
    (listing_bytes (listing_of one))
trees_between m files holds before one after is few small =
    let each : All (IsKept m.generation) (before ++ one ∷ after) =
    subst (λ (l : List FileTrees). All (IsKept m.generation) l) is holds.keeps.each in
    let named : AllByRecursion IsNamed (named_of (before ++ one ∷ after)) =
    subst (λ (l : List FileTrees). AllByRecursion IsNamed (named_of l)) is
    (subst (λ (l : Files). AllByRecursion IsNamed l) (sym holds.named) holds.are.each) in
    record {
      placed = record {
        kept = one;
        named_is = refl;
        forest = subst (λ (ts : List TreeLevels). IsForest m.pages (catalog_tree m holds.keeps.catalog ∷ ts))
            (ap (flat_map trees_of) is ∙ flat_map-append trees_of before (one ∷ after)) holds.keeps.forest;
        is = all_right (IsKept m.generation) before (one ∷ after) each 0 one (omega arith);
        says = refl;
      };
      is_named = own_named before one after named;
      spec_is = refl;
      few = few;
      small = small;
    }

-- The entry that such a file has on a volume with the second mark.
abbrev pub entry_with : List ℕ → List ℕ → Entry
entry_with key value = record { key = key; value = value }

pub counted_entry : (one : FileTrees) (entry : Entry) (value : List ℕ) (count : ℕ) → catalog_entry 0 one ≡ entry
    → value ≡ catalog_value 1 entry.value count → count ≡ length one.named.file.rows
    → entry_with entry.key value ≡ catalog_entry 1 one
counted_entry one entry value count of spelled counted =
    ap (entry_with entry.key) (spelled ∙ ap (catalog_value 1 entry.value) counted)
    ∙ ap (λ (e : Entry). entry_with e.key (catalog_value 1 e.value (length one.named.file.rows))) (sym of)

-- The tree of rows that the catalog names has as many entries as the file has rows.
pub rows_there : (spec : Spec) (named : NamedFile) (generation : ℕ) (pages : List (Option Sector))
    (left right : List TreeLevels) (listing : List ℕ) (has : HasTrees spec named generation pages left right listing)
    (tree : RootedTree) → ((l : Listing) → is_spec l.spec ≡ true → listing ≡ listing_bytes l → IsKey l.spec Prime
    → (tree.layout ≡ layout_under l.spec Prime) × (tree.root ≡ root_in Prime listing))
    → HasRows spec pages named.file.rows (row_tree_of spec tree)
rows_there spec named generation pages left right listing has tree is =
    let kept : FileTrees = has.placed.kept in
    let own = is (listing_of kept) (good_spec spec named generation pages left right listing has) has.placed.says
    (omega arith) in
    let same : kept.named.file.spec ≡ spec = ap (λ (n : NamedFile). n.file.spec) has.placed.named_is ∙ has.spec_is in
    prime_rows spec named generation pages left right listing has (row_tree_of spec tree)
    (own.0 ∙ ap (λ (s : Spec). layout_under s Prime) same) own.1 refl

pub rows_counted : (spec : Spec) (pages : List (Option Sector)) (rows : List Row) (tree : RootedTree)
    (has : HasRows spec pages rows (row_tree_of spec tree))
    → length (entries_of tree.layout has.planted.levels) ≡ length rows
rows_counted spec pages rows tree has =
    ap (λ (t : RootedTree). length (entries_of t.layout has.planted.levels)) (sym has.stands.tree_is)
    ∙ sym (same_count pages has.planted has.stands.grows)
    ∙ ap (λ (l : List Entry). length l) has.entries ∙ length-map rows (entry_under spec Prime)

-- After the old catalog has released its pages and a new one was built, the map holds the same files.
pub remade : (m : Map) (files : Files) (holds : MapHolds m files) (cleared after : List (Option Sector)) (root : ℕ)
    (levels : List (List TreeNode)) → IsForest cleared (flat_map trees_of holds.kept)
    → IsTreeOrEmpty (catalog_layout 1) after root levels → Moves cleared [] after (pages_of levels)
    → entries_of (catalog_layout 1) levels ≡ map (catalog_entry 1) holds.kept
    → MapHolds (map_with 1 (m.generation + 1) root after) files
remade m files holds cleared after root levels forest tree moves listed = holds_counted m files holds after root
    (built_among cleared after (flat_map trees_of holds.kept) (catalog_at 1 root) levels
    (map (catalog_entry 1) holds.kept) forest tree moves listed)
