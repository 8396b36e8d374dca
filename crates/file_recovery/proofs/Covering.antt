-- A catalog and its files, whose pages are all that the map uses, are what the map holds.
use Rattle.std.proofs.Common.{◌≡◌, ◌≢◌, ◌≤◌, ◌^◌, ◌++◌, ⊎_elim, ℕ, Bool, true, false, List, []}
use Rattle.std.proofs.Common.{◌∷◌, length, refl, sym, ap, subst, ◌∙◌, arith}
use Rattle.std.specs.Prelude.{map, Option, None, Contains, slice_index_or}
use Rattle.std.specs.List.{All, AllByRecursion, flat_map}
use Rattle.std.specs.List.Sorted.{IsStrictlySortedBy}
use Rattle.std.proofs.lemmas.List.{length-map}
use Rattle.std.proofs.lemmas.List.Elements.{All-nil, All-head, All-tail, All-append, All-contains}
use Rattle.station.specs.Disk.{Sector}
use Rattle.pages.specs.Image.{Map}
use Rattle.btree_check.specs.Walks.{CanMark, Marks}
use Rattle.btree.specs.Entries.{Entry, entries_of}
use Rattle.btree.specs.Tree.{TreeNode}
use Rattle.btree.proofs.One.{one_tree}
use Rattle.btree.proofs.Runs.{in_or_not}
use Rattle.btree.proofs.There.{tree_ascends}
use Rattle.btree_pages.specs.Keys.{Ascend}
use Rattle.btree.specs.Laws.{keys_listed}
use Rattle.records.specs.Rows.{bytes_cmp}
use Rattle.records.specs.Files.{Files, IsNamed, AreShort, names}
use Rattle.volume_format.specs.Catalog.{catalog_layout}
use Rattle.volume_format.specs.Forest.{TreeLevels, IsTreeIn, IsForest, pages_under, pages_within}
use Rattle.volume_format.specs.Volume.{FileTrees, IsKept, MapHolds, trees_of, catalog_entry, catalog_tree}
use Rattle.volume_format.proofs.Forests.{all_left, all_right}
use Rattle.volume_format.proofs.Pages.{IsPage, pages_within_map}
use Rattle.file_recovery.specs.Covered.{IsCovered}
use Rattle.file_recovery.specs.Kept.{IsCatalogFile, IsCatalog, FindsCatalog, NoCatalog}
use Rattle.file_recovery.proofs.Ascents.{names_ascend}
use Rattle.file_recovery.proofs.FirstMark.{without_count, found_first}
use Rattle.file_recovery.proofs.OneFound.{one_list_of_trees}
use Rattle.file_recovery.proofs.ShortFiles.{short_as}

-- no page was marked at first
abbrev pub NoneMarked : List Bool → Type 0
NoneMarked seen = (page : ℕ) → slice_index_or seen page false ≡ false

-- the pages of trees are pages of the map
low_within : (pages : List (Option Sector)) (trees : List TreeLevels) → All (IsTreeIn pages) trees
    → All (IsPage pages) (pages_within trees)
low_within pages [] grow = All-nil (IsPage pages)
low_within pages (tree ∷ trees) grow =
    All-append (IsPage pages) (pages_under tree) (pages_within trees) (pages_within_map pages tree
    (All-head (IsTreeIn pages) tree trees grow)) (low_within pages trees (All-tail (IsTreeIn pages) tree trees grow))

-- the pages of a forest can be marked where none was
can_first : (pages : List (Option Sector)) (seen : List Bool) (trees : List TreeLevels) → length seen ≡ length pages
    → NoneMarked seen → IsForest pages trees → CanMark seen (pages_within trees)
can_first pages seen trees many none forest =
    let low = low_within pages trees forest.grow in
    record {
      some = λ k d within. (low k d within).0;
      unmarked = λ k d within. (
        let here = low k d within in let below = here.1 in omega (arith, below, many),
        none (slice_index_or (pages_within trees) k d),
      );
      once = forest.once;
    }

-- marks that began from none, and cover what is used
covers : (pages : List (Option Sector)) (trees : List TreeLevels) (old new : List Bool) → NoneMarked old
    → Marks old (pages_within trees) new → IsCovered pages new →
    (page : ℕ) → slice_index_or pages page None ≢ None → Contains (pages_within trees) page
covers pages trees old new none marks covered page used =
    ⊎_elim (λ has. has) (λ out. let clash : true ≡ false =
    sym (covered page used) ∙ marks.others page out ∙ none page in absurd {0} cc) (in_or_not (pages_within trees) page)

-- what is held has a catalog
pub held_catalog : (m : Map) (files : Files) (holds : MapHolds m files)
    → IsCatalog m m.generation holds.keeps.catalog holds.kept
held_catalog m files holds = record {
  grow = holds.keeps.forest.grow;
  listed = holds.keeps.listed;
  each = holds.keeps.each;
  named = subst (λ (l : Files). AllByRecursion IsNamed l) (sym holds.named) holds.are.each;
  few =
      let many = length-map holds.kept (λ (one : FileTrees). one.named) in
      let count = holds.are.count in
      let same : length (map (λ (one : FileTrees). one.named) holds.kept) ≡ length files =
      ap (λ (l : Files). length l) holds.named in
      omega (arith, many, count, same);
}

-- where no page was marked, and no catalog can be marked, nothing is held
pub none_held : (m : Map) (old : List Bool) → length old ≡ length m.pages → NoneMarked old
    → NoCatalog m m.generation old → (files : Files) → MapHolds m files → ⊥
none_held m old many none never files holds =
    never holds.keeps.catalog holds.kept (held_catalog m files holds) (can_first m.pages old
    (catalog_tree m holds.keeps.catalog ∷ flat_map trees_of holds.kept) many none holds.keeps.forest)

-- a catalog whose pages are all that is used is held
pub catalog_held : (m : Map) (files : Files) (old new : List Bool) → NoneMarked old
    → FindsCatalog m m.generation files old new → IsCovered m.pages new → (m.mark ≡ 0 → AreShort files)
    → MapHolds m files
catalog_held m files old new none found covered short =
    let is = found.is in
    let trees : List TreeLevels = catalog_tree m found.catalog ∷ flat_map trees_of found.kept in
    let up : Ascend (keys_listed (entries_of (catalog_layout m.mark) found.catalog)) =
    tree_ascends (catalog_layout m.mark) m.pages m.catalog found.catalog
    (All-head (IsTreeIn m.pages) (catalog_tree m found.catalog) (flat_map trees_of found.kept) is.grow).stands in
    let named : AllByRecursion IsNamed files = subst (λ (l : Files). AllByRecursion IsNamed l) found.are is.named in
    let many = length-map found.kept (λ (one : FileTrees). one.named) in
    let few = is.few in
    let same : length (map (λ (one : FileTrees). one.named) found.kept) ≡ length files =
    ap (λ (l : Files). length l) found.are in
    record {
      kept = found.kept;
      keeps = record {
        catalog = found.catalog;
        forest = record {
          grow = is.grow;
          once = found.marks.can.once;
          covered = covers m.pages trees old new none found.marks covered;
        };
        listed = is.listed;
        each = is.each;
      };
      named = found.are;
      are = record {
        ascend = subst (λ (l : Files). IsStrictlySortedBy bytes_cmp (names l)) found.are
            (names_ascend m.mark found.kept is.named
            (subst (λ (entries : List Entry). Ascend (keys_listed entries)) is.listed up));
        each = named;
        count = omega (arith, many, few, same);
      };
      short = short;
    }

-- the trees of files of the same entries of the catalog
catalog_file : (mark : ℕ) (pages : List (Option Sector)) (generation : ℕ) (entry : Entry) (one : FileTrees)
    → IsKept generation one → IsNamed one.named → All (IsTreeIn pages) (trees_of one) → catalog_entry mark one ≡ entry
    → IsCatalogFile mark pages generation entry one
catalog_file mark pages generation entry one is named grow listed =
    record { is = is; named = named; grow = grow; listed = listed }

module _ (mark : ℕ) (pages : List (Option Sector)) (generation : ℕ) (small : length pages ≤ 2 ^ 20) where
  same_trees : (one two : FileTrees) → IsKept generation one → IsKept generation two → IsNamed one.named
      → IsNamed two.named → All (IsTreeIn pages) (trees_of one) → All (IsTreeIn pages) (trees_of two)
      → catalog_entry mark one ≡ catalog_entry mark two → trees_of one ≡ trees_of two
  same_trees one two is is_too named named_too grow grow_too same =
      let entry : Entry = catalog_entry mark two in
      one_list_of_trees pages generation (without_count entry) small one two
      (found_first (catalog_file mark pages generation entry one is named grow same))
      (found_first (catalog_file mark pages generation entry two is_too named_too grow_too refl))

  same_forest : (ones twos : List FileTrees) → All (IsKept generation) ones
      → All (IsKept generation) twos → AllByRecursion IsNamed (map (λ (k : FileTrees). k.named) ones)
      → AllByRecursion IsNamed (map (λ (k : FileTrees). k.named) twos) →
      All (IsTreeIn pages) (flat_map trees_of ones) → All (IsTreeIn pages) (flat_map trees_of twos)
      → map (catalog_entry mark) ones ≡ map (catalog_entry mark) twos
      → flat_map trees_of ones ≡ flat_map trees_of twos
  same_forest [] [] is is_too named named_too grow grow_too same = refl
  same_forest [] (two ∷ twos) is is_too named named_too grow grow_too same = cc
  same_forest (one ∷ ones) [] is is_too named named_too grow grow_too same = cc
  same_forest (one ∷ ones) (two ∷ twos) is is_too named named_too grow grow_too same =
      let head : catalog_entry mark one ≡ catalog_entry mark two = cc in
      let tail : map (catalog_entry mark) ones ≡ map (catalog_entry mark) twos = cc in
      let first : trees_of one ≡ trees_of two = same_trees one two (All-head (IsKept generation) one ones is)
      (All-head (IsKept generation) two twos is_too) named.0 named_too.0
      (all_left (IsTreeIn pages) (trees_of one) (flat_map trees_of ones) grow)
      (all_left (IsTreeIn pages) (trees_of two) (flat_map trees_of twos) grow_too) head in
      let rest : flat_map trees_of ones ≡ flat_map trees_of twos = same_forest ones twos
      (All-tail (IsKept generation) one ones is) (All-tail (IsKept generation) two twos is_too) named.1 named_too.1
      (all_right (IsTreeIn pages) (trees_of one) (flat_map trees_of ones) grow)
      (all_right (IsTreeIn pages) (trees_of two) (flat_map trees_of twos) grow_too) tail in
      ap (λ (l : List TreeLevels). l ++ flat_map trees_of ones) first
      ∙ ap (λ (l : List TreeLevels). trees_of two ++ l) rest

-- a map has one catalog, with one list of trees
one_forest : (m : Map) (generation : ℕ) (one two : List (List TreeNode)) (ones twos : List FileTrees)
    → length m.pages ≤ 2 ^ 20 → IsCatalog m generation one ones → IsCatalog m generation two twos →
    catalog_tree m one ∷ flat_map trees_of ones ≡ catalog_tree m two ∷ flat_map trees_of twos
one_forest m generation one two ones twos small is is_too =
    let first = All-head (IsTreeIn m.pages) (catalog_tree m one) (flat_map trees_of ones) is.grow in
    let second = All-head (IsTreeIn m.pages) (catalog_tree m two) (flat_map trees_of twos) is_too.grow in
    let levels : one ≡ two =
    one_tree (catalog_layout m.mark) m.pages m.catalog one two small first.stands second.stands in
    let entries : map (catalog_entry m.mark) ones ≡ map (catalog_entry m.mark) twos =
    sym is.listed ∙ ap (entries_of (catalog_layout m.mark)) levels ∙ is_too.listed in
    let trees : flat_map trees_of ones ≡ flat_map trees_of twos =
    same_forest m.mark m.pages generation small ones twos is.each is_too.each is.named is_too.named
    (All-tail (IsTreeIn m.pages) (catalog_tree m one) (flat_map trees_of ones) is.grow)
    (All-tail (IsTreeIn m.pages) (catalog_tree m two) (flat_map trees_of twos) is_too.grow) entries in
    ap (λ (l : List (List TreeNode)). catalog_tree m l ∷ flat_map trees_of ones) levels
    ∙ ap (λ (l : List TreeLevels). catalog_tree m two ∷ l) trees

-- where a page is used that a catalog and its files haven't, nothing is held
pub stray_held : (m : Map) (files : Files) (old new : List Bool) → length m.pages ≤ 2 ^ 20
    → FindsCatalog m m.generation files old new → (IsCovered m.pages new → ⊥) → (others : Files) → MapHolds m others → ⊥
stray_held m files old new small found stray others holds =
    let trees : List TreeLevels = catalog_tree m found.catalog ∷ flat_map trees_of found.kept in
    let same = one_forest m m.generation holds.keeps.catalog found.catalog holds.kept found.kept small
    (held_catalog m others holds) found.is in
    stray
    (λ page used. All-contains (λ p. slice_index_or new p false ≡ true) (pages_within trees) page found.marks.marked
    (subst (λ (l : List TreeLevels). Contains (pages_within l) page) same (holds.keeps.forest.covered page used)))

-- where a file has long records, and the volume the first mark, nothing is held
pub long_held : (m : Map) (files : Files) (old new : List Bool) → length m.pages ≤ 2 ^ 20
    → FindsCatalog m m.generation files old new → ((m.mark ≡ 0 → AreShort files) → ⊥) → (others : Files)
    → MapHolds m others → ⊥
long_held m files old new small found long others holds =
    let is = held_catalog m others holds in
    let is_too = found.is in
    let first =
    All-head (IsTreeIn m.pages) (catalog_tree m holds.keeps.catalog) (flat_map trees_of holds.kept) is.grow in
    let second =
    All-head (IsTreeIn m.pages) (catalog_tree m found.catalog) (flat_map trees_of found.kept) is_too.grow in
    let levels : holds.keeps.catalog ≡ found.catalog = one_tree (catalog_layout m.mark) m.pages m.catalog
    holds.keeps.catalog found.catalog small first.stands second.stands in
    let entries : map (catalog_entry m.mark) holds.kept ≡ map (catalog_entry m.mark) found.kept =
    sym is.listed ∙ ap (entries_of (catalog_layout m.mark)) levels ∙ is_too.listed in
    long (λ mark. subst AreShort found.are (short_as m.mark m.generation holds.kept found.kept is.each is_too.each
    is.named is_too.named entries (subst AreShort (sym holds.named) (holds.short mark))))
