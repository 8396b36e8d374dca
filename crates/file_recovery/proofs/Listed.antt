-- The files of the catalog's entries, one after the other.
use Rattle.std.proofs.Common.{◌≡◌, ◌≤◌, ◌+◌, ◌^◌, ◌++◌, ℕ, zero, suc, Bool, List, [], ◌∷◌, length, take, drop}
use Rattle.std.proofs.Common.{append-nil, refl, sym, ap, subst, ◌∙◌, arith}
use Rattle.std.specs.Prelude.{map, Option, Some}
use Rattle.std.specs.List.{All, AllByRecursion, flat_map}
use Rattle.std.proofs.lemmas.List.{map-append, length-map}
use Rattle.std.proofs.lemmas.List.Concat.{flat_map-append}
use Rattle.std.proofs.lemmas.List.Elements.{All-nil, All-cons, All-head, All-tail, All-append}
use Rattle.station.specs.Disk.{Sector}
use Rattle.pages.specs.Image.{Map}
use Rattle.btree_pages.specs.declared.row_layout.RowLayout.{RowLayout}
use Rattle.btree.specs.Entries.{Entry, entries_of}
use Rattle.btree.specs.Rooted.{RootedTree}
use Rattle.btree.proofs.One.{one_tree}
use Rattle.btree.specs.Tree.{TreeNode, IsTreeOrEmpty, pages_of}
use Rattle.btree_check.specs.Walks.{CanMark, Marks, FindsTree}
use Rattle.records.specs.Files.{NamedFile, Files, IsNamed}
use Rattle.volume_format.specs.Catalog.{catalog_layout}
use Rattle.volume_format.specs.Forest.{TreeLevels, IsTreeIn, pages_under, pages_within}
use Rattle.volume_format.specs.Volume.{FileTrees, IsKept, trees_of, catalog_entry, catalog_tree}
use Rattle.volume_format.proofs.Forests.{all_left, all_right}
use Rattle.volume_format.proofs.Whole.{whole_grows}
use Rattle.file_recovery.specs.Kept.{IsCatalogFile, FindsFile, NoFile, IsCatalog, FindsCatalog, NoCatalog}
use Rattle.file_recovery.specs.Listed.{AreFound, FindsFiles, NoFiles, pages_of_files}
use Rattle.file_recovery.proofs.Entered.{all_behind}
use Rattle.btree_check.proofs.Marking.{marks_none, marks_append, can_left, can_after}
use Rattle.file_recovery.proofs.FirstMark.{without_count, found_first}
use Rattle.file_recovery.proofs.OneFound.{one_list_of_trees}
use Rattle.btree.proofs.Ascending.{entry_at, some_at}
use Rattle.file_recovery.proofs.Passed.{taken_more}

-- the item that an entry is of, and those after it
record Splits {X : Type 0} (f : X → Entry) (P : X → Type 0) (n : ℕ) (entry : Entry) (items : List X) : Type 0 where
  item : X
  is : P item
  of : f item ≡ entry
  split : drop n items ≡ item ∷ drop (suc n) items

splits : {X : Type 0} (f : X → Entry) (P : X → Type 0) (items : List X) (n : ℕ) (entry : Entry) → AllByRecursion P items
    → entry_at n (map f items) ≡ Some entry → Splits f P n entry items
splits f P [] n entry all at = cc
splits f P (x ∷ items) zero entry all at = record { item = x; is = all.0; of = cc; split = refl }
splits f P (x ∷ items) (suc n) entry all at =
    let rest = splits f P items n entry all.1 at in
    record { item = rest.item; is = rest.is; of = rest.of; split = rest.split }

module _ (mark : ℕ) (pages : List (Option Sector)) (generation : ℕ) where
  abbrev IsOwn : FileTrees → Type 0
  IsOwn one = IsCatalogFile mark pages generation (catalog_entry mark one) one

  -- the trees of one file and of others
  pages_of_more : (one : FileTrees) (kept : List FileTrees)
      → pages_of_files (one ∷ kept) ≡ pages_within (trees_of one) ++ pages_of_files kept
  pages_of_more one kept = flat_map-append pages_under (trees_of one) (flat_map trees_of kept)

  pages_of_one : (one : FileTrees) → pages_of_files (one ∷ []) ≡ pages_within (trees_of one)
  pages_of_one one = pages_of_more one [] ∙ append-nil (pages_within (trees_of one))

  pages_of_both : (kept more : List FileTrees)
      → pages_of_files (kept ++ more) ≡ pages_of_files kept ++ pages_of_files more
  pages_of_both kept more = ap pages_within (flat_map-append trees_of kept more)
      ∙ flat_map-append pages_under (flat_map trees_of kept) (flat_map trees_of more)

  own_entry : (entry : Entry) (one : FileTrees) → IsCatalogFile mark pages generation entry one → IsOwn one
  own_entry entry one found = record { is = found.is; named = found.named; grow = found.grow; listed = refl }

  pub no_files : {files : Files} → files ≡ [] → (seen : List Bool) → FindsFiles mark pages generation [] files seen seen
  no_files are seen =
      record { kept = []; found = record { listed = refl; each = tt }; are = sym are; marks = marks_none seen }

  pub one_more_file : (entries : List Entry) (n : ℕ) (entry : Entry) (files : Files) (one : NamedFile)
      (old mid new : List Bool) → entry_at n entries ≡ Some entry →
      FindsFiles mark pages generation (take n entries) files old mid
      → FindsFile mark pages generation entry one mid new
      → FindsFiles mark pages generation (take (n + 1) entries) (files ++ one ∷ []) old new
  one_more_file entries n entry files one old mid new at before finds =
      let kept : List FileTrees = before.kept in
      let last : List FileTrees = finds.kept ∷ [] in
      let name : FileTrees → NamedFile = λ k. k.named in
      record {
        kept = kept ++ last;
        found = record {
          listed = map-append (catalog_entry mark) kept last
              ∙ ap (λ (l : List Entry). l ++ map (catalog_entry mark) last) before.found.listed
              ∙ ap (λ (e : Entry). take n entries ++ e ∷ []) finds.found.listed ∙ sym (taken_more entries n entry at);
          each = all_behind IsOwn kept finds.kept before.found.each (own_entry entry finds.kept finds.found);
        };
        are = map-append name kept last ∙ ap (λ (l : Files). l ++ map name last) before.are
            ∙ ap (λ (k : NamedFile). files ++ k ∷ []) finds.is;
        marks =
            let both : pages_of_files (kept ++ last) ≡ pages_of_files kept ++ pages_within (trees_of finds.kept) =
            pages_of_both kept last ∙ ap (λ (l : List ℕ). pages_of_files kept ++ l) (pages_of_one finds.kept) in
            subst (λ (l : List ℕ). Marks old l new) (sym both) (marks_append old mid new (pages_of_files kept)
            (pages_within (trees_of finds.kept)) before.marks finds.marks);
      }

  -- what a list of such files has after a place can still be marked
  abbrev pub CanGoOn : List Entry → List Bool → ℕ → List Bool → Type 0
  CanGoOn entries old n seen = (kept : List FileTrees) → AreFound mark pages generation entries kept
      → CanMark old (pages_of_files kept) → CanMark seen (pages_of_files (drop n kept))

  pub at_first : (entries : List Entry) (seen : List Bool) → CanGoOn entries seen 0 seen
  at_first entries seen = λ kept found can. can

  module _ (entries : List Entry) (n : ℕ) (entry : Entry) (at : entry_at n entries ≡ Some entry) where
    there : (kept : List FileTrees) → AreFound mark pages generation entries kept
        → Splits (catalog_entry mark) IsOwn n entry kept
    there kept found = splits (catalog_entry mark) IsOwn kept n entry found.each (ap (entry_at n) found.listed ∙ at)

    found_there : (own : FileTrees) → IsOwn own → catalog_entry mark own ≡ entry
        → IsCatalogFile mark pages generation entry own
    found_there own is of = record { is = is.is; named = is.named; grow = is.grow; listed = of }

    can_here : (kept : List FileTrees) (found : AreFound mark pages generation entries kept) (seen : List Bool)
        → CanMark seen (pages_of_files (drop n kept)) →
        CanMark seen (pages_within (trees_of (there kept found).item) ++ pages_of_files (drop (suc n) kept))
    can_here kept found seen can =
        let here = there kept found in
        subst (CanMark seen) (ap pages_of_files here.split ∙ pages_of_more here.item (drop (suc n) kept)) can

    pub goes_on : (one : NamedFile) (old mid new : List Bool) → length pages ≤ 2 ^ 20 → CanGoOn entries old n mid
        → FindsFile mark pages generation entry one mid new → CanGoOn entries old (n + 1) new
    goes_on one old mid new small before finds = λ kept found can.
        let here = there kept found in
        let same = one_list_of_trees pages generation (without_count entry) small finds.kept here.item
        (found_first finds.found) (found_first (found_there here.item here.is here.of)) in
        let marks = subst (λ (l : List TreeLevels). Marks mid (pages_within l) new) same finds.marks in
        let rest = can_after mid new (pages_within (trees_of here.item)) (pages_of_files (drop (suc n) kept)) marks
        (can_here kept found mid (before kept found can)) in
        subst (λ (k : ℕ). CanMark new (pages_of_files (drop k kept))) (let e : suc n ≡ n + 1 = omega arith in e) rest

    pub none_here : (old mid : List Bool) → CanGoOn entries old n mid → NoFile mark pages generation entry mid
        → NoFiles mark pages generation entries old
    none_here old mid before never = λ kept found few can.
        let here = there kept found in
        never here.item (found_there here.item here.is here.of) (can_left mid (pages_within (trees_of here.item))
        (pages_of_files (drop (suc n) kept)) (can_here kept found mid (before kept found can)))

    pub too_many : (old : List Bool) → 255 ≤ n → NoFiles mark pages generation entries old
    too_many old high = λ kept found few can.
        let many = length-map kept (catalog_entry mark) in
        let same : length (map (catalog_entry mark) kept) ≡ length entries =
        ap (λ (l : List Entry). length l) found.listed in
        let long = some_at entries n entry at in
        absurd (omega (arith, high, few, many, same, long))

  -- all trees of such files, and what is so of each file
  pub all_grow : (kept : List FileTrees) → AllByRecursion IsOwn kept → All (IsTreeIn pages) (flat_map trees_of kept)
  all_grow [] each = All-nil (IsTreeIn pages)
  all_grow (one ∷ kept) each =
      All-append (IsTreeIn pages) (trees_of one) (flat_map trees_of kept) each.0.grow (all_grow kept each.1)

  pub all_kept : (kept : List FileTrees) → AllByRecursion IsOwn kept → All (IsKept generation) kept
  all_kept [] each = All-nil (IsKept generation)
  all_kept (one ∷ kept) each = All-cons (IsKept generation) one kept each.0.is (all_kept kept each.1)

  pub all_named : (kept : List FileTrees) → AllByRecursion IsOwn kept
      → AllByRecursion IsNamed (map (λ (one : FileTrees). one.named) kept)
  all_named [] each = tt
  all_named (one ∷ kept) each = (each.0.named, all_named kept each.1)

  pub each_own : (kept : List FileTrees) → All (IsTreeIn pages) (flat_map trees_of kept) → All (IsKept generation) kept
      → AllByRecursion IsNamed (map (λ (one : FileTrees). one.named) kept) → AllByRecursion IsOwn kept
  each_own [] grow each named = tt
  each_own (one ∷ kept) grow each named = (
    record {
      is = All-head (IsKept generation) one kept each;
      named = named.0;
      grow = all_left (IsTreeIn pages) (trees_of one) (flat_map trees_of kept) grow;
      listed = refl;
    },
    each_own kept (all_right (IsTreeIn pages) (trees_of one) (flat_map trees_of kept) grow)
        (All-tail (IsKept generation) one kept each) named.1,
  )

-- the catalog of a map, and the files of its entries
module _ (m : Map) (generation : ℕ) (catalog : List (List TreeNode)) where
  pub finds_catalog : (files : Files) (old mid new : List Bool)
      → IsTreeOrEmpty (catalog_layout m.mark) m.pages m.catalog catalog → Marks old (pages_of catalog) mid
      → length files ≤ 255 →
      FindsFiles m.mark m.pages generation (entries_of (catalog_layout m.mark) catalog) files mid new
      → FindsCatalog m generation files old new
  finds_catalog files old mid new stands marks few finds =
      let tree : TreeLevels = catalog_tree m catalog in
      let kept : List FileTrees = finds.kept in
      let many = length-map kept (λ (one : FileTrees). one.named) in
      let same : length (map (λ (one : FileTrees). one.named) kept) ≡ length files =
      ap (λ (l : Files). length l) finds.are in
      record {
        catalog = catalog;
        kept = kept;
        is = record {
          grow = All-cons (IsTreeIn m.pages) tree (flat_map trees_of kept)
              (whole_grows m.pages tree.tree catalog stands) (all_grow m.mark m.pages generation kept finds.found.each);
          listed = sym finds.found.listed;
          each = all_kept m.mark m.pages generation kept finds.found.each;
          named = all_named m.mark m.pages generation kept finds.found.each;
          few = omega (arith, few, many, same);
        };
        are = finds.are;
        marks = marks_append old mid new (pages_of catalog) (pages_of_files kept) marks finds.marks;
      }

  pub catalog_grows : (kept : List FileTrees) → IsCatalog m generation catalog kept
      → IsTreeOrEmpty (catalog_layout m.mark) m.pages m.catalog catalog
  catalog_grows kept is =
      (All-head (IsTreeIn m.pages) (catalog_tree m catalog) (flat_map trees_of kept) is.grow).stands

  pub catalog_found : (kept : List FileTrees) → IsCatalog m generation catalog kept
      → AreFound m.mark m.pages generation (entries_of (catalog_layout m.mark) catalog) kept
  catalog_found kept is = record {
    listed = sym is.listed;
    each = each_own m.mark m.pages generation kept
        (All-tail (IsTreeIn m.pages) (catalog_tree m catalog) (flat_map trees_of kept) is.grow) is.each is.named;
  }

-- a tree of the catalog's layout and root, which was read
module _ (m : Map) (generation : ℕ) {tree : RootedTree} {old mid : List Bool}
    (layout : tree.layout ≡ catalog_layout m.mark)
    (root : tree.root ≡ m.catalog) (found : FindsTree tree.layout m.pages tree.root old mid) where
  named_catalog : IsTreeOrEmpty (catalog_layout m.mark) m.pages m.catalog found.levels
  named_catalog = subst (λ (l : RowLayout). IsTreeOrEmpty l m.pages m.catalog found.levels) layout
      (subst (λ (r : ℕ). IsTreeOrEmpty tree.layout m.pages r found.levels) root found.holds)

  pub catalog_read : {files : Files} {new : List Bool} → length files ≤ 255
      → FindsFiles m.mark m.pages generation (entries_of tree.layout found.levels) files mid new
      → FindsCatalog m generation files old new
  catalog_read {files} {new} few finds =
      finds_catalog m generation found.levels files old mid new named_catalog found.marks few
      (subst (λ (l : RowLayout). FindsFiles m.mark m.pages generation (entries_of l found.levels) files mid new) layout
      finds)

  -- where its entries are of no files, there is no catalog
  pub no_catalog_read : length m.pages ≤ 2 ^ 20
      → NoFiles m.mark m.pages generation (entries_of tree.layout found.levels)
      mid → NoCatalog m generation old
  no_catalog_read small never = λ catalog kept is can.
      let levels : found.levels ≡ catalog =
      one_tree (catalog_layout m.mark) m.pages m.catalog found.levels catalog small
      named_catalog (catalog_grows m generation catalog kept is) in
      let marks = subst (λ (l : List (List TreeNode)). Marks old (pages_of l) mid) levels found.marks in
      let none = subst (λ (l : List (List TreeNode)). NoFiles m.mark m.pages generation
      (entries_of (catalog_layout m.mark) l) mid) levels
      (subst (λ (l : RowLayout). NoFiles m.mark m.pages generation (entries_of l found.levels) mid) layout never) in
      none kept (catalog_found m generation catalog kept is) is.few
      (can_after old mid (pages_of catalog) (pages_of_files kept) marks can)
