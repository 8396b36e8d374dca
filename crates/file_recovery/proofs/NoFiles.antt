-- What shows that an entry of the catalog, without its number of rows, tells of no file with its trees.
use Rattle.std.proofs.Common.{◌≡◌, ◌≤◌, ◌<◌, ◌^◌, ◌++◌, ℕ, Bool, List, length, drop, refl, sym, subst, ◌∙◌, arith}
use Rattle.std.specs.Prelude.{Option, Some, IfSome}
use Rattle.std.specs.List.{All, AllByRecursion}
use Rattle.byteorder.specs.Endian.{big_number}
use Rattle.station.specs.Disk.{Sector}
use Rattle.btree_pages.specs.declared.row_layout.RowLayout.{RowLayout}
use Rattle.btree.specs.Entries.{Entry, entries_of}
use Rattle.btree.specs.Rooted.{RootedTree}
use Rattle.btree.specs.Tree.{TreeNode, IsTreeOrEmpty, pages_of}
use Rattle.btree.proofs.One.{one_tree}
use Rattle.btree_check.specs.Walks.{IsUnmarked, CanMark, Marks, FindsTree}
use Rattle.chains.specs.Rows.{chains_of}
use Rattle.records.specs.declared.key.KeyOfReference.TheVariants.{Prime}
use Rattle.records.specs.Files.{IsRow}
use Rattle.records.specs.Laws.{RowsAscend}
use Rattle.records.specs.Rows.{Row}
use Rattle.records.specs.Spec.{Spec}
use Rattle.records.specs.Stores.{spec_of}
use Rattle.records.specs.declared.file_spec.FileSpec.{FileSpec}
use Rattle.file_bytes.specs.Description.{padded_name}
use Rattle.volume_format.specs.Catalog.{listing_bytes}
use Rattle.volume_format.specs.Forest.{TreeLevels, IsTreeIn, pages_under, pages_within}
use Rattle.volume_format.specs.Trees.{layout_under}
use Rattle.volume_format.specs.Volume.{FileTrees}
use Rattle.volume_format.proofs.Forests.{all_right}
use Rattle.file_recovery.specs.Found.{FindsIndexes, NoIndexes}
use Rattle.file_recovery.specs.Kept.{IsCatalogFile, FindsFile, NoFile}
use Rattle.file_recovery.specs.Read.{listing_in}
use Rattle.file_recovery.specs.Rows.{form_under, FindsRows, NoRows}
use Rattle.file_recovery.proofs.Ascents.{rows_ascend}
use Rattle.file_recovery.proofs.Headings.{IsHeading, heading_read, root_told}
use Rattle.file_recovery.proofs.Kepts.{own_root, own_prime, own_chains, own_stand, own_seen, own_rows, own_indexes}
use Rattle.file_recovery.proofs.Kepts.{finds_file}
use Rattle.file_recovery.proofs.Kepts.{prime_layout_is, same_prime, same_rows}
use Rattle.file_recovery.proofs.PlantedRows.{can_swapped, planted_rows, FindsRowTree, planted_marks, planted_grows}
use Rattle.file_recovery.proofs.PlantedRows.{rows_up}
use Rattle.btree_check.proofs.Marking.{can_left, can_after}

-- The entry spells a file, and this tree has the layout and the root of its rows.
pub record ReadsEntry (pages : List (Option Sector)) (generation : ℕ) (entry : Entry) (name : List ℕ) (spec : Spec)
    (next : ℕ) (tree : RootedTree) : Type 0 where
  pub small : length pages ≤ 2 ^ 20
  pub few : generation < 2 ^ 63
  pub heading : IsHeading generation entry name spec next
  pub layout : tree.layout ≡ layout_under spec Prime
  pub root : tree.root ≡ big_number 4 (drop 43 entry.value)

-- the file and the tree that were read of its key and value
module _ (entry : Entry) (key value : List ℕ) (key_is : key ≡ entry.key) (value_is : value ≡ entry.value) where
  pub entry_is : {pages : List (Option Sector)} {generation : ℕ} {found : Option FileSpec} {file : FileSpec} {next : ℕ}
      {tree : RootedTree} → generation < 2 ^ 63 → found ≡ Some file
      → IfSome found (λ f. (key ≡ padded_name f.name.items) × (value ≡ listing_bytes (listing_in (spec_of f) value)))
      → next ≡ big_number 8 (drop 75 value) → (1 ≤ next) × (next ≤ generation)
      → tree.layout ≡ layout_under (spec_of file) Prime → tree.root ≡ big_number 4 (drop 43 value)
      → length pages ≤ 2 ^ 20 → ReadsEntry pages generation entry file.name.items (spec_of file) next tree
  entry_is {generation = generation} {found} {file} {next} {tree} few is read next_is fits layout root small = record {
    small = small;
    few = few;
    heading = heading_read entry key value key_is value_is generation found file next is read next_is fits;
    layout = layout;
    root = root_told entry key value key_is value_is tree.root root;
  }

-- The tree is there, and has these rows of a file.
pub record ReadsRows (pages : List (Option Sector)) (spec : Spec) (next : ℕ) (tree : RootedTree) (rows : List Row)
    (old mid new : List Bool) : Type 0 where
  pub levels : List (List TreeNode)
  pub there : FindsRowTree spec pages tree levels rows old mid new
  pub are : AllByRecursion (IsRow spec next) rows
  pub ascend : RowsAscend spec.organization rows

module _ {pages : List (Option Sector)} {generation : ℕ} {entry : Entry} {name : List ℕ} {spec : Spec} {next : ℕ}
    {tree : RootedTree} (read : ReadsEntry pages generation entry name spec next tree) where
  -- the rows of the tree that was found
  pub rows_read : {rows : List Row} {old mid new : List Bool} → FindsTree tree.layout pages tree.root old mid
      → ((levels : List (List TreeNode)) → IsTreeOrEmpty tree.layout pages tree.root levels
      → FindsRows spec pages (entries_of tree.layout levels) rows mid new) → AllByRecursion (IsRow spec next) rows
      → ReadsRows pages spec next tree rows old mid new
  rows_read {rows} {old} {mid} {new} found listed are =
      let there : FindsRowTree spec pages tree found.levels rows old mid new = record {
        stands = found.holds;
        marks = found.marks;
        listed = listed found.levels found.holds;
      } in
      let low = read.heading.few in
      let few = read.few in
      record {
        levels = found.levels;
        there = there;
        are = are;
        ascend = rows_ascend spec next read.heading.spec_is read.heading.some (omega (arith, low, few)) rows are
            (rows_up spec pages tree found.levels rows old mid new there);
      }

  -- the rows of a file of which the entry tells stand under that root
  prime_stands : (kept : FileTrees) → IsCatalogFile 0 pages generation entry kept
      → IsTreeOrEmpty tree.layout pages tree.root kept.prime.levels
  prime_stands kept found =
      let grows = own_prime pages generation entry kept read.small read.few found in
      subst (λ (l : RowLayout). IsTreeOrEmpty l pages tree.root kept.prime.levels)
      (prime_layout_is pages generation entry kept read.small read.few found name spec next read.heading
      ∙ sym read.layout)
      (subst (λ (r : ℕ). IsTreeOrEmpty kept.prime.tree.layout pages r kept.prime.levels)
      (own_root pages generation entry kept read.small read.few found ∙ sym read.root) grows.stands)

  -- no tree without a mark stands there
  pub no_tree_there : (old : List Bool) → ((levels : List (List TreeNode))
      → IsTreeOrEmpty tree.layout pages tree.root levels → All (IsUnmarked old) (pages_of levels) → ⊥)
      → NoFile 0 pages generation entry old
  no_tree_there old never = λ kept found can. never kept.prime.levels (prime_stands kept found)
      (all_right (IsUnmarked old) kept.prime.chains (pages_of kept.prime.levels)
      (can_left old (pages_under kept.prime) (pages_within kept.alternates) can).unmarked)

  -- the levels that stand there are those of each file of which the entry tells
  same_levels : (levels : List (List TreeNode)) → IsTreeOrEmpty tree.layout pages tree.root levels → (kept : FileTrees)
      → IsCatalogFile 0 pages generation entry kept → levels ≡ kept.prime.levels
  same_levels levels stands kept found =
      one_tree tree.layout pages tree.root levels kept.prime.levels read.small stands (prime_stands kept found)

  -- what stands there are no rows of the file
  pub no_rows_there : (old mid : List Bool) (levels : List (List TreeNode))
      → IsTreeOrEmpty tree.layout pages tree.root levels → Marks old (pages_of levels) mid
      → NoRows spec next pages (entries_of tree.layout levels) mid → NoFile 0 pages generation entry old
  no_rows_there old mid levels stands marks never = λ kept found can.
      let same = same_levels levels stands kept found in
      let own = kept.prime.levels in
      let marked = subst (λ (l : List (List TreeNode)). Marks old (pages_of l) mid) same marks in
      let chains = subst (λ (l : List ℕ). CanMark old (l ++ pages_of own))
      (own_chains pages generation entry kept read.small read.few found name spec next read.heading tree.layout
      read.layout)
      (can_left old (pages_under kept.prime) (pages_within kept.alternates) can) in
      subst (λ (l : List (List TreeNode)). NoRows spec next pages (entries_of tree.layout l) mid) same never
      kept.named.file.rows (own_rows pages generation entry kept read.small read.few found name spec next read.heading)
      (own_stand pages generation entry kept read.small read.few found name spec next read.heading tree.layout
      read.layout)
      (own_seen pages generation entry kept read.small read.few found name spec next read.heading tree.layout
      read.layout)
      (can_after old mid (pages_of own) (chains_of (form_under spec) pages (entries_of tree.layout own)) marked
      (can_swapped old (chains_of (form_under spec) pages (entries_of tree.layout own)) (pages_of own) chains))

  -- the rows that were found there are those of each file of which the entry tells
  module _ {rows : List Row} {old mid new : List Bool} (got : ReadsRows pages spec next tree rows old mid new) where
    grows : IsTreeIn pages (planted_rows spec pages tree got.levels)
    grows = planted_grows spec pages tree got.levels rows old mid new got.there

    marks : Marks old (pages_under (planted_rows spec pages tree got.levels)) new
    marks = planted_marks spec pages tree got.levels rows old mid new got.there

    tree_there : (kept : FileTrees) → IsCatalogFile 0 pages generation entry kept
        → planted_rows spec pages tree got.levels ≡ kept.prime
    tree_there kept found = same_prime pages generation entry kept read.small read.few found name spec next read.heading
        (planted_rows spec pages tree got.levels) read.layout read.root refl grows

    pub same_rows_there : (kept : FileTrees) → IsCatalogFile 0 pages generation entry kept
        → rows ≡ kept.named.file.rows
    same_rows_there kept found = same_rows pages generation entry kept read.small read.few found name spec next
        read.heading (planted_rows spec pages tree got.levels) rows (tree_there kept found) got.there.listed.are got.are
        got.ascend

    -- and their pairs aren't there
    pub no_pairs_there : NoIndexes pages spec rows entry.value (length spec.alternates) new
        → NoFile 0 pages generation entry old
    no_pairs_there never = λ kept found can. never kept.alternates
        (own_indexes pages generation entry kept read.small read.few found name spec next read.heading rows
        (same_rows_there kept found))
        (can_after old new (pages_under kept.prime) (pages_within kept.alternates)
        (subst (λ (t : TreeLevels). Marks old (pages_under t) new) (tree_there kept found) marks) can)

    -- with their pairs they are the file
    pub file_read : {last : List Bool} → FindsIndexes pages spec rows entry.value (length spec.alternates) new last
        → FindsFile 0 pages generation entry
        (record { name = name; file = record { spec = spec; rows = rows; next_arrival = next } }) old last
    file_read {last} indexes = finds_file pages generation entry name spec rows next
        (planted_rows spec pages tree got.levels) old new last read.heading read.layout read.root refl grows marks
        got.there.listed.are got.are got.ascend indexes
