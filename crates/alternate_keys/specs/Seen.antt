-- The trees in which a row is sought.
use Rattle.std.specs.Prelude.{◌≡◌, ℕ, Bool, false, List, map, length, take, Option, Some, None, Contains, ⊤}
use Rattle.std.specs.List.{All}
use Rattle.byteorder.specs.Endian.{big_number}
use Rattle.station.specs.Disk.{Sector}
use Rattle.btree.specs.Tree.{TreeNode, IsTreeOrEmpty}
use Rattle.chains.specs.Rows.{HasChain, unrolled_entry}
use Rattle.btree.specs.Rooted.{RootedTree}
use Rattle.btree.specs.Entries.{Entry, entries_of}
use Rattle.records.specs.declared.file_spec.KeyPlace.{KeyPlace}
use Rattle.records.specs.declared.file_spec.Organization.{Organization}
use Rattle.records.specs.declared.file_spec.Organization.TheVariants.{Sequential, Relative, Indexed}
use Rattle.records.specs.declared.key.KeyOfReference.{KeyOfReference}
use Rattle.records.specs.declared.key.KeyOfReference.TheVariants.{Prime, Alternate}
use Rattle.records.specs.Spec.{Spec}
use Rattle.records.specs.Rows.{Row, same_bytes}
use Rattle.records.specs.Stores.{key_length}
use Rattle.volume_format.specs.Chained.{chained_bytes, form_of}
use Rattle.volume_format.specs.Forest.{TreeLevels}
use Rattle.volume_format.specs.Trees.{entry_under, layout_under, AreOf}
use Rattle.row_trees.specs.Reading.{HasRecord, IsRecordLength}
use Rattle.row_trees.specs.RowTree.{ChainedTree, IsRowTree}
use Rattle.records.specs.Order.{RowBound}
use Rattle.alternate_keys.specs.declared.search_start.SearchStart.{SearchStart}
use Rattle.volume_format.specs.Pairs.{IsUnder}
use Rattle.alternate_keys.specs.Aims.{IsBound, aim_of, aim_key}

-- the tree of rows of a file of this spec
abbrev pub row_tree_of : Spec → RootedTree → ChainedTree
row_tree_of spec tree = record { tree = tree; record_bytes = chained_bytes spec }

-- the pages have these rows under the prime key
pub record HasRows (spec : Spec) (pages : List (Option Sector)) (rows : List Row) (prime : ChainedTree) : Type 0 where
  pub planted : TreeLevels
  pub stands : IsRowTree pages prime planted
  pub form : prime.record_bytes ≡ chained_bytes spec
  pub entries : planted.entries ≡ map (entry_under spec Prime) rows
  pub fits : All (IsUnder spec Prime) rows
  pub records : All (λ row. length row.bytes ≡ spec.record_length) rows

-- the entries of the tree of a key as they are seen, with their records in place
abbrev pub seen_as : Spec → KeyOfReference → List (Option Sector) → Entry → Entry
seen_as spec Prime pages entry = unrolled_entry (form_of (chained_bytes spec)) pages entry
seen_as spec (Alternate i) pages entry = entry

abbrev pub seen_under : Spec → KeyOfReference → List (Option Sector) → List Entry → List Entry
seen_under spec Prime pages entries = map (unrolled_entry (form_of (chained_bytes spec)) pages) entries
seen_under spec (Alternate i) pages entries = entries

-- the chains of their records stand
abbrev pub HaveChains : Spec → KeyOfReference → List (Option Sector) → List Entry → Type 0
HaveChains spec Prime pages entries = All (HasChain (form_of (chained_bytes spec)) pages) entries
HaveChains spec (Alternate i) pages entries = ⊤

-- the pages have the pairs of these rows under a key
pub record HasPairs (spec : Spec) (key : KeyOfReference) (pages : List (Option Sector)) (rows : List Row) (tree : RootedTree) : Type 0 where
  pub levels : List (List TreeNode)
  pub holds : IsTreeOrEmpty tree.layout pages tree.root levels
  pub layout : tree.layout ≡ layout_under spec key
  pub stand : HaveChains spec key pages (entries_of tree.layout levels)
  pub are : AreOf spec key rows (seen_under spec key pages (entries_of tree.layout levels))
  pub fits : All (IsUnder spec key) rows

-- the number that a key of the tree of rows has
abbrev pub number_in : Organization → List ℕ → ℕ
number_in Sequential key = big_number 8 key
number_in Relative key = big_number 4 key
number_in (Indexed place) key = 0

-- whether an entry's key begins with a value
abbrev pub begins_with_value : List ℕ → Option Entry → Bool
begins_with_value value None = false
begins_with_value value (Some entry) = same_bytes (take (length value) entry.key) value

-- an entry of the tree of rows is that of this row, and has its record
pub record IsRowEntry (spec : Spec) (record_bytes : ℕ) (pages : List (Option Sector)) (entry : Entry) (row : Row) :
    Type 0 where
  pub is : unrolled_entry (form_of record_bytes) pages entry ≡ entry_under spec Prime row
  pub has : HasRecord record_bytes pages entry (length row.bytes)
  pub fits : IsRecordLength record_bytes (length row.bytes)

-- the entry of a row's pair, in an indexed file
pub record IsPairEntry (spec : Spec) (i : ℕ) (pages : List (Option Sector)) (rows : List Row) (prime : ChainedTree) (under : RootedTree) (value_length : ℕ) (entry : Entry) (row : Row) : Type 0 where
  pub place : KeyPlace
  pub indexed : spec.organization ≡ Indexed place
  pub there : HasRows spec pages rows prime
  pub pairs : HasPairs spec (Alternate i) pages rows under
  pub long : value_length ≡ key_length spec (Alternate i)
  pub has : Contains rows row
  pub is : entry ≡ entry_under spec (Alternate i) row

-- The trees of a file with these rows, and how the tree of a key is looked into for the first row after a place.
pub record IsSought (spec : Spec) (key : KeyOfReference) (bound : RowBound) (pages : List (Option Sector)) (rows : List Row) (prime : ChainedTree) (under : RootedTree) (way : SearchStart) (at : List ℕ) : Type 0 where
  pub there : HasRows spec pages rows prime
  pub pairs : HasPairs spec key pages rows under
  pub bounded : IsBound spec key bound
  pub way_is : way ≡ aim_of spec key bound
  pub at_is : at ≡ aim_key spec key bound
  -- a file with alternate keys is indexed
  pub indexed : (i : ℕ) → key ≡ Alternate i → (place : KeyPlace) × (spec.organization ≡ Indexed place)
