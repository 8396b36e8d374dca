-- A tree of rows among other trees. The record of a row is in the tree itself, or in a chain of pages.
use Rattle.std.specs.Prelude.{◌≡◌, ◌≤◌, ◌+◌, ◌-◌, ◌++◌, ℕ, zero, suc, List, ◌∷◌, length, Option, ⊤}
use Rattle.station.specs.Disk.{Sector}
use Rattle.btree_pages.specs.declared.row_layout.RowLayout.{RowLayout}
use Rattle.btree.specs.Entries.{Entry}
use Rattle.btree.specs.Rooted.{RootedTree}
use Rattle.volume_format.specs.Forest.{TreeLevels, IsTreeIn, IsForest}

-- the tree, and the bytes of each record if records are in chains, else 0
pub record ChainedTree : Type 0 where
  pub tree : RootedTree
  pub record_bytes : ℕ

-- how long a value is with its whole record: in a tree with chains it has the record in the place of four bytes
abbrev pub whole_length : ℕ → ℕ → ℕ
whole_length zero stored = stored
whole_length (suc more) stored = suc more + (stored - 4)

abbrev pub value_length : ChainedTree → ℕ
value_length rows = whole_length rows.record_bytes rows.tree.layout.value_length

-- A value in a tree with chains begins with the page of a chain, and has at most 64 bytes.
abbrev pub FitsForm : ℕ → RowLayout → Type 0
FitsForm zero layout = ⊤
FitsForm (suc more) layout = (4 ≤ layout.value_length) × (layout.value_length ≤ 64)

-- the key and the whole value of an entry have the lengths that the tree has
abbrev pub HasWholeLengths : ChainedTree → Entry → Type 0
HasWholeLengths rows entry =
    (length entry.key ≡ rows.tree.layout.key_length) × (length entry.value ≡ value_length rows)

-- the pages are this tree
pub record IsRowTree (pages : List (Option Sector)) (rows : ChainedTree) (planted : TreeLevels) : Type 0 where
  pub tree_is : planted.tree ≡ rows.tree
  pub form_is : planted.record_bytes ≡ rows.record_bytes
  pub grows : IsTreeIn pages planted

-- The tree has these entries, with their records in place, and stands among the others.
pub record IsRowTreeAmong (pages : List (Option Sector)) (left right : List TreeLevels) (rows : ChainedTree)
    (entries : List Entry) : Type 0 where
  pub planted : TreeLevels
  pub tree_is : planted.tree ≡ rows.tree
  pub form_is : planted.record_bytes ≡ rows.record_bytes
  pub forest : IsForest pages (left ++ planted ∷ right)
  pub listed : planted.entries ≡ entries
