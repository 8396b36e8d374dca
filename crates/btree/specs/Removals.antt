-- A tree without an entry.
use Rattle.std.specs.Prelude.{◌≡◌, ℕ, List, Option, Some, None, IsSome}
use Rattle.station.specs.Disk.{Sector}
use Rattle.btree_pages.specs.declared.row_layout.RowLayout.{RowLayout}
use Rattle.btree.specs.Tree.{TreeNode}
use Rattle.btree.specs.Entries.{Entry, entries_of, entry_with, without_entry}
use Rattle.btree.specs.Changes.{Becomes}
use Rattle.btree.specs.Fills.{KeepsFill}

-- What a tree became that an entry left: a tree with these entries, of whose leaves no more have less than a quarter of the rows that they have room for, unless one leaf is all that is left.
pub record Lessens (layout : RowLayout) (before : List (Option Sector)) (old : List (List TreeNode)) (after : List (Option Sector)) (root : ℕ) (entries : List Entry) : Type 0 where
  pub became : Becomes layout before old after root entries
  pub fill : KeepsFill layout old became.levels

-- after a removal: the root of the tree without the entry of that key, which was there; or none, where it wasn't
abbrev pub Removes : RowLayout → List (Option Sector) → List (List TreeNode) → List (Option Sector) → List ℕ → Option ℕ → Type 0
Removes layout before old after key None = entry_with (entries_of layout old) key ≡ None
Removes layout before old after key (Some root) = IsSome (entry_with (entries_of layout old) key) × Lessens layout before old after root (without_entry (entries_of layout old) key)
