-- A tree as its user names it.
use Rattle.std.specs.Prelude.{ℕ}
use Rattle.btree_pages.specs.declared.row_layout.RowLayout.{RowLayout}

-- the lengths of its keys and values, and its root's page, 0 where it has no entries
pub record RootedTree : Type 0 where
  pub layout : RowLayout
  pub root : ℕ
