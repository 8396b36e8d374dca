-- How long the rows of a tree's pages are (own choice).
use Rattle.std.specs.Prelude.{◌≤◌, ◌+◌, ◌*◌, ◌/◌, ℕ}
use Rattle.btree_pages.specs.declared.row_layout.RowLayout.{RowLayout}
use Rattle.btree_pages.specs.declared.row_layout.Kind.{Kind}
use Rattle.btree_pages.specs.declared.row_layout.Kind.TheVariants.{Leaf, Inner}

-- a leaf's row is a key and a value; an inner page's row is the least key of a child and the child's page in 4 bytes
abbrev pub rest_length : RowLayout → Kind → ℕ
rest_length layout Leaf = layout.value_length
rest_length layout Inner = 4

abbrev pub row_length : RowLayout → Kind → ℕ
row_length layout kind = layout.key_length + rest_length layout kind

-- a page has 4,080 bytes for rows
abbrev pub capacity : RowLayout → Kind → ℕ
capacity layout kind = 4080 / row_length layout kind

-- keys have a byte at least, and three rows of either kind fit into a page
pub record IsRowLayout (layout : RowLayout) : Type 0 where
  pub key : 1 ≤ layout.key_length
  pub leaf : 3 * row_length layout Leaf ≤ 4080
  pub inner : 3 * row_length layout Inner ≤ 4080
