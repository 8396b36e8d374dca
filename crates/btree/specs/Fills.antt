-- How well the leaves of a tree are filled.
use Rattle.std.specs.Prelude.{◌≤◌, ◌<◌, ◌*◌, ◌⊎◌, ◌≡◌, ℕ, Bool, nat_lt, List, length}
use Rattle.std.specs.List.{All, count_by}
use Rattle.btree_pages.specs.declared.row_layout.RowLayout.{RowLayout}
use Rattle.btree_pages.specs.declared.row_layout.Kind.{Kind}
use Rattle.btree_pages.specs.declared.row_layout.Kind.TheVariants.{Leaf, Inner}
use Rattle.btree_pages.specs.RowLayouts.{capacity}
use Rattle.btree.specs.Tree.{TreeNode, leaves_of}

-- So many rows are too few for a page that has a neighbour: less than a quarter of those that it has room for, in a leaf, and less than two, in an inner page.
abbrev pub HasTooFewRows : RowLayout → Kind → ℕ → Type 0
HasTooFewRows layout Leaf count = 4 * count < capacity layout Leaf
HasTooFewRows layout Inner count = count < 2

-- a leaf has less than a quarter of the rows that it has room for, and how many of these leaves have
abbrev pub is_thin : RowLayout → TreeNode → Bool
is_thin layout leaf = nat_lt (4 * length leaf.rows) (capacity layout Leaf)

abbrev pub thin_leaves : RowLayout → List TreeNode → ℕ
thin_leaves layout leaves = count_by (is_thin layout) leaves

-- no more leaves than before have less than a quarter, unless one leaf is all that is left
abbrev pub KeepsFill : RowLayout → List (List TreeNode) → List (List TreeNode) → Type 0
KeepsFill layout old new = 1 < length (leaves_of new) → thin_leaves layout (leaves_of new) ≤ thin_leaves layout (leaves_of old)

-- one page has all rows, or each has half of the rows that it has room for
abbrev pub IsEven : RowLayout → Kind → List TreeNode → Type 0
IsEven layout kind run = (length run ≡ 1) ⊎ All (λ node. capacity layout kind ≤ 2 * length node.rows) run
