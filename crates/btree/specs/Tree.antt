-- A tree over pages, level by level from its root down to its leaves (own choice).
use Rattle.std.specs.Prelude.{◌≡◌, ◌≢◌, ◌≤◌, ◌<◌, ◌++◌, ◌⊎◌, ℕ, List, [], ◌∷◌, map, length, slice_index_or, Option, Some, None}
use Rattle.std.specs.List.{All, flat_map, AllPairs}
use Rattle.byteorder.specs.Endian.{big_bytes}
use Rattle.station.specs.Disk.{Sector}
use Rattle.btree_pages.specs.declared.row_layout.RowLayout.{RowLayout}
use Rattle.btree_pages.specs.declared.row_layout.Kind.{Kind}
use Rattle.btree_pages.specs.declared.row_layout.Kind.TheVariants.{Leaf, Inner}
use Rattle.btree_pages.specs.RowLayouts.{row_length}
use Rattle.btree_pages.specs.Node.{Node, node_in}
use Rattle.btree_pages.specs.Keys.{key_of, keys_of, Ascend}

-- a page of a tree, with its rows
pub record TreeNode : Type 0 where
  pub page : ℕ
  pub rows : List (List ℕ)

-- the key of its first row, and its row in the level above
abbrev pub least_key : RowLayout → TreeNode → List ℕ
least_key layout node = key_of layout (slice_index_or node.rows 0 [])

abbrev pub row_of : RowLayout → TreeNode → List ℕ
row_of layout node = least_key layout node ++ big_bytes 4 node.page

-- the rows of a level, from left to right
abbrev pub rows_of : List TreeNode → List (List ℕ)
rows_of level = flat_map (λ node. node.rows) level

abbrev pub node_of : RowLayout → Kind → List (List ℕ) → Node
node_of layout kind rows = record { layout = layout; kind = kind; rows = rows }

-- the node on a page, if there is one
abbrev pub node_on : RowLayout → Option Sector → Option Node
node_on layout None = None
node_on layout (Some bytes) = node_in layout bytes

abbrev pub node_at : RowLayout → List (Option Sector) → ℕ → Option Node
node_at layout pages page = node_on layout (slice_index_or pages page None)

-- an inner page has two children at least, a leaf one entry
abbrev pub fewest : Kind → ℕ
fewest Leaf = 1
fewest Inner = 2

-- the node is on its page
pub record IsOnPage (layout : RowLayout) (pages : List (Option Sector)) (kind : Kind) (tree_node : TreeNode) : Type 0 where
  pub node : node_at layout pages tree_node.page ≡ Some (node_of layout kind tree_node.rows)
  pub lengths : All (λ row. length row ≡ row_length layout kind) tree_node.rows
  pub enough : fewest kind ≤ length tree_node.rows

-- the last level is one of leaves; the rows of each other level name the nodes of the next one, each by its least key
abbrev pub AreJoinedLevels : RowLayout → List (Option Sector) → List (List TreeNode) → Type 0
AreJoinedLevels layout pages [] = ⊥
AreJoinedLevels layout pages (leaves ∷ []) = All (IsOnPage layout pages Leaf) leaves
AreJoinedLevels layout pages (upper ∷ lower ∷ more) = All (IsOnPage layout pages Inner) upper × (rows_of upper ≡ map (row_of layout) lower) × AreJoinedLevels layout pages (lower ∷ more)

abbrev pub leaves_of : List (List TreeNode) → List TreeNode
leaves_of [] = []
leaves_of (leaves ∷ []) = leaves
leaves_of (upper ∷ lower ∷ more) = leaves_of (lower ∷ more)

-- the rows of the leaves
abbrev pub rows_in_order : List (List TreeNode) → List (List ℕ)
rows_in_order levels = rows_of (leaves_of levels)

-- each page of the tree
abbrev pub pages_of : List (List TreeNode) → List ℕ
pages_of levels = flat_map (map (λ node. node.page)) levels

abbrev pub HasTop : ℕ → List (List TreeNode) → Type 0
HasTop root [] = ⊥
HasTop root (top ∷ more) = (node : TreeNode) × (top ≡ node ∷ []) × (node.page ≡ root)

-- the pages under the root are this tree: its keys ascend, and no page stands in it twice
pub record IsTree (layout : RowLayout) (pages : List (Option Sector)) (root : ℕ) (levels : List (List TreeNode)) : Type 0 where
  pub top : HasTop root levels
  pub joined : AreJoinedLevels layout pages levels
  pub ascend : Ascend (keys_of layout (rows_in_order levels))
  pub once : AllPairs (λ one two. one ≢ two) (pages_of levels)
  pub numbers : All (λ page. (0 < page) × (page < length pages)) (pages_of levels)

-- root 0 is the tree without entries
abbrev pub IsTreeOrEmpty : RowLayout → List (Option Sector) → ℕ → List (List TreeNode) → Type 0
IsTreeOrEmpty layout pages root levels = (root ≡ 0) × (levels ≡ []) ⊎ (root ≢ 0) × IsTree layout pages root levels
