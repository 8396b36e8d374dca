-- A tree that is built of its leaves.
use Rattle.std.specs.Prelude.{◌≡◌, ◌<◌, ℕ, List, [], length, Option, Result, IfOk}
use Rattle.std.specs.List.{flat_map}
use Rattle.station.specs.Disk.{Sector}
use Rattle.btree_pages.specs.declared.row_layout.RowLayout.{RowLayout}
use Rattle.btree_pages.specs.declared.row_layout.Kind.TheVariants.{Leaf}
use Rattle.btree_pages.specs.Keys.{Ascend, keys_of}
use Rattle.btree_pages.specs.Node.{Node}
use Rattle.pages.specs.declared.page_map.PageMap.{PageMap}
use Rattle.pages.specs.declared.error.PagesError.{PagesError}
use Rattle.btree.specs.Tree.{TreeNode, IsTreeOrEmpty, pages_of, rows_in_order}
use Rattle.btree.specs.Moves.{Moves}
use Rattle.btree.specs.Changes.{pages_of_map}
use Rattle.btree.specs.Rooted.{RootedTree}

-- a leaf of this layout with one entry at least
pub record IsLeafOf (layout : RowLayout) (node : Node) : Type 0 where
  pub like : node.layout ≡ layout
  pub kind : node.kind ≡ Leaf
  pub some : 0 < length node.rows

-- the rows of some nodes, from left to right
abbrev pub rows_of_nodes : List Node → List (List ℕ)
rows_of_nodes nodes = flat_map (λ (node : Node). node.rows) nodes

-- Under the root is a tree of these rows. Its pages were none before, and the others are as they were.
pub record Builds (layout : RowLayout) (before : List (Option Sector)) (rows : List (List ℕ)) (after : List (Option Sector)) (root : ℕ) : Type 0 where
  pub levels : List (List TreeNode)
  pub stands : IsTreeOrEmpty layout after root levels
  pub in_order : rows_in_order levels ≡ rows
  pub moves : Moves before [] after (pages_of levels)

-- if the keys of the leaves ascend, `Ok` is returned only with a tree of their rows
abbrev pub OkOnlyIfBuilt : RowLayout → PageMap → List Node → PageMap → Result RootedTree PagesError → Type 0
OkOnlyIfBuilt layout old leaves new result =
    Ascend (keys_of layout (rows_of_nodes leaves)) →
    IfOk result (λ tree. (image : List Sector) → Builds layout (pages_of_map old image) (rows_of_nodes leaves) (pages_of_map new image) tree.root)
