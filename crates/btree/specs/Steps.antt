-- One step of a key's way down a tree.
use Rattle.std.specs.Prelude.{◌≡◌, ◌<◌, ◌≤◌, ◌+◌, ℕ, List, [], length, slice_index_or, Option, Some, None}
use Rattle.station.specs.Disk.{Sector}
use Rattle.btree_pages.specs.declared.row_layout.RowLayout.{RowLayout}
use Rattle.btree_pages.specs.declared.row_layout.Kind.TheVariants.{Leaf, Inner}
use Rattle.btree_pages.specs.Keys.{key_of, keys_of, child_of, Ascend}
use Rattle.btree_pages.specs.Node.{Node, node_in}
use Rattle.btree.specs.declared.child.Child.{Child}
use Rattle.btree.specs.declared.path_step.PathStep.{PathStep}
use Rattle.btree.specs.Tree.{TreeNode, IsOnPage, node_at}
use Rattle.btree.specs.Path.{IsChosen, EndsAt}

-- an inner page's row for the key names this child; with what was to the right of the page, and what is to the right of the row
pub record StepsToChild (node : Node) (key : List ℕ) (old new : Option (List ℕ)) (child : Child) : Type 0 where
  pub inner : node.kind ≡ Inner
  pub chosen : Ascend (keys_of node.layout node.rows) → IsChosen node.layout key node.rows child.place
  pub page : child.page ≡ child_of node.layout (slice_index_or node.rows child.place [])
  pub within : child.place + 1 < length node.rows → new ≡ Some (key_of node.layout (slice_index_or node.rows (child.place + 1) []))
  pub beyond : length node.rows ≤ child.place + 1 → new ≡ old

-- the way goes on to a child, or ends at a leaf
abbrev pub Steps : Node → List ℕ → Option (List ℕ) → Option (List ℕ) → Option Child → Type 0
Steps node key old new None = (node.kind ≡ Leaf) × (new ≡ old)
Steps node key old new (Some child) = StepsToChild node key old new child

-- on the page that these bytes spell, and on the page of that number
pub record StepsIn (layout : RowLayout) (bytes : Sector) (key : List ℕ) (old new : Option (List ℕ)) (child : Option Child) : Type 0 where
  pub node : Node
  pub read : node_in layout bytes ≡ Some node
  pub layout_is : node.layout ≡ layout
  pub steps : Steps node key old new child

pub record StepsAt (layout : RowLayout) (pages : List (Option Sector)) (page : ℕ) (key : List ℕ) (old new : Option (List ℕ)) (child : Option Child) : Type 0 where
  pub node : Node
  pub read : node_at layout pages page ≡ Some node
  pub layout_is : node.layout ≡ layout
  pub steps : Steps node key old new child

-- the way of a key with these steps ends at the leaf of that page
pub record LeadsTo (layout : RowLayout) (pages : List (Option Sector)) (key : List ℕ) (levels : List (List TreeNode)) (steps : List PathStep) (page : ℕ) (right : Option (List ℕ)) : Type 0 where
  pub rows : List (List ℕ)
  pub stands : IsOnPage layout pages Leaf (record { page = page; rows = rows })
  pub ends : EndsAt layout key levels steps page rows right
