-- What a change of a leaf makes of the levels above it.
use Rattle.std.specs.Prelude.{◌≡◌, ◌++◌, ℕ, List, [], ◌∷◌, Option, Some, None}
use Rattle.station.specs.Disk.{Sector}
use Rattle.btree_pages.specs.declared.row_layout.RowLayout.{RowLayout}
use Rattle.btree.specs.declared.split_result.SplitResult.{SplitResult}
use Rattle.btree.specs.declared.split_result.Right.{Right}
use Rattle.btree.specs.Tree.{TreeNode, least_key, rows_in_order}
use Rattle.btree.specs.Path.{LevelZipper}
use Rattle.btree.specs.Moves.{Became}

abbrev pub node_with : ℕ → List (List ℕ) → TreeNode
node_with page rows = record { page = page; rows = rows }

abbrev pub rights_of : Option Right → List TreeNode
rights_of None = []
rights_of (Some right) = node_with right.page right.node.rows ∷ []

-- the one node or the two that a split page became
abbrev pub run_of : SplitResult → List TreeNode
run_of split = node_with split.page split.left.rows ∷ rights_of split.right

-- the same page with the same least key
pub record IsSame (layout : RowLayout) (old : TreeNode) (run : List TreeNode) : Type 0 where
  pub node : TreeNode
  pub alone : run ≡ node ∷ []
  pub page : node.page ≡ old.page
  pub least : least_key layout node ≡ least_key layout old

-- what the level above has to know: nothing, or the nodes that the old one became
abbrev pub SplitUpdate : RowLayout → TreeNode → List TreeNode → Option SplitResult → Type 0
SplitUpdate layout old run None = IsSame layout old run
SplitUpdate layout old run (Some split) = (run ≡ run_of split) × (split.page ≡ old.page)

-- The levels from a spot's down, after its node became some nodes. These are the rows of the leaves then.
pub record Propagates (layout : RowLayout) (pages : List (Option Sector)) (levels : List (List TreeNode)) (spot : LevelZipper) (after : List (Option Sector)) (ordered : List (List ℕ)) (told : Option SplitResult) : Type 0 where
  pub run : List TreeNode
  pub more : List (List TreeNode)
  pub became : Became layout pages levels after ((spot.before ++ (run ++ spot.after)) ∷ more)
  pub rows : rows_in_order ((spot.before ++ (run ++ spot.after)) ∷ more) ≡ ordered
  pub tells : SplitUpdate layout spot.node run told
