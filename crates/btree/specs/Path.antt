-- The way from a tree's root down to a leaf.
use Rattle.std.specs.Prelude.{◌≡◌, ◌<◌, ◌+◌, ◌++◌, ◌⊎◌, ℕ, List, [], ◌∷◌, length, drop, slice_index_or, Option, Some, None}
use Rattle.btree_pages.specs.declared.row_layout.RowLayout.{RowLayout}
use Rattle.btree_pages.specs.Keys.{key_of, Precedes, AllAbove}
use Rattle.btree.specs.Tree.{TreeNode, least_key, rows_of}
pub use Rattle.btree.specs.declared.path_step.PathStep.{PathStep}

-- a node of a level, with those left and right of it
pub record LevelZipper : Type 0 where
  pub before : List TreeNode
  pub node : TreeNode
  pub after : List TreeNode

abbrev pub level_of : LevelZipper → List TreeNode
level_of spot = spot.before ++ spot.node ∷ spot.after

-- the row at the step's place, in its page, names the node of the spot below
pub record StepsTo (upper : LevelZipper) (step : PathStep) (lower : LevelZipper) : Type 0 where
  pub page : step.page ≡ upper.node.page
  pub place : step.place < length upper.node.rows
  pub leads : length (rows_of upper.before) + step.place ≡ length lower.before

-- a key belongs there: all rows to the right are above it, and the node doesn't begin above it, unless nothing is to its left
pub record IsSide (layout : RowLayout) (key : List ℕ) (spot : LevelZipper) : Type 0 where
  pub after : AllAbove layout key (rows_of spot.after)
  pub before : (spot.before ≡ []) ⊎ (Precedes key (least_key layout spot.node) → ⊥)

-- the way of a key: a spot in each level, and a step at each spot above the leaf's
abbrev pub IsPathOf : RowLayout → List ℕ → List (List TreeNode) → List PathStep → LevelZipper → List LevelZipper → Type 0
IsPathOf layout key [] steps spot below = ⊥
IsPathOf layout key (leaves ∷ []) steps spot below = (leaves ≡ level_of spot) × IsSide layout key spot × (steps ≡ []) × (below ≡ [])
IsPathOf layout key (upper ∷ lower ∷ more) [] spot below = ⊥
IsPathOf layout key (upper ∷ lower ∷ more) (step ∷ steps) spot [] = ⊥
IsPathOf layout key (upper ∷ lower ∷ more) (step ∷ steps) spot (next ∷ below) =
    (upper ≡ level_of spot) × IsSide layout key spot × StepsTo spot step next × IsPathOf layout key (lower ∷ more) steps next below

-- the lowest of these spots
abbrev pub lowest : LevelZipper → List LevelZipper → LevelZipper
lowest spot [] = spot
lowest spot (next ∷ below) = lowest next below

-- the way of a key with these steps ends at that leaf
pub record Reaches (layout : RowLayout) (key : List ℕ) (levels : List (List TreeNode)) (steps : List PathStep) (leaf : LevelZipper) : Type 0 where
  pub top : LevelZipper
  pub below : List LevelZipper
  pub leads : IsPathOf layout key levels steps top below
  pub ends : lowest top below ≡ leaf

-- the first of these keys
abbrev pub first_key : RowLayout → List (List ℕ) → Option (List ℕ)
first_key layout [] = None
first_key layout (row ∷ rows) = Some (key_of layout row)

-- the first key to the right of a spot, if there is one
abbrev pub right_key : RowLayout → LevelZipper → Option (List ℕ)
right_key layout spot = first_key layout (rows_of spot.after)

-- the child for a key: all rows after it are above the key, and it isn't itself, unless it is the first
pub record IsChosen (layout : RowLayout) (key : List ℕ) (rows : List (List ℕ)) (place : ℕ) : Type 0 where
  pub low : place < length rows
  pub after : AllAbove layout key (drop (place + 1) rows)
  pub here : (place ≡ 0) ⊎ (Precedes key (key_of layout (slice_index_or rows place [])) → ⊥)

-- the way of a key with these steps ends at a leaf: its page, its rows, and the first key to its right
pub record EndsAt (layout : RowLayout) (key : List ℕ) (levels : List (List TreeNode)) (steps : List PathStep) (page : ℕ) (rows : List (List ℕ)) (right : Option (List ℕ)) : Type 0 where
  pub leaf : LevelZipper
  pub reaches : Reaches layout key levels steps leaf
  pub at_page : leaf.node.page ≡ page
  pub has_rows : leaf.node.rows ≡ rows
  pub beside : right ≡ right_key layout leaf
