-- The levels of a tree that is given up, from a list of pages down.
use Rattle.std.specs.Prelude.{◌≡◌, ◌<◌, ℕ, List, [], ◌∷◌, length, Option, ⊤}
use Rattle.std.specs.List.{All}
use Rattle.station.specs.Disk.{Sector}
use Rattle.btree_pages.specs.declared.row_layout.RowLayout.{RowLayout}
use Rattle.btree.specs.Tree.{TreeNode, pages_of, AreJoinedLevels}
use Rattle.btree.specs.Moves.{Once, numbers_of}

-- these are the pages of the first level, or none where there are no levels
abbrev pub HasPages : List ℕ → List (List TreeNode) → Type 0
HasPages numbers [] = numbers ≡ []
HasPages numbers (top ∷ more) = (numbers_of top ≡ numbers) × (0 < length top)

abbrev pub JoinedOrNone : RowLayout → List (Option Sector) → List (List TreeNode) → Type 0
JoinedOrNone layout pages [] = ⊤
JoinedOrNone layout pages (top ∷ more) = AreJoinedLevels layout pages (top ∷ more)

-- the levels below the first one
abbrev pub levels_below : List (List TreeNode) → List (List TreeNode)
levels_below [] = []
levels_below (top ∷ more) = more

-- the levels from the one of these pages down, none where there are no pages
pub record IsDown (layout : RowLayout) (pages : List (Option Sector)) (numbers : List ℕ) (levels : List (List TreeNode)) : Type 0 where
  pub top : HasPages numbers levels
  pub joined : JoinedOrNone layout pages levels
  pub once : Once (pages_of levels)
  pub between : All (λ page. (0 < page) × (page < length pages)) (pages_of levels)
