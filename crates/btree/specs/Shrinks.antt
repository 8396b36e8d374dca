-- What a removal from a leaf makes of the levels above it.
use Rattle.std.specs.Prelude.{◌≡◌, ◌<◌, ◌≤◌, ◌++◌, ◌⊎◌, ℕ, List, [], ◌∷◌, length, map, slice_index_or, Option, ⊤}
use Rattle.byteorder.specs.Endian.{big_bytes}
use Rattle.station.specs.Disk.{Sector}
use Rattle.btree_pages.specs.declared.row_layout.RowLayout.{RowLayout}
use Rattle.btree_pages.specs.declared.row_layout.Kind.{Kind}
use Rattle.btree_pages.specs.declared.row_layout.Kind.TheVariants.{Leaf, Inner}
use Rattle.btree_pages.specs.Keys.{rest_of}
use Rattle.btree.specs.declared.removal_outcome.Child.{Child}
use Rattle.btree.specs.declared.removal_outcome.RemovalOutcome.{RemovalOutcome}
use Rattle.btree.specs.declared.removal_outcome.RemovalOutcome.TheVariants.{Kept, Renamed, Gone, Underfull}
use Rattle.btree.specs.Tree.{TreeNode, row_of, rows_of, pages_of, leaves_of, rows_in_order, HasTop}
use Rattle.btree.specs.Fills.{HasTooFewRows, thin_leaves, KeepsFill}
use Rattle.btree.specs.Path.{LevelZipper, PathStep, level_of, lowest, IsPathOf}
use Rattle.btree.specs.Moves.{Moves, Became, ReplacesNodes}
use Rattle.btree.specs.Propagates.{node_with, IsSame}
use Rattle.btree.specs.Changes.{IsIn, AreDisjointLevels, BecomesTree}

-- The levels from a spot's down, after its node became these nodes. These are the rows of the leaves then, of which no more are thin than before.
pub record ShrinksTo (layout : RowLayout) (pages : List (Option Sector)) (levels : List (List TreeNode)) (spot : LevelZipper) (after : List (Option Sector)) (ordered : List (List ℕ)) (run : List TreeNode) : Type 0 where
  pub more : List (List TreeNode)
  pub became : Became layout pages levels after ((spot.before ++ (run ++ spot.after)) ∷ more)
  pub rows : rows_in_order ((spot.before ++ (run ++ spot.after)) ∷ more) ≡ ordered
  pub fill : thin_leaves layout (leaves_of ((spot.before ++ (run ++ spot.after)) ∷ more)) ≤ thin_leaves layout (leaves_of levels)

-- The levels below a spot's became others. The spot's level is as it was, and names them once its node has these rows.
pub record ShrinksUnder (layout : RowLayout) (pages : List (Option Sector)) (levels : List (List TreeNode)) (spot : LevelZipper) (after : List (Option Sector)) (ordered : List (List ℕ)) (rows : List (List ℕ)) : Type 0 where
  pub old : List TreeNode
  pub old_more : List (List TreeNode)
  pub is : levels ≡ level_of spot ∷ old ∷ old_more
  pub new : List TreeNode
  pub new_more : List (List TreeNode)
  pub became : Became layout pages (old ∷ old_more) after (new ∷ new_more)
  pub names : rows_of spot.before ++ (rows ++ rows_of spot.after) ≡ map (row_of layout) new
  pub leaves : rows_in_order (new ∷ new_more) ≡ ordered
  pub fill : thin_leaves layout (leaves_of (new ∷ new_more)) ≤ thin_leaves layout (leaves_of (old ∷ old_more))

-- Nothing was written. The spot's level is that of the leaves, whose rows are these once its node has its new ones.
pub record ShrinksYet (pages : List (Option Sector)) (levels : List (List TreeNode)) (spot : LevelZipper) (after : List (Option Sector)) (ordered : List (List ℕ)) (rows : List (List ℕ)) : Type 0 where
  pub is : levels ≡ level_of spot ∷ []
  pub same : after ≡ pages
  pub leaves : rows_of spot.before ++ (rows ++ rows_of spot.after) ≡ ordered

-- a page of this kind is to have these rows, which are too few
abbrev pub Waits : Kind → RowLayout → List (Option Sector) → List (List TreeNode) → LevelZipper → List (Option Sector) → List (List ℕ) → List (List ℕ) → Type 0
Waits Leaf layout pages levels spot after ordered rows = ShrinksYet pages levels spot after ordered rows
Waits Inner layout pages levels spot after ordered rows = ShrinksUnder layout pages levels spot after ordered rows

-- The levels from a spot's down, after that became of the spot's page.
abbrev pub Shrinks : RowLayout → List (Option Sector) → List (List TreeNode) → LevelZipper → List (Option Sector) → List (List ℕ) → RemovalOutcome → Type 0
Shrinks layout pages levels spot after ordered Kept = (run : List TreeNode) × IsSame layout spot.node run × ShrinksTo layout pages levels spot after ordered run
Shrinks layout pages levels spot after ordered (Renamed child) = (child.page ≡ spot.node.page) × ShrinksTo layout pages levels spot after ordered (node_with child.page child.node.rows ∷ [])
Shrinks layout pages levels spot after ordered Gone = ShrinksTo layout pages levels spot after ordered []
Shrinks layout pages levels spot after ordered (Underfull child) =
    (child.page ≡ spot.node.page) × (child.node.layout ≡ layout) × (0 < length child.node.rows) × HasTooFewRows layout child.node.kind (length child.node.rows)
    × Waits child.node.kind layout pages levels spot after ordered child.node.rows

-- Where levels stood, and the first outcome became of the leaf at the end of these steps, the second one became of the page at their beginning.
abbrev pub ShrinksBy : RowLayout → List PathStep → List (Option Sector) → List (Option Sector) → RemovalOutcome → RemovalOutcome → Type 0
ShrinksBy layout steps before after from outcome =
    (key : List ℕ) (one : List (Option Sector)) (levels : List (List TreeNode)) (spot : LevelZipper) (below : List LevelZipper) (ordered : List (List ℕ)) →
    AreDisjointLevels layout one levels → IsPathOf layout key levels steps spot below →
    Shrinks layout one (level_of (lowest spot below) ∷ []) (lowest spot below) before ordered from → Shrinks layout one levels spot after ordered outcome

-- no levels stood so
abbrev pub NeverShrinks : RowLayout → List PathStep → List (Option Sector) → RemovalOutcome → Type 0
NeverShrinks layout steps before from =
    (key : List ℕ) (one : List (Option Sector)) (levels : List (List TreeNode)) (spot : LevelZipper) (below : List LevelZipper) (ordered : List (List ℕ)) →
    AreDisjointLevels layout one levels → IsPathOf layout key levels steps spot below →
    Shrinks layout one (level_of (lowest spot below) ∷ []) (lowest spot below) before ordered from → ⊥

-- one step more
abbrev pub ShrinksOn : RowLayout → PathStep → List (Option Sector) → List (Option Sector) → RemovalOutcome → RemovalOutcome → Type 0
ShrinksOn layout step before after below outcome =
    (steps : List PathStep) (start : List (Option Sector)) (from : RemovalOutcome) → ShrinksBy layout steps start before from below → ShrinksBy layout (step ∷ steps) start after from outcome

abbrev pub NeverShrinksOn : RowLayout → PathStep → List (Option Sector) → RemovalOutcome → Type 0
NeverShrinksOn layout step before below = (steps : List PathStep) (start : List (Option Sector)) (from : RemovalOutcome) → ShrinksBy layout steps start before from below → NeverShrinks layout (step ∷ steps) start from

-- no levels are left
pub record HasEmptied (pages : List (Option Sector)) (old : List (List TreeNode)) (after : List (Option Sector)) (root : ℕ) (ordered : List (List ℕ)) : Type 0 where
  pub none : root ≡ 0
  pub moves : Moves pages (pages_of old) after []
  pub rows : ordered ≡ []

-- the levels that are left, with their root: no more leaves are thin than before, unless one is all that is left
pub record IsFilledTree (layout : RowLayout) (pages : List (Option Sector)) (old : List (List TreeNode)) (after : List (Option Sector)) (root : ℕ) (ordered : List (List ℕ)) : Type 0 where
  pub settled : BecomesTree layout pages old after root ordered
  pub fill : KeepsFill layout old settled.levels

-- the page of the root, after what became of the one there was: 0 where no levels are left
abbrev pub IsShrunkRoot : RowLayout → ℕ → RemovalOutcome → List (Option Sector) → List (Option Sector) → ℕ → Type 0
IsShrunkRoot layout root outcome before after new =
    (one : List (Option Sector)) (levels : List (List TreeNode)) (spot : LevelZipper) (more : List (List TreeNode)) (ordered : List (List ℕ)) →
    levels ≡ level_of spot ∷ more → HasTop root levels → AreDisjointLevels layout one levels →
    Shrinks layout one levels spot before ordered outcome → IsFilledTree layout one levels after new ordered ⊎ HasEmptied one levels after new ordered

abbrev pub NeverIsShrunkRoot : RowLayout → ℕ → RemovalOutcome → List (Option Sector) → Type 0
NeverIsShrunkRoot layout root outcome before =
    (one : List (Option Sector)) (levels : List (List TreeNode)) (spot : LevelZipper) (more : List (List TreeNode)) (ordered : List (List ℕ)) →
    levels ≡ level_of spot ∷ more → HasTop root levels → AreDisjointLevels layout one levels → Shrinks layout one levels spot before ordered outcome → ⊥

-- An inner page with one row gave way: it left the map, and the page is the one that its row names.
pub record HasCollapsed (before after : List (Option Sector)) (lone : Child) (new : ℕ) : Type 0 where
  pub leaves : (layout : RowLayout) (rows : List (List ℕ)) → ReplacesNodes layout Inner before (node_with lone.page rows ∷ []) after []
  pub names : (page : ℕ) → IsIn before page → rest_of lone.node.layout (slice_index_or lone.node.rows 0 []) ≡ big_bytes 4 page → new ≡ page

-- A leaf is the root, and was written, with as few rows as it has.
pub record HasStayed (before after : List (Option Sector)) (lone : Child) (new : ℕ) : Type 0 where
  pub page_is : new ≡ lone.page
  pub own : (rows : List (List ℕ)) → ReplacesNodes lone.node.layout Leaf before (node_with lone.page rows ∷ []) after (node_with lone.page lone.node.rows ∷ [])

-- few rows are left for the root: one, where it is an inner page
abbrev pub Collapses : RemovalOutcome → Type 0
Collapses Kept = ⊤
Collapses (Renamed child) = ⊤
Collapses Gone = ⊤
Collapses (Underfull child) = (0 < length child.node.rows) × HasTooFewRows child.node.layout child.node.kind (length child.node.rows)
