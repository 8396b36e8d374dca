-- What became of a page when rows left it.
use Rattle.std.specs.Prelude.{◌≡◌, ◌≢◌, ◌<◌, ◌+◌, ◌++◌, ◌⊎◌, ℕ, zero, suc, List, [], ◌∷◌, length, map, take, drop, slice_index_or, Option, IfSome, ⊤}
use Rattle.std.specs.List.{All}
use Rattle.station.specs.Disk.{Sector}
use Rattle.btree_pages.specs.declared.row_layout.RowLayout.{RowLayout}
use Rattle.btree_pages.specs.declared.row_layout.Kind.{Kind}
use Rattle.btree_pages.specs.declared.row_layout.Kind.TheVariants.{Inner}
use Rattle.btree_pages.specs.RowLayouts.{row_length}
use Rattle.btree.specs.declared.removal_outcome.RemovalOutcome.{RemovalOutcome}
use Rattle.btree.specs.declared.removal_outcome.RemovalOutcome.TheVariants.{Kept, Renamed, Gone, Underfull}
use Rattle.btree.specs.declared.split_result.SplitResult.{SplitResult}
use Rattle.btree.specs.Tree.{TreeNode, least_key, row_of, rows_of, node_of, IsOnPage}
use Rattle.btree.specs.Fills.{HasTooFewRows, IsEven}
use Rattle.btree.specs.Moves.{ReplacesNodes}
use Rattle.btree.specs.Propagates.{node_with}
use Rattle.btree.specs.Changes.{IsIn, HasKeys}

-- What a page became that had the old rows and is to have these.
abbrev pub IsRemovalResult : RowLayout → Kind → List (Option Sector) → List (Option Sector) → ℕ → List (List ℕ) → List (List ℕ) → RemovalOutcome → Type 0
IsRemovalResult layout kind before after page old rows Kept =
    ReplacesNodes layout kind before (node_with page old ∷ []) after (node_with page rows ∷ []) × (least_key layout (node_with page rows) ≡ least_key layout (node_with page old)) × (HasTooFewRows layout kind (length rows) → ⊥)
IsRemovalResult layout kind before after page old rows (Renamed child) =
    ReplacesNodes layout kind before (node_with page old ∷ []) after (node_with page rows ∷ []) × (child.page ≡ page) × (child.node ≡ node_of layout kind rows) × (HasTooFewRows layout kind (length rows) → ⊥)
IsRemovalResult layout kind before after page old rows Gone = ReplacesNodes layout kind before (node_with page old ∷ []) after [] × (rows ≡ [])
IsRemovalResult layout kind before after page old rows (Underfull child) = (after ≡ before) × (child.page ≡ page) × (child.node ≡ node_of layout kind rows) × (0 < length rows) × HasTooFewRows layout kind (length rows)

-- what the page above needs of it
abbrev pub FitsAbove : RowLayout → RemovalOutcome → Type 0
FitsAbove layout Kept = ⊤
FitsAbove layout (Renamed child) = (child.node.layout ≡ layout) × (0 < length child.node.rows)
FitsAbove layout Gone = ⊤
FitsAbove layout (Underfull child) = (child.node.layout ≡ layout) × (0 < length child.node.rows) × HasTooFewRows layout child.node.kind (length child.node.rows)

-- a page that wasn't written may be changed yet
abbrev pub spare : RemovalOutcome → ℕ
spare Kept = 0
spare (Renamed child) = 0
spare Gone = 0
spare (Underfull child) = 1

-- the left one of the two places of a child and its neighbour: the left one, if it has one
abbrev pub pair_of : ℕ → ℕ
pair_of zero = zero
pair_of (suc place) = place

-- the two neighbours' rows together, one of which is to have these
abbrev pub rows_together : ℕ → List (List ℕ) → TreeNode → TreeNode → List (List ℕ)
rows_together zero lone left right = lone ++ right.rows
rows_together (suc place) lone left right = left.rows ++ lone

-- The child at a place of these rows, and its neighbour, of one kind. The child's page has its old rows, the neighbour stands.
pub record IsPair (layout : RowLayout) (kind : Kind) (before : List (Option Sector)) (page : ℕ) (old : List (List ℕ)) (place : ℕ) (child : ℕ) (left right : TreeNode) : Type 0 where
  pub within : pair_of place + 1 < length old
  pub left_row : slice_index_or old (pair_of place) [] ≡ row_of layout left
  pub right_row : slice_index_or old (pair_of place + 1) [] ≡ row_of layout right
  pub own_in : IsIn before page
  pub left_in : IsIn before left.page
  pub right_in : IsIn before right.page
  pub apart : left.page ≢ right.page
  pub left_apart : left.page ≢ page
  pub right_apart : right.page ≢ page
  pub either : (place ≡ 0) × (left.page ≡ child) × IsOnPage layout before kind right ⊎ (place ≢ 0) × (right.page ≡ child) × IsOnPage layout before kind left

-- What the two neighbours became, and the page above them.
pub record RebalancesNeighbours (layout : RowLayout) (kind : Kind) (before after : List (Option Sector)) (page : ℕ) (old : List (List ℕ)) (place : ℕ) (lone : List (List ℕ)) (left right : TreeNode) (outcome : RemovalOutcome) : Type 0 where
  pub mid : List (Option Sector)
  pub run : List TreeNode
  pub pair : ReplacesNodes layout kind before (left ∷ right ∷ []) mid run
  pub even : IsEven layout kind run
  pub rows : rows_of run ≡ rows_together place lone left right
  pub fares : IsRemovalResult layout Inner mid after page old (take (pair_of place) old ++ (map (row_of layout) run ++ drop (pair_of place + 2) old)) outcome

-- two pages of the map
pub record AreTwo (pages : List (Option Sector)) (left right : ℕ) : Type 0 where
  pub left_in : IsIn pages left
  pub right_in : IsIn pages right
  pub apart : left ≢ right

-- Two neighbours became one page, the left one's, or stayed two. Each has a least key.
pub record IsJoined (layout : RowLayout) (left right : ℕ) (joined : SplitResult) : Type 0 where
  pub page_is : joined.page ≡ left
  pub beside_is : IfSome joined.right (λ beside. beside.page ≡ right)
  pub keys : HasKeys layout joined

-- Of these rows, which have their lengths, those from a place on name two neighbours. Their pages and the page above them are three.
pub record ArePair (layout : RowLayout) (before : List (Option Sector)) (page : ℕ) (old : List (List ℕ)) (place : ℕ) (left right : TreeNode) : Type 0 where
  pub within : place + 1 < length old
  pub lengths : All (λ row. length row ≡ row_length layout Inner) old
  pub left_row : slice_index_or old place [] ≡ row_of layout left
  pub right_row : slice_index_or old (place + 1) [] ≡ row_of layout right
  pub own_in : IsIn before page
  pub two : AreTwo before left.page right.page
  pub left_apart : left.page ≢ page
  pub right_apart : right.page ≢ page

-- What two neighbours became that are to have these rows together, and the page above them.
pub record Joins (layout : RowLayout) (kind : Kind) (before after : List (Option Sector)) (page : ℕ) (old : List (List ℕ)) (place : ℕ) (rows : List (List ℕ)) (left right : TreeNode) (outcome : RemovalOutcome) : Type 0 where
  pub mid : List (Option Sector)
  pub run : List TreeNode
  pub pair : ReplacesNodes layout kind before (left ∷ right ∷ []) mid run
  pub even : IsEven layout kind run
  pub rows_are : rows_of run ≡ rows
  pub fares : IsRemovalResult layout Inner mid after page old (take place old ++ (map (row_of layout) run ++ drop (place + 2) old)) outcome
