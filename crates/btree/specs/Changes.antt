-- What each change of a tree keeps.
use Rattle.std.specs.Prelude.{false, ◌≡◌, ◌≢◌, ◌<◌, ◌≤◌, ◌+◌, ◌++◌, ℕ, List, [], ◌∷◌, length, take, drop, map, slice_index_or, Option, Some, None, IsSome, IfSome}
use Rattle.station.specs.Disk.{Sector}
use Rattle.pages.specs.declared.page_map.PageMap.{PageMap}
use Rattle.pages.specs.Pages.{map_now, is_spent, page_count}
use Rattle.btree_pages.specs.declared.row_layout.RowLayout.{RowLayout}
use Rattle.btree_pages.specs.declared.row_layout.Kind.TheVariants.{Inner}
use Rattle.btree_pages.specs.Node.{Node}
use Rattle.btree.specs.declared.split_result.SplitResult.{SplitResult}
use Rattle.std.specs.List.{All}
use Rattle.btree_pages.specs.RowLayouts.{row_length}
use Rattle.btree.specs.Tree.{TreeNode, row_of, rows_of, fewest, AreJoinedLevels, pages_of, rows_in_order, HasTop, IsTree, IsTreeOrEmpty}
use Rattle.btree.specs.Entries.{Entry, entries_of, entry_with, with_new_entry}
use Rattle.btree.specs.Path.{LevelZipper, PathStep, level_of, lowest, IsPathOf, EndsAt}
use Rattle.btree_pages.specs.Keys.{AllBelow, AllAbove}
use Rattle.btree.specs.Moves.{Moves, ReplacesNodes, Once, Became}
use Rattle.btree.specs.Nodes.{SameNode}
use Rattle.btree.specs.Propagates.{node_with, SplitUpdate, Propagates}

-- the pages of the map, with what was changed, over the image of the last commit
abbrev pub pages_of_map : PageMap → List Sector → List (Option Sector)
pages_of_map p image = (map_now p image).pages

-- how many page numbers the map has, and that they are few
abbrev pub CountsPages : PageMap → Type 0
CountsPages pages = (image : List Sector) → length (pages_of_map pages image) ≡ page_count pages

abbrev pub FewNumbers : PageMap → Type 0
FewNumbers pages = is_spent pages ≡ false → page_count pages ≤ 921600

-- a page is in the map
abbrev pub IsIn : List (Option Sector) → ℕ → Type 0
IsIn pages page = slice_index_or pages page None ≢ None

-- a row can come into a page that is in the map: its rows have their lengths, and one more is enough
pub record CanTake (pages : List (Option Sector)) (page : ℕ) (node : Node) : Type 0 where
  pub is_in : IsIn pages page
  pub lengths : All (λ row. length row ≡ row_length node.layout node.kind) node.rows
  pub enough : fewest node.kind ≤ length node.rows + 1

-- a node can stand on a page that is in the map: its rows have their lengths, and are enough
pub record CanStand (pages : List (Option Sector)) (page : ℕ) (node : Node) : Type 0 where
  pub is_in : IsIn pages page
  pub lengths : All (λ row. length row ≡ row_length node.layout node.kind) node.rows
  pub enough : fewest node.kind ≤ length node.rows

-- a page has a row, and is of the layout and kind of another
pub record IsLike (one two : Node) : Type 0 where
  pub same : SameNode one two
  pub some : 0 < length two.rows

-- what a page of a node became
pub record IsSplit (page : ℕ) (node : Node) (split : SplitResult) : Type 0 where
  pub page_is : split.page ≡ page
  pub left : IsLike node split.left
  pub right : IfSome split.right (λ right. IsLike node right.node)

-- An inner page, after the node that the row at a place named became others.
pub record UpdatesParent (layout : RowLayout) (before : List (Option Sector)) (after : List (Option Sector)) (page : ℕ) (old : List (List ℕ)) (place : ℕ) (low : List TreeNode) (told : Option SplitResult) : Type 0 where
  pub run : List TreeNode
  pub own : ReplacesNodes layout Inner before (node_with page old ∷ []) after run
  pub rows : rows_of run ≡ take place old ++ (map (row_of layout) low ++ drop (place + 1) old)
  pub tells : SplitUpdate layout (node_with page old) run told

-- each page of it has a least key
pub record HasKeys (layout : RowLayout) (split : SplitResult) : Type 0 where
  pub left : (split.left.layout ≡ layout) × (0 < length split.left.rows)
  pub right : IfSome split.right (λ right. (right.node.layout ≡ layout) × (0 < length right.node.rows))

-- levels that stand: no page stands in them twice, and none is page 0
pub record AreDisjointLevels (layout : RowLayout) (pages : List (Option Sector)) (levels : List (List TreeNode)) : Type 0 where
  pub joined : AreJoinedLevels layout pages levels
  pub once : Once (pages_of levels)
  pub some : All (λ page. 0 < page) (pages_of levels)

-- Where levels stood, and the leaf at the end of these steps became what is told of it, the levels became what is told of the first one.
abbrev pub PropagatesBy : RowLayout → List PathStep → List (Option Sector) → List (Option Sector) → Option SplitResult → Option SplitResult → Type 0
PropagatesBy layout steps before after from told =
    (key : List ℕ) (one : List (Option Sector)) (levels : List (List TreeNode)) (spot : LevelZipper) (below : List LevelZipper) (ordered : List (List ℕ)) →
    AreDisjointLevels layout one levels → IsPathOf layout key levels steps spot below →
    Propagates layout one (level_of (lowest spot below) ∷ []) (lowest spot below) before ordered from → Propagates layout one levels spot after ordered told

-- no levels stood so
abbrev pub NeverPropagates : RowLayout → List PathStep → List (Option Sector) → Option SplitResult → Type 0
NeverPropagates layout steps before from =
    (key : List ℕ) (one : List (Option Sector)) (levels : List (List TreeNode)) (spot : LevelZipper) (below : List LevelZipper) (ordered : List (List ℕ)) →
    AreDisjointLevels layout one levels → IsPathOf layout key levels steps spot below →
    Propagates layout one (level_of (lowest spot below) ∷ []) (lowest spot below) before ordered from → ⊥

-- What levels became, with their root and the rows of their leaves.
pub record BecomesTree (layout : RowLayout) (pages : List (Option Sector)) (old : List (List TreeNode)) (after : List (Option Sector)) (root : ℕ) (ordered : List (List ℕ)) : Type 0 where
  pub levels : List (List TreeNode)
  pub became : Became layout pages old after levels
  pub top : HasTop root levels
  pub rows : rows_in_order levels ≡ ordered

-- the page of the root, after what is told of the one there was
abbrev pub IsRootAfter : RowLayout → ℕ → Option SplitResult → List (Option Sector) → List (Option Sector) → ℕ → Type 0
IsRootAfter layout root told before after new =
    (one : List (Option Sector)) (levels : List (List TreeNode)) (spot : LevelZipper) (more : List (List TreeNode)) (ordered : List (List ℕ)) →
    levels ≡ level_of spot ∷ more → HasTop root levels → Once (pages_of levels) →
    Propagates layout one levels spot before ordered told → BecomesTree layout one levels after new ordered

-- A tree with one entry more.
pub record GainsEntry (layout : RowLayout) (before : List (Option Sector)) (old : List (List TreeNode)) (after : List (Option Sector)) (root : ℕ) (entry : Entry) : Type 0 where
  pub levels : List (List TreeNode)
  pub tree : IsTree layout after root levels
  pub entries : entries_of layout levels ≡ with_new_entry (entries_of layout old) entry
  pub moves : Moves before (pages_of old) after (pages_of levels)

-- Where a way of a key ended at a place of a leaf between lower rows and higher ones, its entry came there, and the page of the root is this.
abbrev pub InsertsIntoLeaf : RowLayout → ℕ → List (Option Sector) → List (Option Sector) → List PathStep → ℕ → List (List ℕ) → Option (List ℕ) → ℕ → List ℕ → List ℕ → ℕ → Type 0
InsertsIntoLeaf layout root before after steps page rows right place key value new =
    (levels : List (List TreeNode)) → IsTree layout before root levels → EndsAt layout key levels steps page rows right →
    AllBelow layout key (take place rows) → AllAbove layout key (drop place rows) → GainsEntry layout before levels after new (record { key = key; value = value })

-- What a tree became: a tree with these entries. Its pages are other ones, and the pages around it stay.
pub record Becomes (layout : RowLayout) (before : List (Option Sector)) (old : List (List TreeNode)) (after : List (Option Sector)) (root : ℕ) (entries : List Entry) : Type 0 where
  pub levels : List (List TreeNode)
  pub holds : IsTreeOrEmpty layout after root levels
  pub listed : entries_of layout levels ≡ entries
  pub moves : Moves before (pages_of old) after (pages_of levels)

-- after an insert: the root of the tree that has the new entry, whose key wasn't there; or none, where it was
abbrev pub Inserts : RowLayout → List (Option Sector) → List (List TreeNode) → List (Option Sector) → List ℕ → List ℕ → Option ℕ → Type 0
Inserts layout before old after key value None = IsSome (entry_with (entries_of layout old) key)
Inserts layout before old after key value (Some root) =
    (entry_with (entries_of layout old) key ≡ None) × Becomes layout before old after root (with_new_entry (entries_of layout old) (record { key = key; value = value }))
