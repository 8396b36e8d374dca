-- What a call on some pages of a tree does to them, over whatever image the last commit left.
use Rattle.std.specs.Prelude.{◌≡◌, ◌≤◌, ◌<◌, ◌+◌, ◌++◌, ℕ, Bool, true, List, [], ◌∷◌, length, take, drop, slice_index_or, slice_set, Option}
use Rattle.std.specs.List.{All, insert}
use Rattle.byteorder.specs.Endian.{big_bytes}
use Rattle.station.specs.Disk.{Sector}
use Rattle.pages.specs.declared.page_map.PageMap.{PageMap}
use Rattle.btree_pages.specs.declared.row_layout.RowLayout.{RowLayout}
use Rattle.btree_pages.specs.declared.row_layout.Kind.{Kind}
use Rattle.btree_pages.specs.declared.row_layout.Kind.TheVariants.{Inner}
use Rattle.btree_pages.specs.RowLayouts.{row_length, rest_length}
use Rattle.btree_pages.specs.Keys.{key_of, rest_of}
use Rattle.btree_pages.specs.Node.{Node}
use Rattle.btree.specs.declared.split_result.SplitResult.{SplitResult}
use Rattle.btree.specs.declared.split_result.Right.{Right}
use Rattle.btree.specs.declared.removal_outcome.Child.{Child}
use Rattle.btree.specs.declared.removal_outcome.RemovalOutcome.{RemovalOutcome}
use Rattle.btree.specs.declared.path_step.PathStep.{PathStep}
use Rattle.btree.specs.Tree.{TreeNode, least_key, row_of, rows_of, fewest}
use Rattle.btree.specs.Moves.{ReplacesNodes}
use Rattle.btree.specs.Propagates.{node_with, run_of}
use Rattle.btree.specs.Changes.{pages_of_map, IsIn, CanStand, UpdatesParent}
use Rattle.btree.specs.Outcomes.{IsRemovalResult, AreTwo, ArePair, Joins}

-- where the node can stand on its page, or take a row, the page becomes the one or the two of the answer
abbrev pub PutsWhere : (List (Option Sector) → ℕ → Node → Type 0) → PageMap → PageMap → ℕ → Node → SplitResult → Type 0
PutsWhere can old new page node split =
    (image : List Sector) → can (pages_of_map old image) page node →
    ReplacesNodes node.layout node.kind (pages_of_map old image) (node_with page node.rows ∷ []) (pages_of_map new image) (run_of split)

-- a node with rows enough, of their lengths, comes to a new page
abbrev pub PutsNew : PageMap → PageMap → Node → ℕ → Type 0
PutsNew old new node page =
    (image : List Sector) → All (λ row. length row ≡ row_length node.layout node.kind) node.rows → fewest node.kind ≤ length node.rows →
    ReplacesNodes node.layout node.kind (pages_of_map old image) [] (pages_of_map new image) (node_with page node.rows ∷ [])

-- so do these rows
abbrev pub PutsRows : RowLayout → Kind → PageMap → PageMap → List (List ℕ) → ℕ → Type 0
PutsRows layout kind old new rows page = (image : List Sector) → ReplacesNodes layout kind (pages_of_map old image) [] (pages_of_map new image) (node_with page rows ∷ [])

-- the rows of a page and of its new neighbour in the page above them
abbrev pub two_rows : RowLayout → SplitResult → Right → List (List ℕ)
two_rows layout split right = row_of layout (node_with split.page split.left.rows) ∷ row_of layout (node_with right.page right.node.rows) ∷ []

-- the row at a place of the node on a page has this rest
abbrev pub PutsRest : PageMap → PageMap → ℕ → Node → ℕ → List ℕ → Type 0
PutsRest old new page node place rest =
    (image : List Sector) → CanStand (pages_of_map old image) page node →
    ReplacesNodes node.layout node.kind (pages_of_map old image) (node_with page node.rows ∷ []) (pages_of_map new image)
    (node_with page (slice_set node.rows place (key_of node.layout (slice_index_or node.rows place []) ++ rest)) ∷ [])

-- the page above, whose row at a place names the page that was split
abbrev pub PutsParent : PageMap → PageMap → ℕ → Node → ℕ → SplitResult → Option SplitResult → Type 0
PutsParent old new page node place split up =
    (image : List Sector) → CanStand (pages_of_map old image) page node →
    rest_of node.layout (slice_index_or node.rows place []) ≡ big_bytes 4 split.page →
    UpdatesParent node.layout (pages_of_map old image) (pages_of_map new image) page node.rows place (run_of split) up

-- the node that a page is to have, which may begin with the key that it began with
abbrev pub PutsBack : PageMap → PageMap → ℕ → Node → Bool → RemovalOutcome → Type 0
PutsBack old new page node keeps_least outcome =
    (image : List Sector) (before : List (List ℕ)) → IsIn (pages_of_map old image) page →
    (keeps_least ≡ true → least_key node.layout (node_with page node.rows) ≡ least_key node.layout (node_with page before)) →
    IsRemovalResult node.layout node.kind (pages_of_map old image) (pages_of_map new image) page before node.rows outcome

-- the row at a place leaves the node
abbrev pub LosesRow : Kind → PageMap → PageMap → ℕ → Node → ℕ → RemovalOutcome → Type 0
LosesRow kind old new page node place outcome =
    (image : List Sector) → CanStand (pages_of_map old image) page node →
    IsRemovalResult node.layout kind (pages_of_map old image) (pages_of_map new image) page node.rows (take place node.rows ++ drop (place + 1) node.rows) outcome

-- the row of a child gets the child's least key
abbrev pub RenamesRow : PageMap → PageMap → PathStep → Node → Child → RemovalOutcome → Type 0
RenamesRow old new step node child outcome =
    (image : List Sector) → CanStand (pages_of_map old image) step.page node →
    rest_of node.layout (slice_index_or node.rows step.place []) ≡ big_bytes 4 child.page →
    IsRemovalResult node.layout Inner (pages_of_map old image) (pages_of_map new image) step.page node.rows
    (take step.place node.rows ++ (row_of node.layout (node_with child.page child.node.rows) ∷ drop (step.place + 1) node.rows)) outcome

-- two pages become the one or the two of the answer
abbrev pub PutsTogether : PageMap → PageMap → Child → Child → SplitResult → Type 0
PutsTogether old new left right joined =
    (image : List Sector) (one two : List (List ℕ)) → AreTwo (pages_of_map old image) left.page right.page →
    ReplacesNodes left.node.layout left.node.kind (pages_of_map old image) (node_with left.page one ∷ node_with right.page two ∷ []) (pages_of_map new image) (run_of joined)

-- and have the rows of both
abbrev pub HasBothRows : List (List ℕ) → List (List ℕ) → SplitResult → Type 0
HasBothRows one two joined = rows_of (run_of joined) ≡ one ++ two

-- so do two neighbours, and the page above them learns it
abbrev pub JoinsPair : PageMap → PageMap → ℕ → Node → ℕ → Child → Child → RemovalOutcome → Type 0
JoinsPair old new page node place left right outcome =
    (image : List Sector) (one two : TreeNode) → ArePair node.layout (pages_of_map old image) page node.rows place one two →
    one.page ≡ left.page → two.page ≡ right.page →
    Joins node.layout left.node.kind (pages_of_map old image) (pages_of_map new image) page node.rows place (left.node.rows ++ right.node.rows) one two outcome

-- where this is told, the page is none of the map; the two pages aren't two of it; and the step leads on from no such page
abbrev pub NeverIn : PageMap → ℕ → Type 0 → Type 0
NeverIn old page told = told → (image : List Sector) → 0 < page → IsIn (pages_of_map old image) page → ⊥

abbrev pub NeverTwo : PageMap → ℕ → ℕ → Type 0 → Type 0
NeverTwo old left right told = told → (image : List Sector) → 0 < left → 0 < right → AreTwo (pages_of_map old image) left right → ⊥

abbrev pub NeverLeads : PageMap → PathStep → Node → Type 0 → Type 0
NeverLeads old step node told =
    told → (image : List Sector) → node.kind ≡ Inner → step.place < length node.rows → 0 < step.page → IsIn (pages_of_map old image) step.page → ⊥

-- a key and the rest of a row have the lengths of the node's
abbrev pub HasRowLengths : Node → List ℕ → List ℕ → Type 0
HasRowLengths node key rest = (length key ≡ node.layout.key_length) × (length rest ≡ rest_length node.layout node.kind)

-- the rows of the answer are these, with one more at a place
abbrev pub HasInserted : List (List ℕ) → ℕ → List ℕ → SplitResult → Type 0
HasInserted rows place row split = rows_of (run_of split) ≡ insert rows place row
