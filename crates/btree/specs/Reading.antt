-- What a call that only reads tells, and why it is refused.
use Rattle.std.specs.Prelude.{◌≡◌, ◌<◌, ◌≤◌, ℕ, List, length, Option, Some, ⊤}
use Rattle.station.specs.Disk.{Sector}
use Rattle.pages.specs.declared.error.PagesError.{PagesError}
use Rattle.pages.specs.declared.error.PagesError.TheVariants.{Device, Full, Damaged, Memory, Spent, ForeignMark}
use Rattle.btree_pages.specs.declared.row_layout.RowLayout.{RowLayout}
use Rattle.btree_pages.specs.declared.row_layout.Kind.{Kind}
use Rattle.btree_pages.specs.Node.{Node, node_in}
use Rattle.btree.specs.Tree.{TreeNode, node_of, fewest, IsOnPage, IsTree}

-- a page is refused by the device, by a spent map, or as damaged
abbrev pub IsReadRefusal : PagesError → Type 0
IsReadRefusal Device = ⊤
IsReadRefusal Damaged = ⊤
IsReadRefusal Spent = ⊤
IsReadRefusal Full = ⊥
IsReadRefusal Memory = ⊥
IsReadRefusal ForeignMark = ⊥

-- so is a search, and memory may be wanting for a key of more than 128 bytes
abbrev pub IsSearchRefusal : RowLayout → PagesError → Type 0
IsSearchRefusal layout Device = ⊤
IsSearchRefusal layout Damaged = ⊤
IsSearchRefusal layout Spent = ⊤
IsSearchRefusal layout Full = ⊥
IsSearchRefusal layout Memory = 128 < layout.key_length
IsSearchRefusal layout ForeignMark = ⊥

-- bytes spell no page of a tree that has enough rows
abbrev pub SpellsNoNode : RowLayout → Sector → Type 0
SpellsNoNode layout bytes = (kind : Kind) (rows : List (List ℕ)) → node_in layout bytes ≡ Some (node_of layout kind rows) → fewest kind ≤ length rows → ⊥

-- a node of this layout, with rows enough, and of this kind besides
abbrev pub HasShape : RowLayout → Node → Type 0
HasShape layout node = (node.layout ≡ layout) × (fewest node.kind ≤ length node.rows) × (length node.rows ≤ 4080)

abbrev pub HasKindShape : RowLayout → Kind → Node → Type 0
HasKindShape layout kind node = (node.layout ≡ layout) × (node.kind ≡ kind) × (fewest kind ≤ length node.rows) × (length node.rows ≤ 4080)

-- if this is reported, the page has no node of a tree, none of this kind, and the pages under the root are no tree
abbrev pub NoneStands : RowLayout → ℕ → Type 0 → List (Option Sector) → Type 0
NoneStands layout page told pages = told → (kind : Kind) (node : TreeNode) → node.page ≡ page → IsOnPage layout pages kind node → ⊥

abbrev pub NoneOfKind : RowLayout → Kind → ℕ → Type 0 → List (Option Sector) → Type 0
NoneOfKind layout kind page told pages = told → (node : TreeNode) → node.page ≡ page → IsOnPage layout pages kind node → ⊥

abbrev pub NoTree : RowLayout → ℕ → Type 0 → List (Option Sector) → Type 0
NoTree layout root told pages = told → (levels : List (List TreeNode)) → IsTree layout pages root levels → ⊥
