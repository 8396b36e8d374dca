-- An entry that comes to a leaf after its first row, and one that gets another value in its leaf.
use Rattle.std.specs.Prelude.{◌≡◌, ◌<◌, ◌≤◌, ◌+◌, ◌++◌, ℕ, List, [], length, take, drop, slice_index_or, slice_set, Option, Some, None, Bool, true, Result, Ok}
use Rattle.station.specs.Disk.{Disk, Sector}
use Rattle.pages.specs.Pages.{Agrees}
use Rattle.pages.specs.declared.page_map.PageMap.{PageMap}
use Rattle.pages.specs.declared.error.PagesError.{PagesError}
use Rattle.btree_pages.specs.declared.row_layout.RowLayout.{RowLayout}
use Rattle.btree_pages.specs.declared.row_layout.Kind.TheVariants.{Leaf}
use Rattle.btree_pages.specs.Keys.{key_of, keys_of, Ascend, AllBelow, AllAbove}
use Rattle.btree_pages.specs.Node.{Node, node_in}
use Rattle.btree_pages.specs.Edits.{node_with_row, with_rest}
use Rattle.btree.specs.Changes.{pages_of_map}

-- The second bytes spell the leaf of the first ones with the entry at a place after its first row, between lesser keys and greater ones.
pub record EntersIn (layout : RowLayout) (bytes : Sector) (key value : List ℕ) (new : Sector) : Type 0 where
  pub node : Node
  pub place : ℕ
  pub read : node_in layout bytes ≡ Some node
  pub layout_is : node.layout ≡ layout
  pub kind_is : node.kind ≡ Leaf
  pub some : 0 < place
  pub low : place ≤ length node.rows
  pub around : Ascend (keys_of node.layout node.rows) → AllBelow node.layout key (take place node.rows) × AllAbove node.layout key (drop place node.rows)
  pub spelled : node_in layout new ≡ Some (node_with_row node place (key ++ value))

-- the page of that number became so
pub record EntersOn (layout : RowLayout) (page : ℕ) (key value : List ℕ) (before after : List (Option Sector)) : Type 0 where
  pub bytes : Sector
  pub new : Sector
  pub at : slice_index_or before page None ≡ Some bytes
  pub enters : EntersIn layout bytes key value new
  pub is : after ≡ slice_set before page (Some new)

-- The second bytes spell the leaf of the first ones with another value for the entry of the key.
pub record SetsIn (layout : RowLayout) (bytes : Sector) (key value : List ℕ) (new : Sector) : Type 0 where
  pub node : Node
  pub place : ℕ
  pub read : node_in layout bytes ≡ Some node
  pub layout_is : node.layout ≡ layout
  pub kind_is : node.kind ≡ Leaf
  pub low : place < length node.rows
  pub here : key_of node.layout (slice_index_or node.rows place []) ≡ key
  pub around : Ascend (keys_of node.layout node.rows) → AllBelow node.layout key (take place node.rows) × AllAbove node.layout key (drop (place + 1) node.rows)
  pub spelled : node_in layout new ≡ Some (with_rest node place value)

-- the page of that number became so
pub record SetsOn (layout : RowLayout) (page : ℕ) (key value : List ℕ) (before after : List (Option Sector)) : Type 0 where
  pub bytes : Sector
  pub new : Sector
  pub at : slice_index_or before page None ≡ Some bytes
  pub sets : SetsIn layout bytes key value new
  pub is : after ≡ slice_set before page (Some new)

-- `true` is returned only if the page became so
abbrev pub TrueOnlyIfEntered : RowLayout → ℕ → List ℕ → List ℕ → PageMap → PageMap → Result Bool PagesError → Type 0
TrueOnlyIfEntered layout page key value old new result =
    result ≡ Ok true → (disk : Disk) → Agrees old disk → EntersOn layout page key value (pages_of_map old disk.present) (pages_of_map new disk.present)

abbrev pub TrueOnlyIfSet : RowLayout → ℕ → List ℕ → List ℕ → PageMap → PageMap → Result Bool PagesError → Type 0
TrueOnlyIfSet layout page key value old new result =
    result ≡ Ok true → (disk : Disk) → Agrees old disk → SetsOn layout page key value (pages_of_map old disk.present) (pages_of_map new disk.present)
