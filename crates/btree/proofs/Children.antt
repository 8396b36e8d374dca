-- The children of a level's pages, which are read one after another.
use Rattle.std.proofs.Common.{◌≡◌, ◌<◌, ◌+◌, ℕ, List, [], ◌++◌, length, map, take, ap, ◌∙◌, arith}
use Rattle.std.specs.Prelude.{Option, Some, slice_index_or}
use Rattle.std.specs.List.{All}
use Rattle.station.specs.Calls.{OnlyReads}
use Rattle.station.specs.Disk.{Sector}
use Rattle.station.specs.declared.device.Device.{Ghosts as Devices}
use Rattle.pages.specs.Pages.{IsUnchanged}
use Rattle.pages.specs.declared.page_map.PageMap.{PageMap}
use Rattle.btree_pages.specs.declared.row_layout.RowLayout.{RowLayout}
use Rattle.btree_pages.specs.declared.row_layout.Kind.TheVariants.{Inner}
use Rattle.btree_pages.specs.Keys.{child_of}
use Rattle.btree_pages.specs.Node.{Node}
use Rattle.btree.specs.Calls.{KeepsAgreement, OnPages, pages_on}
use Rattle.btree.specs.Moves.{numbers_of}
use Rattle.btree.specs.Propagates.{node_with}
use Rattle.btree.specs.Tree.{TreeNode, IsOnPage, node_at, rows_of}
use Rattle.btree.proofs.Clearing.{as_many, children_more, page_at}
use Rattle.btree.proofs.Descents.{kind_read, rows_read}
use Rattle.btree.proofs.Passing.{pages_before}

-- the node of a page of a level of inner pages, when the page was read
pub inner_read : (layout : RowLayout) (pages : List (Option Sector)) (level : List TreeNode) (numbers : List ℕ)
    (place : ℕ) (node : Node) → All (IsOnPage layout pages Inner) level → numbers_of level ≡ numbers
    → place < length numbers → node_at layout pages (slice_index_or numbers place 0) ≡ Some node
    → (place < length level) × ((slice_index_or level place (node_with 0 [])).rows ≡ node.rows) × (Inner ≡ node.kind)
inner_read layout pages level numbers place node stand is low read =
    let none : TreeNode = node_with 0 [] in
    let here : TreeNode = slice_index_or level place none in
    let number : ℕ = slice_index_or numbers place 0 in
    let count = as_many level numbers is in
    let within : place < length level = omega arith in
    let page = page_at level numbers place none is within in (
      within,
      rows_read layout pages Inner here number node page (stand place none within) read,
      kind_read layout pages Inner here number node page (stand place none within) read,
    )

module _ {D : Type 0} (device : Devices D) where
  -- these are the children of the first pages, if the numbers are those of a level of inner pages
  abbrev pub AreChildren : RowLayout → PageMap → D → List ℕ → ℕ → List ℕ → Type 0
  AreChildren layout pages now numbers place children = OnPages device pages now
      (λ before. (level : List TreeNode) → All (IsOnPage layout before Inner) level → numbers_of level ≡ numbers
      → children ≡ map (child_of layout) (rows_of (take place level)))

  -- and those of the next page after it was read
  pub children_next : (layout : RowLayout) (old now : PageMap) (a b : D) (numbers : List ℕ) (place : ℕ) (node : Node)
      (before after : List ℕ) → IsUnchanged old now → OnlyReads device ⊥ a b → KeepsAgreement device old a now b
      → place < length numbers
      → OnPages device now b (λ pages. node_at layout pages (slice_index_or numbers place 0) ≡ Some node)
      → node.layout ≡ layout → after ≡ before ++ map (child_of node.layout) node.rows
      → AreChildren layout old a numbers place before → AreChildren layout old a numbers (place + 1) after
  children_next layout old now a b numbers place node before after unchanged only agree low read like pushed children =
      λ honest agrees level stand is.
      let number : ℕ = slice_index_or numbers place 0 in
      let at = pages_before device ⊥ old now a b (λ pages. node_at layout pages number ≡ Some node) unchanged only agree
      read honest agrees in
      let inner = inner_read layout (pages_on device old a) level numbers place node stand is low at in
      children_more layout level place (node_with 0 []) node.rows before after inner.0 inner.1
      (children honest agrees level stand is)
      (pushed ∙ ap (λ (f : RowLayout). before ++ map (child_of f) node.rows) like)
