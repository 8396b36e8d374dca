-- The rows of a tree's levels, by the calls that count them.
use Rattle.std.proofs.Common.{◌≡◌, ◌≢◌, ◌<◌, ◌≤◌, ◌+◌, ◌++◌, ℕ, true, false, List, [], ◌∷◌, length, take, sym, ap}
use Rattle.std.proofs.Common.{subst, ◌∙◌}
use Rattle.std.proofs.Common.{arith}
use Rattle.std.specs.Prelude.{slice_index_or, Option, Some, Result, Err, IfOk}
use Rattle.std.specs.List.{All}
use Rattle.station.specs.Calls.{OnlyReads}
use Rattle.station.specs.Disk.{Sector}
use Rattle.station.specs.declared.device.Device.{Ghosts as Devices}
use Rattle.pages.specs.Pages.{is_spent, page_count, Agrees, IsUnchanged}
use Rattle.pages.specs.declared.page_map.PageMap.{PageMap}
use Rattle.pages.specs.declared.error.PagesError.{PagesError}
use Rattle.pages.specs.declared.error.PagesError.TheVariants.{Damaged, Spent}
use Rattle.btree_pages.specs.declared.row_layout.RowLayout.{RowLayout}
use Rattle.btree_pages.specs.declared.row_layout.Kind.TheVariants.{Leaf, Inner}
use Rattle.btree_pages.specs.Node.{Node}
use Rattle.btree.specs.Calls.{IfAgrees, OnPages, OnTree, pages_on}
use Rattle.btree.specs.Changes.{CountsPages}
use Rattle.btree.specs.Clears.{HasPages, IsDown, levels_below}
use Rattle.btree.specs.Entries.{entries_of}
use Rattle.btree.specs.Laws.{IsSmall}
use Rattle.btree.specs.Moves.{numbers_of}
use Rattle.btree.specs.Propagates.{node_with}
use Rattle.btree.specs.Rooted.{RootedTree}
use Rattle.btree.specs.Tree.{TreeNode, IsOnPage, IsTreeOrEmpty, node_at, rows_of, rows_in_order}
use Rattle.btree.proofs.Clearing.{as_many, page_at}
use Rattle.btree.proofs.Counting.{AreLeaves, no_more_levels, levels_down, rows_more, unless_spent, damaged_unspent}
use Rattle.btree.proofs.Counting.{counted_tree, never_damaged}
use Rattle.btree.proofs.Descents.{rows_read, kind_read}
use Rattle.btree.proofs.Frames.{rooted_tree}
use Rattle.btree.proofs.Passing.{pages_before}
use Rattle.btree.proofs.ReadMaps.{small_map}

-- What is claimed of the levels from these pages down.
abbrev pub OfLevels : RowLayout → List ℕ → (List (List TreeNode) → Type 0) → List (Option Sector) → Type 0
OfLevels layout numbers claim pages = (levels : List (List TreeNode)) → IsSmall pages
    → IsDown layout pages numbers levels → claim levels

-- What is claimed of the leaves on these pages.
abbrev pub OfLeaves : RowLayout → List ℕ → (List TreeNode → Type 0) → List (Option Sector) → Type 0
OfLeaves layout numbers claim pages =
    (level : List TreeNode) → All (IsOnPage layout pages Leaf) level → numbers_of level ≡ numbers → claim level

-- The leaves on these pages that are before a place have so many rows.
abbrev pub CountsRows : RowLayout → List ℕ → ℕ → ℕ → List (Option Sector) → Type 0
CountsRows layout numbers place count = OfLeaves layout numbers (λ level. count ≡ length (rows_of (take place level)))

-- The leaf at a place is the node that was read from its page.
record IsLeafAt (layout : RowLayout) (pages : List (Option Sector)) (level : List TreeNode) (place : ℕ) (node : Node)
    : Type 0 where
  pub low : place < length level
  pub rows : (slice_index_or level place (node_with 0 [])).rows ≡ node.rows
  pub kind : Leaf ≡ node.kind

leaf_at : (layout : RowLayout) (pages : List (Option Sector)) (level : List TreeNode) (numbers : List ℕ) (place : ℕ)
    (node : Node) → All (IsOnPage layout pages Leaf) level → numbers_of level ≡ numbers → place < length numbers
    → node_at layout pages (slice_index_or numbers place 0) ≡ Some node → IsLeafAt layout pages level place node
leaf_at layout pages level numbers place node stand are low read =
    let none : TreeNode = node_with 0 [] in
    let here : TreeNode = slice_index_or level place none in
    let within : place < length level = omega (arith, as_many level numbers are, low) in
    let page = page_at level numbers place none are within in
    let stands = stand place none within in
    record {
      low = within;
      rows = rows_read layout pages Leaf here (slice_index_or numbers place 0) node page stands read;
      kind = kind_read layout pages Leaf here (slice_index_or numbers place 0) node page stands read;
    }

leaf_or_inner : Leaf ≡ Inner → ⊥
leaf_or_inner is = cc

-- A number that is pushed to an empty list is its only element.
root_number : (root : ℕ) (start numbers : List ℕ) → start ≡ [] → numbers ≡ start ++ root ∷ []
    → (numbers ≡ root ∷ []) × (0 < length numbers)
root_number root start numbers none pushed =
    let alone : numbers ≡ root ∷ [] = pushed ∙ ap (λ (xs : List ℕ). xs ++ root ∷ []) none in
    (alone, omega (arith, ap length alone))

module _ {D : Type 0} (device : Devices D) where
  -- One leaf more was read.
  pub rows_on : (A : Type 0) (old now : PageMap) (a b : D) (layout : RowLayout) (numbers : List ℕ)
      (place count more : ℕ) (node : Node) → IsUnchanged old now → OnlyReads device A a b
      → IfAgrees device old a (Agrees now (device.state b).disk) → place < length numbers
      → OnPages device now b (λ p. node_at layout p (slice_index_or numbers place 0) ≡ Some node)
      → more ≡ length node.rows → OnPages device old a (CountsRows layout numbers place count)
      → OnPages device old a (CountsRows layout numbers (place + 1) (count + more))
  rows_on A old now a b layout numbers place count more node unchanged only agrees low read more_is counted =
      λ honest agreed level stand are.
      let leaf = leaf_at layout (pages_on device old a) level numbers place node stand are low
      (pages_before device A old now a b (λ p. node_at layout p (slice_index_or numbers place 0) ≡ Some node) unchanged
      only agrees read honest agreed) in
      ap (λ (n : ℕ). count + n) more_is
      ∙ rows_more level place (node_with 0 []) node.rows count leaf.low leaf.rows
      (counted honest agreed level stand are)

  -- None of the leaves is an inner page.
  pub never_inner : (A : Type 0) (old now : PageMap) (a b : D) (layout : RowLayout) (numbers : List ℕ) (place : ℕ)
      (node : Node) → IsUnchanged old now → OnlyReads device A a b
      → IfAgrees device old a (Agrees now (device.state b).disk) → place < length numbers
      → OnPages device now b (λ p. node_at layout p (slice_index_or numbers place 0) ≡ Some node)
      → node.kind ≡ Inner → OnPages device old a (OfLeaves layout numbers (λ level. ⊥))
  never_inner A old now a b layout numbers place node unchanged only agrees low read inner =
      λ honest agreed level stand are.
      let leaf = leaf_at layout (pages_on device old a) level numbers place node stand are low
      (pages_before device A old now a b (λ p. node_at layout p (slice_index_or numbers place 0) ≡ Some node) unchanged
      only agrees read honest agreed) in
      leaf_or_inner (leaf.kind ∙ inner)

  -- If no pages are below these, they are leaves. What is claimed of leaves on these pages holds for their level.
  pub of_leaves : (A : Type 0) (old now : PageMap) (a b : D) (layout : RowLayout) (numbers above last lower : List ℕ)
      (claim : List TreeNode → Type 0) → IsUnchanged old now → OnlyReads device A a b
      → IfAgrees device old a (Agrees now (device.state b).disk) → above ≡ numbers → last ≡ numbers
      → 0 < length numbers → lower ≡ []
      → OnPages device old a (OfLevels layout above (λ levels. HasPages lower (levels_below levels)))
      → OnPages device now b (OfLeaves layout last claim)
      → OnPages device old a
      (λ p. (levels : List (List TreeNode)) → IsSmall p → IsDown layout p numbers levels
      → (are : AreLeaves layout p numbers levels) × claim are.level)
  of_leaves A old now a b layout numbers above last lower claim unchanged only agrees above_is last_is some none below
      claimed = λ honest agreed levels few down.
      let pages = pages_on device old a in
      let has = below honest agreed levels few
      (subst (λ (n : List ℕ). IsDown layout pages n levels) (sym above_is) down) in
      let are = no_more_levels layout pages numbers lower levels some down has none in (
        are,
        pages_before device A old now a b (OfLeaves layout last claim) unchanged only agrees claimed honest agreed
            are.level are.stand (are.are ∙ sym last_is),
      )

  -- Else what is claimed of the levels from the pages below down holds for the levels below these pages.
  pub of_lower : (A : Type 0) (old now : PageMap) (a b : D) (layout : RowLayout) (numbers above lower : List ℕ)
      (claim : List (List TreeNode) → Type 0) → IsUnchanged old now → OnlyReads device A a b
      → IfAgrees device old a (Agrees now (device.state b).disk) → above ≡ numbers
      → OnPages device old a (OfLevels layout above (λ levels. HasPages lower (levels_below levels)))
      → OnPages device now b (OfLevels layout lower claim)
      → OnPages device old a
      (OfLevels layout numbers (λ levels. HasPages lower (levels_below levels) × claim (levels_below levels)))
  of_lower A old now a b layout numbers above lower claim unchanged only agrees above_is below claimed =
      λ honest agreed levels few down.
      let pages = pages_on device old a in
      let has = below honest agreed levels few
      (subst (λ (n : List ℕ). IsDown layout pages n levels) (sym above_is) down) in (
        has,
        pages_before device A old now a b (OfLevels layout lower claim) unchanged only agrees claimed honest agreed
            (levels_below levels) few (levels_down layout pages numbers lower levels down has),
      )

  -- The entries of a tree are counted from the page of its root down.
  pub counted_by : (pages : PageMap) (a : D) (tree : RootedTree) (layout : RowLayout) (root count : ℕ)
      (start numbers : List ℕ) (result : Result ℕ PagesError) → record { layout = layout; root = root } ≡ tree
      → root ≢ 0 → start ≡ [] → numbers ≡ start ++ root ∷ [] → CountsPages pages → count ≡ page_count pages
      → (is_spent pages ≡ false → count ≤ 921600)
      → (is_spent pages ≡ true → 0 < length numbers → 0 < 21 → result ≡ Err Spent)
      → OnPages device pages a
      (OfLevels layout numbers (λ levels. IfOk result (λ n. n ≡ length (rows_in_order levels))))
      → OnTree device tree.layout tree.root pages a
      (λ levels. IfOk result (λ n. n ≡ length (entries_of tree.layout levels)))
  counted_by pages a tree layout root count start numbers result tree_is some none pushed counts count_is few told
      counted = λ honest agreed levels holds.
      let here = rooted_tree tree layout root (pages_on device pages a) levels tree_is some holds in
      let are = root_number root start numbers none pushed in
      subst (λ (t : RootedTree). IfOk result (λ n. n ≡ length (entries_of t.layout levels))) tree_is
      (unless_spent result (is_spent pages) (λ n. n ≡ length (entries_of layout levels))
      (λ spent. told spent are.1 (omega arith)) (λ live. counted_tree layout (pages_on device pages a) root levels
      numbers result here are.0 (small_map pages (device.state a).disk.present count counts count_is few live)
      (counted honest agreed)))

  -- If there is a tree, its entries are counted.
  pub never_uncounted : (pages : PageMap) (a : D) (tree : RootedTree) (layout : RowLayout) (root count : ℕ)
      (start numbers : List ℕ) (result : Result ℕ PagesError) → record { layout = layout; root = root } ≡ tree
      → root ≢ 0 → start ≡ [] → numbers ≡ start ++ root ∷ [] → CountsPages pages → count ≡ page_count pages
      → (is_spent pages ≡ false → count ≤ 921600)
      → (is_spent pages ≡ true → 0 < length numbers → 0 < 21 → result ≡ Err Spent) → result ≡ Err Damaged
      → OnPages device pages a (OfLevels layout numbers (λ levels. length levels ≤ 21 → ⊥))
      → OnPages device pages a
      (λ p. (levels : List (List TreeNode)) → IsTreeOrEmpty tree.layout p tree.root levels → ⊥)
  never_uncounted pages a tree layout root count start numbers result tree_is some none pushed counts count_is few told
      is never = λ honest agreed levels holds.
      let here = rooted_tree tree layout root (pages_on device pages a) levels tree_is some holds in
      let are = root_number root start numbers none pushed in
      let live = damaged_unspent result (is_spent pages) (λ spent. told spent are.1 (omega arith)) is in
      never_damaged layout (pages_on device pages a) root levels numbers here are.0
      (small_map pages (device.state a).disk.present count counts count_is few live) (never honest agreed)
