-- The levels below the first one, after its pages have left.
use Rattle.std.proofs.Common.{◌≡◌, ◌<◌, ◌≤◌, ◌++◌, ◌∷◌, ◌^◌, [], ℕ, List, length, ap, subst, sym, ◌∙◌, arith}
use Rattle.std.specs.Prelude.{Option}
use Rattle.station.specs.Calls.{OnlyReads}
use Rattle.station.specs.Disk.{Sector}
use Rattle.station.specs.declared.device.Device.{Ghosts as Devices}
use Rattle.pages.specs.Image.{Map}
use Rattle.pages.specs.Pages.{Agrees, IsUnchanged, KeepsCommitted}
use Rattle.pages.specs.declared.page_map.PageMap.{PageMap}
use Rattle.btree_pages.specs.declared.row_layout.RowLayout.{RowLayout}
use Rattle.btree.specs.Calls.{KeepsAgreement, OnChange, pages_on}
use Rattle.btree.specs.Changes.{pages_of_map}
use Rattle.btree.specs.Clears.{HasPages, IsDown, levels_below}
use Rattle.btree.specs.Laws.{IsSmall}
use Rattle.btree.specs.Moves.{Moves}
use Rattle.btree.specs.Tree.{TreeNode, IsTree}
use Rattle.btree.proofs.Changing.{change_at}
use Rattle.btree.proofs.Clearing.{down_after, tree_down}

-- a tree is the levels from the page of its root down, alone in a list
pub root_down : (layout : RowLayout) (pages : List (Option Sector)) (root : ℕ) (levels : List (List TreeNode))
    (none numbers : List ℕ) → none ≡ [] → numbers ≡ none ++ root ∷ [] → IsTree layout pages root levels
    → (0 < length numbers) × IsDown layout pages numbers levels
root_down layout pages root levels none numbers empty pushed tree =
    let alone : numbers ≡ root ∷ [] = pushed ∙ ap (λ (xs : List ℕ). xs ++ root ∷ []) empty in
    let count = ap length alone in (
      omega arith,
      subst (λ (n : List ℕ). IsDown layout pages n levels) (sym alone) (tree_down layout pages root levels tree),
    )

module _ {D : Type 0} (device : Devices D) where
  -- The pages of the first level have left since a call that only reads, and what is claimed of the levels below holds.
  pub rest_left : (A : Type 0) (layout : RowLayout) (old seen mid new : PageMap) (a b : D)
      (numbers shown lower : List ℕ) (levels : List (List TreeNode))
      (P : List (Option Sector) → List (Option Sector) → List (List TreeNode) → Type 0)
      → IsUnchanged old seen → OnlyReads device A a b → KeepsAgreement device old a seen b → KeepsCommitted seen mid
      → shown ≡ numbers → ((image : List Sector) → Moves (pages_of_map seen image) shown (pages_of_map mid image) [])
      → device.is_honest a → Agrees old (device.state a).disk → IsSmall (pages_on device old a)
      → IsDown layout (pages_on device old a) numbers levels → HasPages lower (levels_below levels)
      → OnChange device mid new b (λ before after. (l : List (List TreeNode)) → IsSmall before
      → IsDown layout before lower l → P before after l)
      → Moves (pages_on device old a) numbers (pages_on device mid a) []
      × P (pages_on device mid a) (pages_on device new a) (levels_below levels)
  rest_left A layout old seen mid new a b numbers shown lower levels P unchanged only agree keeps is moves honest agrees
      few down has claim =
      let image = (device.state a).disk.present in
      let one = pages_on device old a in
      let two = pages_on device mid a in
      let first : Moves one numbers two [] = subst (λ (n : List ℕ). Moves one n two []) is
      (subst (λ (p : List (Option Sector)). Moves p shown two []) (ap (λ (m : Map). m.pages) (unchanged.map image))
      (moves image)) in
      let small : IsSmall two = subst (λ (n : ℕ). n ≤ 2 ^ 20) (sym first.count) few in (
        first,
        change_at device A mid new a b (λ before after. (l : List (List TreeNode)) → IsSmall before
            → IsDown layout before lower l → P before after l) only honest
            (keeps.agrees (device.state b).disk (agree honest agrees)) claim (levels_below levels) small
            (down_after layout one two numbers lower levels down has first),
      )
