-- What the calls on a device and a map of pages are asked for, said once.
use Rattle.std.specs.Prelude.{◌≡◌, ℕ, List, Option, Result, Err, IfOk}
use Rattle.station.specs.Calls.{OnlyReads}
use Rattle.station.specs.Disk.{Sector}
use Rattle.station.specs.declared.device.Device.{Ghosts as Devices}
use Rattle.pages.specs.declared.page_map.PageMap.{PageMap}
use Rattle.pages.specs.Pages.{map_now, catalog_of, Agrees, SameCommitted}
use Rattle.btree_pages.specs.declared.row_layout.RowLayout.{RowLayout}
use Rattle.pages.specs.declared.error.PagesError.{PagesError}
use Rattle.pages.specs.declared.error.PagesError.TheVariants.{Device}
use Rattle.btree.specs.Tree.{TreeNode, IsTreeOrEmpty}
use Rattle.btree.specs.Entries.{Entry, entries_of}
use Rattle.btree.specs.Rooted.{RootedTree}
use Rattle.btree.specs.Results.{ReturnsDamaged}

module _ {D : Type 0} (device : Devices D) where
  -- the pages of the map, with what was changed, over what the device's disk holds
  abbrev pub pages_on : PageMap → D → List (Option Sector)
  pages_on pages now = (map_now pages (device.state now).disk.present).pages

  -- where the device is honest and agrees with the map of pages
  abbrev pub IfAgrees : PageMap → D → Type 0 → Type 0
  IfAgrees pages now claim = device.is_honest now → Agrees pages (device.state now).disk → claim

  -- there, the map of pages agrees with the device after a call too
  abbrev pub KeepsAgreement : PageMap → D → PageMap → D → Type 0
  KeepsAgreement old before new after = IfAgrees old before (Agrees new (device.state after).disk)

  -- the device is only read by a call with this result, and it failed if `Device` is returned
  abbrev pub OnlyReadsFor : {T : Type 0} → D → D → Result T PagesError → Type 0
  OnlyReadsFor before after result = OnlyReads device (result ≡ Err Device) before after

  -- A call that changes pages leaves what is committed. Where `blamed` holds, the device failed.
  pub record EditsPages (blamed : Type 0) (old : PageMap) (before : D) (new : PageMap) (after : D) : Type 0 where
    pub only : OnlyReads device blamed before after
    pub committed : SameCommitted old new
    pub catalog : catalog_of new ≡ catalog_of old
    pub agrees : device.is_honest before → Agrees old (device.state before).disk → Agrees new (device.state after).disk

  -- The device failed if `Device` is returned.
  abbrev pub EditsPagesFor : {T : Type 0} → PageMap → D → PageMap → D → Result T PagesError → Type 0
  EditsPagesFor old before new after result = EditsPages (result ≡ Err Device) old before new after

  -- and where the pages under this root are a tree besides: of its levels
  abbrev pub OnTree : RowLayout → ℕ → PageMap → D → (List (List TreeNode) → Type 0) → Type 0
  OnTree layout root pages now claim = device.is_honest now → Agrees pages (device.state now).disk → (levels : List (List TreeNode)) → IsTreeOrEmpty layout (pages_on pages now) root levels → claim levels

  -- where this is told there, the pages under this root are no tree
  abbrev pub OnNoTree : RowLayout → ℕ → PageMap → D → Type 0 → Type 0
  OnNoTree layout root pages now told = device.is_honest now → Agrees pages (device.state now).disk → told → (levels : List (List TreeNode)) → IsTreeOrEmpty layout (pages_on pages now) root levels → ⊥

  -- there, of the pages; of the pages before a change and after it; and of a tree's levels between these
  abbrev pub OnPages : PageMap → D → (List (Option Sector) → Type 0) → Type 0
  OnPages pages now claim = device.is_honest now → Agrees pages (device.state now).disk → claim (pages_on pages now)

  abbrev pub OnChange : PageMap → PageMap → D → (List (Option Sector) → List (Option Sector) → Type 0) → Type 0
  OnChange old new now claim = device.is_honest now → Agrees old (device.state now).disk → claim (pages_on old now) (pages_on new now)

  abbrev pub OnTreeChange : RowLayout → ℕ → PageMap → PageMap → D → (List (Option Sector) → List (List TreeNode) → List (Option Sector) → Type 0) → Type 0
  OnTreeChange layout root old new now claim =
      device.is_honest now → Agrees old (device.state now).disk → (levels : List (List TreeNode)) → IsTreeOrEmpty layout (pages_on old now) root levels →
      claim (pages_on old now) levels (pages_on new now)

  -- where the pages under the root of this tree are a tree; and `Damaged` is returned only if they are none
  abbrev pub IfTree : RootedTree → PageMap → D → Type 0 → Type 0
  IfTree tree pages now claim = OnTree tree.layout tree.root pages now (λ levels. claim)

  abbrev pub DamagedOnlyIfNoTree : {T : Type 0} → RootedTree → PageMap → D → Result T PagesError → Type 0
  DamagedOnlyIfNoTree tree pages now result = OnNoTree tree.layout tree.root pages now (ReturnsDamaged result)

  -- what a search answers of the entries of a tree
  abbrev pub AnswersEntry : RootedTree → PageMap → D → (List Entry → Option Entry) → Result (Option Entry) PagesError → Type 0
  AnswersEntry tree pages now find result = OnTree tree.layout tree.root pages now (λ levels. IfOk result (λ entry. entry ≡ find (entries_of tree.layout levels)))

  -- and of a key
  abbrev pub AnswersKey : RootedTree → PageMap → D → (List Entry → List ℕ → Option Entry) → List ℕ → Result (Option Entry) PagesError → Type 0
  AnswersKey tree pages now find key result = AnswersEntry tree pages now (λ entries. find entries key) result
