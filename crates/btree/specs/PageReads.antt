-- What a call answers that reads a page of a tree, and changes nothing.
use Rattle.std.specs.Prelude.{ℕ, List, Option, Result, IfOk, IfErr}
use Rattle.station.specs.Disk.{Sector}
use Rattle.station.specs.declared.device.Device.{Ghosts as Devices}
use Rattle.pages.specs.Pages.{IsUnchanged}
use Rattle.pages.specs.declared.page_map.PageMap.{PageMap}
use Rattle.pages.specs.declared.error.PagesError.{PagesError}
use Rattle.btree_pages.specs.declared.row_layout.RowLayout.{RowLayout}
use Rattle.btree.specs.Calls.{OnlyReadsFor, KeepsAgreement, OnPages}
use Rattle.btree.specs.Reading.{NoneStands}
use Rattle.btree.specs.Results.{ReturnsDamaged, ExactlyIfSpent}

module _ {D : Type 0} (device : Devices D) where
  -- After `Ok`, `answers` holds of the pages and what is returned. `Damaged` is returned only if the page is none of a
  -- tree, and an error only if it is a `reason`.
  pub record AnswersFromPage {T : Type 0} (layout : RowLayout) (page : ℕ) (answers : List (Option Sector) → T → Type 0)
      (reason : PagesError → Type 0) (old : PageMap) (before : D) (new : PageMap) (after : D)
      (result : Result T PagesError) : Type 0 where
    pub only : OnlyReadsFor device before after result
    pub unchanged : IsUnchanged old new
    pub agrees : KeepsAgreement device old before new after
    pub answer : OnPages device old before (λ pages. IfOk result (answers pages))
    pub damaged : OnPages device old before (NoneStands layout page (ReturnsDamaged result))
    pub spent : ExactlyIfSpent old result
    pub cause : IfErr result reason
