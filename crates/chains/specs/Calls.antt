-- What the calls on a chain are asked for, said once.
use Rattle.std.specs.Prelude.{◌≡◌, ℕ, List, length, Option, Result, OnOk}
use Rattle.station.specs.Disk.{Sector}
use Rattle.station.specs.declared.device.Device.{Ghosts as Devices}
use Rattle.pages.specs.Pages.{Agrees, catalog_of}
use Rattle.pages.specs.declared.error.PagesError.{PagesError}
use Rattle.pages.specs.declared.page_map.PageMap.{PageMap}
use Rattle.btree.specs.Calls.{OnChange, pages_on}
use Rattle.chains.specs.Chain.{Stands, pages_for}
use Rattle.chains.specs.Changes.{Rewrites, Releases}

-- the page of the catalog's root is the same
abbrev pub KeepsCatalog : PageMap → PageMap → Type 0
KeepsCatalog old new = catalog_of new ≡ catalog_of old

module _ {D : Type 0} (device : Devices D) where
  -- where the device is honest and agrees with the map of pages, and a chain of so many pages stands from this page on
  abbrev pub OnChain : ℕ → ℕ → PageMap → D → (List (Option Sector) → Type 0) → Type 0
  OnChain count first pages now claim = device.is_honest now → Agrees pages (device.state now).disk
      → Stands (pages_on device pages now) count first → claim (pages_on device pages now)

  -- where this is told there, no such chain stands
  abbrev pub OnNoChain : ℕ → ℕ → PageMap → D → Type 0 → Type 0
  OnNoChain count first pages now told = device.is_honest now → Agrees pages (device.state now).disk → told
      → Stands (pages_on device pages now) count first → ⊥

  -- after `Ok`, the chain of a record has this one, if a chain of that length was there
  abbrev pub RewritesChain : {T : Type 0} → ℕ → List ℕ → PageMap → PageMap → D → Result T PagesError → Type 0
  RewritesChain first bytes old new now result = OnChange device old new now
      (λ before after. Stands before (pages_for (length bytes)) first → OnOk result (Rewrites before bytes after first))

  -- after `Ok`, a chain of so many pages left the map, if it was there
  abbrev pub ReleasesChain : {T : Type 0} → ℕ → ℕ → PageMap → PageMap → D → Result T PagesError → Type 0
  ReleasesChain first count old new now result = OnChange device old new now
      (λ before after. Stands before count first → OnOk result (Releases before count after first))
