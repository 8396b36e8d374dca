-- A change of pages after a call that only reads.
use Rattle.std.proofs.Common.{List, ap, subst}
use Rattle.std.specs.Prelude.{Option}
use Rattle.station.specs.Calls.{OnlyReads}
use Rattle.station.specs.Disk.{Sector}
use Rattle.station.specs.State.{State}
use Rattle.station.specs.declared.device.Device.{Ghosts as Devices}
use Rattle.pages.specs.Image.{Map}
use Rattle.pages.specs.Pages.{Agrees, IsUnchanged, map_now}
use Rattle.pages.specs.declared.page_map.PageMap.{PageMap}
use Rattle.btree.specs.Calls.{KeepsAgreement, OnChange, OnPages, pages_on}

module _ {D : Type 0} (device : Devices D) where
  -- a statement about the pages over the disk after the call, and over that before it
  pub pages_at : (A : Type 0) (pages : PageMap) (a b : D) (P : List (Option Sector) → Type 0) → OnlyReads device A a b
      → device.is_honest a → Agrees pages (device.state b).disk → OnPages device pages b P → P (pages_on device pages a)
  pages_at A pages a b P only honest agrees claim =
      subst (λ (s : State). P (map_now pages s.disk.present).pages) (only.state honest)
      (claim (only.honest.0 honest) agrees)

  pub change_at : (A : Type 0) (old new : PageMap) (a b : D)
      (P : List (Option Sector) → List (Option Sector) → Type 0) → OnlyReads device A a b → device.is_honest a
      → Agrees old (device.state b).disk → OnChange device old new b P
      → P (pages_on device old a) (pages_on device new a)
  change_at A old new a b P only honest agrees claim =
      subst (λ (s : State). P (map_now old s.disk.present).pages (map_now new s.disk.present).pages) (only.state honest)
      (claim (only.honest.0 honest) agrees)

  -- it is a change of the pages from before the call
  pub change_read : (A : Type 0) (old seen new : PageMap) (a b : D)
      (P : List (Option Sector) → List (Option Sector) → Type 0) → IsUnchanged old seen → OnlyReads device A a b
      → KeepsAgreement device old a seen b → OnChange device seen new b P → OnChange device old new a P
  change_read A old seen new a b P unchanged only agree claim = λ honest agrees.
      subst (λ (pages : List (Option Sector)). P pages (pages_on device new a))
      (ap (λ (m : Map). m.pages) (unchanged.map (device.state a).disk.present))
      (change_at A seen new a b P only honest (agree honest agrees) claim)
