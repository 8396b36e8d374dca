-- What each call on a device keeps of it, and what it counts.
use Rattle.std.specs.Prelude.{◌≡◌, ◌↔◌, ◌≤◌, Result, Err}
use Rattle.station.specs.Failures.{Blames}
use Rattle.station.specs.Calls.{OnlyReads, OnlyWrites}
use Rattle.station.specs.declared.device.Device.{Ghosts as Devices}
use Rattle.pages.specs.Pages.{sectors_of}
use Rattle.pages.specs.declared.error.PagesError.{PagesError}
use Rattle.pages.specs.declared.error.PagesError.TheVariants.{Device}
use Rattle.pages.specs.declared.page_map.PageMap.{PageMap}

module _ {D : Type 0} (device : Devices D) where
  -- whether the device is honest, and how many sectors it has
  abbrev pub KeepsHonesty : D → D → Type 0
  KeepsHonesty old new = device.is_honest old ↔ device.is_honest new

  abbrev pub KeepsSectors : D → D → Type 0
  KeepsSectors old new = device.sectors new ≡ device.sectors old

  -- if `Device` is returned, the device counted a failure
  abbrev pub BlamesDevice : {T : Type 0} → Result T PagesError → D → D → Type 0
  BlamesDevice result old new = Blames (result ≡ Err Device) (device.failures old) (device.failures new)

  -- a call that only reads, and one that reads and writes; if `Device` is returned, the device counted a failure
  abbrev pub OnlyReadsDevice : {T : Type 0} → Result T PagesError → D → D → Type 0
  OnlyReadsDevice result old new = OnlyReads device (result ≡ Err Device) old new

  abbrev pub OnlyWritesDevice : {T : Type 0} → Result T PagesError → D → D → Type 0
  OnlyWritesDevice result old new = OnlyWrites device (result ≡ Err Device) old new

  -- the device has each sector of the volume
  abbrev pub FitsDevice : PageMap → D → Type 0
  FitsDevice p now = sectors_of p ≤ device.sectors now
