-- What a change of a file does to pages, and to the disk.
use Rattle.std.specs.Prelude.{◌≡◌, ◌≢◌, Bool, ℕ, List, Result, Err, OnOk}
use Rattle.station.specs.History.{Through}
use Rattle.station.specs.Blocks.{CrashLeaves}
use Rattle.station.specs.declared.device.Device.{Ghosts as Devices}
use Rattle.pages.specs.Pages.{map_now, Agrees}
use Rattle.pages.specs.declared.page_map.PageMap.{PageMap}
use Rattle.records.specs.declared.fault.StoreFault.{StoreFault}
use Rattle.records.specs.declared.fault.StoreFault.TheVariants.{Full, Damaged, Old}
use Rattle.records.specs.declared.file_spec.FileSpec.{FileSpec}
use Rattle.records.specs.Files.{File, Files}
use Rattle.records.specs.Stores.{Has, Either}
use Rattle.volume_format.specs.Volume.{MapHolds, Holds}
use Rattle.alternate_keys.specs.Stands.{Represents, LacksRoom, LacksMark}

module _ {D : Type 0} (d : Devices D) where
  -- where the device is honest and agrees with the map of pages, of the files there and the one that is meant
  abbrev pub OnFile : FileSpec → PageMap → D → (Files → File → Type 0) → Type 0
  OnFile file pages now claim =
      d.is_honest now → Agrees pages (d.state now).disk → (files : Files) (held : File) → MapHolds (map_now pages (d.state now).disk.present) files → Has files file held → claim files held

  -- The files of a volume became others, by a change of the one of this name. At each moment a crash leaves the ones or the others.
  pub record HasChangedFiles {T : Type 0} (result : Result T StoreFault) (is_new : Bool) (name : List ℕ) (before after : Files) (pages : PageMap) (device : D) (pages' : PageMap) (device' : D) : Type 0 where
    pub stands : OnOk result (Represents pages' (d.state device').disk after)
    pub moments : Through (d.history device) (d.history device') (d.state device') (CrashLeaves (d.state device).events (Either Holds before after))
    pub sound : result ≢ Err Damaged
    pub room : result ≡ Err Full → LacksRoom (d.state device).disk.present is_new name after
    pub mark : result ≡ Err Old → LacksMark (d.state device).disk.present is_new name after
