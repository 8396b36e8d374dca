-- Pages were put on the disk.
use Rattle.std.specs.Prelude.{◌≡◌, ◌≢◌, Result, Err, OnOk}
use Rattle.station.specs.History.{Through}
use Rattle.station.specs.Blocks.{CrashLeaves}
use Rattle.station.specs.declared.device.Device.{Ghosts as Devices}
use Rattle.pages.specs.Image.{map_of}
use Rattle.pages.specs.Pages.{map_now, committed_of, next_generation, IsFull, Agrees}
use Rattle.pages.specs.declared.page_map.PageMap.{PageMap}
use Rattle.records.specs.declared.fault.StoreFault.{StoreFault}
use Rattle.records.specs.declared.fault.StoreFault.TheVariants.{Full, Damaged}
use Rattle.records.specs.Files.{Files}
use Rattle.records.specs.Stores.{Either}
use Rattle.volume_format.specs.Volume.{MapHolds, Holds}
use Rattle.alternate_keys.specs.Stands.{Represents}

module _ {D : Type 0} (d : Devices D) where
  -- pages over a device: what is committed holds the files before, and the next generation of the pages holds those after
  pub record IsChanged (pages : PageMap) (device : D) (before after : Files) : Type 0 where
    pub honest : d.is_honest device
    pub agrees : Agrees pages (d.state device).disk
    pub was : MapHolds (map_of (d.state device).disk.present (committed_of pages)) before
    pub will : MapHolds (next_generation (map_now pages (d.state device).disk.present)) after

  -- The files before became those after. At each moment a crash leaves the ones or the others.
  pub record CommitsFiles {T : Type 0} (result : Result T StoreFault) (before after : Files) (pages : PageMap) (device : D) (pages' : PageMap) (device' : D) : Type 0 where
    pub stands : OnOk result (Represents pages' (d.state device').disk after)
    pub moments : Through (d.history device) (d.history device') (d.state device') (CrashLeaves (d.state device).events (Either Holds before after))
    pub sound : result ≢ Err Damaged
    pub full : result ≡ Err Full → IsFull pages
