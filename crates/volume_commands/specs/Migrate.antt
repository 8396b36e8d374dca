-- What the command `migrate` does to the volume of a device.
use Rattle.std.specs.Prelude.{List, Result}
use Rattle.station.specs.Disk.{Sector}
use Rattle.station.specs.History.{Through, EachImage}
use Rattle.station.specs.declared.device.Device.{Ghosts as Devices}
use Rattle.half_store.specs.Half.{Holds as HoldsHalf}
use Rattle.records.specs.declared.fault.StoreFault.{StoreFault}
use Rattle.records.specs.Files.{Files}
use Rattle.volume_format.specs.Volume.{Holds}
use Rattle.alternate_keys.specs.Migrated.{IsMigrated, IsMigrating}
use Rattle.alternate_keys.specs.Opened.{FailsWith, SyncsAtMost}
use Rattle.file_recovery.specs.Recovered.{HoldsFiles, HoldsNone}

module _ {D : Type 0} (device : Devices D) where
  abbrev pub present_on : D → List Sector
  present_on now = (device.state now).disk.present

  -- at each moment a crash leaves what was possible before, or the same files
  abbrev pub KeepsFiles : D → D → Type 0
  KeepsFiles old new = (files : Files) → HoldsFiles (present_on old) files
      → Through (device.history old) (device.history new) (device.state new) (IsMigrating (device.state old) files)

  -- The volume held files. Whatever a crash leaves has the newest mark and holds the same files.
  abbrev pub HasMigrated : D → D → Type 0
  HasMigrated old new =
      (files : Files) × Holds (present_on old) files × EachImage (IsMigrated files) (device.state new)

  -- where the device is honest and its volume holds no files; and where it is a volume of halves
  abbrev pub IfWithoutFiles : D → Type 0 → Type 0
  IfWithoutFiles old claim = device.is_honest old → HoldsNone (present_on old) → claim

  abbrev pub IfOfHalves : D → Type 0 → Type 0
  IfOfHalves old claim = device.is_honest old → (files : Files) → HoldsHalf (present_on old) files → claim

  -- This fault is returned, unless the device or memory failed, and nothing was written.
  abbrev pub RefusesUnwritten : {T : Type 0} → StoreFault → Result T StoreFault → D → D → Type 0
  RefusesUnwritten fault result old new = FailsWith fault result × SyncsAtMost device old new
