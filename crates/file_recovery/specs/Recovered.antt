-- What recovery says of a volume.
use Rattle.std.specs.Prelude.{◌≡◌, ◌⊎◌, List, ⊤}
use Rattle.station.specs.Disk.{Sector}
use Rattle.pages.specs.Layout.{IsForeign}
use Rattle.records.specs.declared.fault.StoreFault.{StoreFault}
use Rattle.records.specs.declared.fault.StoreFault.TheVariants.{Device, Full, Damaged, Memory, Spent, Layout, Old}
use Rattle.records.specs.Files.{Files}
use Rattle.volume_format.specs.Volume.{Holds as HoldsTrees}
use Rattle.half_store.specs.Half.{Holds as HoldsHalf}

-- the files that an image holds, as trees of pages or in one of two halves
abbrev pub HoldsFiles : List Sector → Files → Type 0
HoldsFiles image files = (HoldsTrees image files) ⊎ (HoldsHalf image files)

-- an image that holds no files
abbrev pub HoldsNone : List Sector → Type 0
HoldsNone image = (files : Files) → HoldsFiles image files → ⊥

-- What a refusal tells of the image: `Device` and `Memory` tell nothing of it, and others than these three don't come.
abbrev pub IsRecoveryRefusal : List Sector → StoreFault → Type 0
IsRecoveryRefusal image Device = ⊤
IsRecoveryRefusal image Full = ⊥
IsRecoveryRefusal image Damaged = HoldsNone image
IsRecoveryRefusal image Memory = ⊤
IsRecoveryRefusal image Spent = ⊥
IsRecoveryRefusal image Layout = ⊥
IsRecoveryRefusal image Old = ⊥

-- the same, of the files in trees: the newest root may be the other store's
abbrev pub RefusedTrees : List Sector → StoreFault → Type 0
RefusedTrees image Device = ⊤
RefusedTrees image Full = ⊥
RefusedTrees image Damaged = (files : Files) → HoldsTrees image files → ⊥
RefusedTrees image Memory = ⊤
RefusedTrees image Spent = ⊥
RefusedTrees image Layout = IsForeign image
RefusedTrees image Old = ⊥

-- the device or memory failed
abbrev pub IsReadCause : StoreFault → Type 0
IsReadCause fault = (fault ≡ Device) ⊎ (fault ≡ Memory)

-- a device or memory that failed, or the other store's root
abbrev pub IsTreeCause : StoreFault → Type 0
IsTreeCause fault = (fault ≡ Layout) ⊎ IsReadCause fault
