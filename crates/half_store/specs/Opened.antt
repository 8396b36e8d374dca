-- What an opening says of a volume.
use Rattle.std.specs.Prelude.{◌≡◌, ◌⊎◌, List, Result, Ok, Err, IfErr, OnOk, OnErr}
use Rattle.station.specs.Disk.{Sector}
use Rattle.station.specs.State.{state_after_sync}
use Rattle.station.specs.History.{Through}
use Rattle.station.specs.Opening.{IsOpening}
use Rattle.station.specs.declared.device.Device.{Ghosts as Devices}
use Rattle.roots.specs.declared.error.RootsError.{RootsError}
use Rattle.roots.specs.declared.error.RootsError.TheVariants as roots
use Rattle.roots.specs.declared.pair.RootsFault.{RootsFault}
use Rattle.roots.specs.declared.pair.RootsFault.TheVariants as fault
use Rattle.records.specs.declared.fault.StoreFault.{StoreFault}
use Rattle.records.specs.declared.fault.StoreFault.TheVariants.{Device, Full, Damaged, Memory, Spent, Layout, Old}
use Rattle.records.specs.Files.{Files}
use Rattle.half_store.specs.Half.{Holds, IsForeign}

-- an image that holds no files
abbrev pub HoldsNone : List Sector → Type 0
HoldsNone image = (files : Files) → Holds image files → ⊥

-- What a refusal tells of the image: `Device` and `Memory` tell nothing of it, and `Full`, `Spent` and `Old` don't come.
abbrev pub IsOpenRefusal : List Sector → StoreFault → Type 0
IsOpenRefusal image Device = Unit {0}
IsOpenRefusal image Full = ⊥
IsOpenRefusal image Damaged = HoldsNone image
IsOpenRefusal image Memory = Unit {0}
IsOpenRefusal image Spent = ⊥
IsOpenRefusal image Layout = IsForeign image
IsOpenRefusal image Old = ⊥

abbrev pub of_fault : RootsFault → StoreFault
of_fault fault.Damaged = Damaged
of_fault fault.ForeignMark = Layout

abbrev pub of_roots : RootsError → StoreFault
of_roots roots.Device = Device
of_roots (roots.Roots f) = of_fault f

-- the causes of a read that is refused
abbrev pub IsReadCause : StoreFault → Type 0
IsReadCause fault = (fault ≡ Device) ⊎ (fault ≡ Memory)

-- this fault, unless the device or memory failed
abbrev pub FailsWith : {T : Type 0} → StoreFault → Result T StoreFault → Type 0
FailsWith fault (Ok x) = ⊥
FailsWith fault (Err e) = (e ≡ fault) ⊎ IsReadCause e

-- What a call that opens the volume of a device does to it: until its sync has succeeded, a crash leaves what was
-- possible before.
module _ {D : Type 0} (d : Devices D) (old new : D) where
  abbrev pub LeavesPossible : Type 0
  LeavesPossible = d.is_honest old → Through (d.history old) (d.history new) (d.state new) (IsOpening (d.state old))

module _ {D : Type 0} (d : Devices D) {T : Type 0} (result : Result T StoreFault) (old new : D) where
  -- after `Ok` the disk is synced
  abbrev pub IsSynced : Type 0
  IsSynced = d.is_honest old → OnOk result (d.state new ≡ state_after_sync (d.state old))

  -- after a refusal it is unchanged, or synced
  abbrev pub WritesNothing : Type 0
  WritesNothing = d.is_honest old → OnErr result ((d.state new ≡ d.state old) ⊎ (d.state new ≡ state_after_sync (d.state old)))

module _ {D : Type 0} (d : Devices D) {T : Type 0} (result : Result T StoreFault) (old : D) where
  -- each refusal tells what it means of the present image
  abbrev pub RefusesForImage : Type 0
  RefusesForImage = d.is_honest old → IfErr result (λ fault. IsOpenRefusal (d.state old).disk.present fault)

  -- where the image holds files, only the device and memory refuse
  abbrev pub OpensWhatHolds : Type 0
  OpensWhatHolds = d.is_honest old → (files : Files) → Holds (d.state old).disk.present files → IfErr result IsReadCause

  -- where its newest root has the other mark, `Layout` is returned, unless the device or memory failed
  abbrev pub FailsIfForeign : Type 0
  FailsIfForeign = d.is_honest old → IsForeign (d.state old).disk.present → FailsWith Layout result
