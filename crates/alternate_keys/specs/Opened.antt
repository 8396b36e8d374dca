-- What an opening says of a volume.
use Rattle.std.specs.Prelude.{◌≡◌, ◌⊎◌, ◌≤◌, Bool, false, ℕ, List, Result, Ok, Err, IfErr, OnOk, OnErr, ⊤}
use Rattle.station.specs.Disk.{Sector}
use Rattle.station.specs.State.{State, state_after_sync}
use Rattle.station.specs.History.{Through}
use Rattle.station.specs.Failures.{Blames}
use Rattle.station.specs.declared.device.Device.{Ghosts as Devices}
use Rattle.pages.specs.Image.{Map, IsImageOf as HoldsMap}
use Rattle.pages.specs.Layout.{IsForeign}
use Rattle.pages.specs.Pages.{sectors_of}
use Rattle.pages.specs.declared.page_map.PageMap.{PageMap}
use Rattle.records.specs.declared.fault.StoreFault.{StoreFault}
use Rattle.records.specs.declared.fault.StoreFault.TheVariants.{Device, Full, Damaged, Memory, Spent, Layout, Old}
use Rattle.records.specs.Files.{Files}
use Rattle.volume_format.specs.Volume.{Holds}
use Rattle.alternate_keys.specs.Notes.{NotedSearch}

-- a volume that was opened: its pages, whether a change was refused, and what is noted of the last search
pub record OpenedVolume : Type 0 where
  pub pages : PageMap
  pub spent : Bool
  pub notes : NotedSearch

-- an image that holds a map of pages: its roots and map sectors are sound
abbrev pub HasMap : List Sector → Type 0
HasMap image = (m : Map) × HoldsMap image m

-- an image that holds no files
abbrev pub HoldsNone : List Sector → Type 0
HoldsNone image = (files : Files) → Holds image files → ⊥

-- What a refusal tells of the image: `Device` and `Memory` tell nothing of it, and `Full`, `Spent` and `Old` don't
-- come.
abbrev pub IsOpenRefusal : List Sector → StoreFault → Type 0
IsOpenRefusal image Device = ⊤
IsOpenRefusal image Full = ⊥
IsOpenRefusal image Damaged = HoldsNone image
IsOpenRefusal image Memory = ⊤
IsOpenRefusal image Spent = ⊥
IsOpenRefusal image Layout = IsForeign image
IsOpenRefusal image Old = ⊥

-- the device or memory failed
abbrev pub IsReadCause : StoreFault → Type 0
IsReadCause fault = (fault ≡ Device) ⊎ (fault ≡ Memory)

-- this fault, unless the device or memory failed
abbrev pub FailsWith : {T : Type 0} → StoreFault → Result T StoreFault → Type 0
FailsWith fault (Ok x) = ⊥
FailsWith fault (Err e) = (e ≡ fault) ⊎ IsReadCause e

-- it isn't spent, and its volume has at most so many sectors
abbrev pub IsReadyOn : ℕ → OpenedVolume → Type 0
IsReadyOn sectors store = (store.spent ≡ false) × (sectors_of store.pages ≤ sectors)

-- What a call that opens a volume did to the device.
module _ {D : Type 0} (d : Devices D) (old new : D) where
  -- the device has failed if the call blames it
  abbrev pub BlamesDevice : {T : Type 0} → Result T StoreFault → Type 0
  BlamesDevice result = Blames (result ≡ Err Device) (d.failures old) (d.failures new)

  -- it was synced; it is as it was, or was synced
  abbrev pub SyncsOnly : Type 0
  SyncsOnly = d.state new ≡ state_after_sync (d.state old)

  abbrev pub SyncsAtMost : Type 0
  SyncsAtMost = (d.state new ≡ d.state old) ⊎ (d.state new ≡ state_after_sync (d.state old))

  -- each moment was such a state
  abbrev pub PassesThrough : (State → Type 0) → Type 0
  PassesThrough claim = Through (d.history old) (d.history new) (d.state new) claim

module _ {D : Type 0} (d : Devices D) {T : Type 0} (result : Result T StoreFault) (old new : D) where
  -- after `Ok` the disk is synced
  abbrev pub IsSynced : Type 0
  IsSynced = d.is_honest old → OnOk result (d.state new ≡ state_after_sync (d.state old))

  -- after a refusal it is unchanged, or synced
  abbrev pub IsAtMostSynced : Type 0
  IsAtMostSynced = d.is_honest old
      → OnErr result ((d.state new ≡ d.state old) ⊎ (d.state new ≡ state_after_sync (d.state old)))

module _ {D : Type 0} (d : Devices D) (now : D) where
  -- where the device is honest, of the files that its image holds; and if the image is the other store's
  abbrev pub OnHeldFiles : (Files → Type 0) → Type 0
  OnHeldFiles claim = d.is_honest now → (files : Files) → Holds (d.state now).disk.present files → claim files

  abbrev pub IfForeign : Type 0 → Type 0
  IfForeign claim = d.is_honest now → IsForeign (d.state now).disk.present → claim

module _ {D : Type 0} (d : Devices D) {T : Type 0} (result : Result T StoreFault) (old : D) where
  -- only an image that holds a map is opened
  abbrev pub OpensMap : Type 0
  OpensMap = d.is_honest old → OnOk result (HasMap (d.state old).disk.present)

  -- each refusal says what it means of the present image
  abbrev pub RefusesForImage : Type 0
  RefusesForImage = d.is_honest old → IfErr result (IsOpenRefusal (d.state old).disk.present)

  -- where the image holds files, only the device and memory refuse
  abbrev pub OpensWhatHolds : Type 0
  OpensWhatHolds = d.is_honest old → (files : Files) → Holds (d.state old).disk.present files → IfErr result IsReadCause

  -- where it is the other store's, `Layout` is returned, unless the device or memory failed
  abbrev pub FailsIfForeign : Type 0
  FailsIfForeign = d.is_honest old → IsForeign (d.state old).disk.present → FailsWith Layout result
