-- What `copy` leaves, and what its refusal says.
use Rattle.std.specs.Prelude.{◌≡◌, ◌≢◌, ◌⊎◌, ◌↔◌, ℕ, List, Result, Ok, Err, ⊤}
use Rattle.station.specs.Disk.{Disk, Sector, IsCrashImage}
use Rattle.station.specs.Failures.{Blames}
use Rattle.station.specs.History.{Through, EachImage}
use Rattle.station.specs.Opening.{IsOpening}
use Rattle.station.specs.State.{State, state_after_sync}
use Rattle.station.specs.declared.device.Device.{Ghosts as Devices}
use Rattle.roots.specs.declared.pair.RootsFault.TheVariants as roots
use Rattle.roots.specs.Reading.{roots_in}
use Rattle.pages.specs.Layout.{known_families as tree_families}
use Rattle.half_store.specs.Half.{known_families as half_families}
use Rattle.records.specs.declared.fault.StoreFault.TheVariants.{Device}
use Rattle.records.specs.Files.{Files}
use Rattle.records.specs.Faults.{number_of as fault_number}
use Rattle.file_recovery.specs.Recovered.{HoldsFiles, HoldsNone, IsRecoveryRefusal, IsReadCause}
use Rattle.unfinished_volume.specs.Inverted.{inverted_state}
use Rattle.volume_copies.specs.Same.{AreSameFiles}
use Rattle.volume_copies.specs.declared.copied.VolumeCopy.{VolumeCopy}
use Rattle.volume_copies.specs.declared.copied.VolumeCopy.TheVariants.{Done, Different}
use Rattle.volume_copies.specs.declared.copy_error.CopyError.{CopyError}
use Rattle.volume_copies.specs.declared.copy_error.CopyError.TheVariants.{Old, New}

-- The old volume held files, and whatever a crash leaves of the new one holds the same.
pub record IsCopied (old new : State) : Type 0 where
  pub files : Files
  pub holds : HoldsFiles old.disk.present files
  pub copies : Files
  pub durable : EachImage (λ image. HoldsFiles image copies) new
  pub same : AreSameFiles files copies

-- whatever a crash leaves holds the same files as these
pub record IsReadBack (files : Files) (new : State) : Type 0 where
  pub copies : Files
  pub durable : EachImage (λ image. HoldsFiles image copies) new
  pub same : AreSameFiles files copies

-- An image holds the same files as these.
pub record HoldsSame (files : Files) (image : List Sector) : Type 0 where
  pub copies : Files
  pub holds : HoldsFiles image copies
  pub same : AreSameFiles files copies

-- An image holds the same files as another one.
pub record HoldsCopy (old image : List Sector) : Type 0 where
  pub files : Files
  pub holds : HoldsFiles old files
  pub copy : HoldsSame files image

-- An image is no volume: neither a reader of trees nor one of halves finds a root, and it holds no files.
pub record IsNoVolume (image : List Sector) : Type 0 where
  pub trees : roots_in tree_families image ≡ Err roots.Damaged
  pub halves : roots_in half_families image ≡ Err roots.Damaged
  pub files : HoldsNone image

-- While these files are copied to a device, a crash leaves what was possible before, no volume, or the same files.
abbrev pub IsWhileMade : Files → Disk → List Sector → Type 0
IsWhileMade files before image = IsCrashImage before image ⊎ (IsNoVolume image ⊎ HoldsSame files image)

-- While a volume is copied to a new device, a crash leaves of it what was possible before, no volume, or the same
-- files.
abbrev pub IsWhileCopied : State → State → List Sector → Type 0
IsWhileCopied old new image = IsCrashImage new.disk image ⊎ (IsNoVolume image ⊎ HoldsCopy old.disk.present image)

-- The new device was written and is no volume: the files differ, or it was refused for another reason than its failure.
abbrev pub IsAbandoned : Result VolumeCopy CopyError → Type 0
IsAbandoned (Ok Done) = ⊥
IsAbandoned (Ok Different) = ⊤
IsAbandoned (Err (Old fault)) = ⊥
IsAbandoned (Err (New fault)) = fault ≢ Device

-- whatever a crash leaves is a volume: it holds these files
pub record IsVolume (new : State) : Type 0 where
  pub files : Files
  pub durable : EachImage (λ image. HoldsFiles image files) new

-- the number that the product prints
abbrev pub number_of : CopyError → ℕ
number_of (Old fault) = fault_number fault
number_of (New fault) = fault_number fault

-- Of the old volume a refusal says what recovery says of it. If it holds files, its device or memory failed.
abbrev pub IsCopyRefusal : List Sector → CopyError → Type 0
IsCopyRefusal image (Old fault) =
    IsRecoveryRefusal image fault × ((files : Files) → HoldsFiles image files → IsReadCause fault)
IsCopyRefusal image (New fault) = ⊤

-- a refusal of the old volume leaves the new device as it was
abbrev pub LeavesNew : {E : Type 0} → CopyError → E → E → Type 0
LeavesNew (Old fault) old new = new ≡ old
LeavesNew (New fault) old new = ⊤

-- What a call keeps of a device that it makes a volume. Where `blamed` holds, the device failed.
pub record KeepsDevice {D : Type 0} (d : Devices D) (blamed : Type 0) (old new : D) : Type 0 where
  pub honest : d.is_honest old ↔ d.is_honest new
  pub sectors : d.sectors new ≡ d.sectors old
  pub failures : Blames blamed (d.failures old) (d.failures new)

-- A device was read, after a sync. At each moment a crash leaves what was possible before.
pub record IsOpened {D : Type 0} (d : Devices D) (old new : D) : Type 0 where
  pub moments : Through (d.history old) (d.history new) (d.state new) (IsOpening (d.state old))
  pub unwritten : (d.state new ≡ d.state old) ⊎ (d.state new ≡ state_after_sync (d.state old))

-- What a copy from one device to another leaves, if the devices are honest.
module _ {D : Type 0} (d : Devices D) {E : Type 0} (e : Devices E) where
  -- at each moment a crash leaves of the new device what was possible before, no volume, or the same files
  abbrev pub IsSafeWhileCopied : D → E → E → Type 0
  IsSafeWhileCopied old new later = d.is_honest old → e.is_honest new
      → Through (e.history new) (e.history later) (e.state later) (EachImage (IsWhileCopied (d.state old) (e.state new)))

  -- a copy that is done holds the same files, whatever a crash leaves of it
  abbrev pub DoneOnlyIfCopied : D → E → Result VolumeCopy CopyError → E → Type 0
  DoneOnlyIfCopied old new copy later = d.is_honest old → e.is_honest new → copy ≡ Ok Done
      → IsCopied (d.state old) (e.state later)

module _ {E : Type 0} (e : Devices E) where
  -- the new device is no volume if the copy was abandoned
  abbrev pub LeavesNoneIfAbandoned : E → Result VolumeCopy CopyError → E → Type 0
  LeavesNoneIfAbandoned new copy later = e.is_honest new → IsAbandoned copy → EachImage IsNoVolume (e.state later)

  -- a copy that differs is a volume, except for its root
  abbrev pub DifferentOnlyIfHidden : E → Result VolumeCopy CopyError → E → Type 0
  DifferentOnlyIfHidden new copy later = e.is_honest new → copy ≡ Ok Different → IsVolume (inverted_state (e.state later))
