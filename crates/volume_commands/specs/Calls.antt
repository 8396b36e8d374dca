-- What a command that reads a volume keeps, and what its refusal says of the volume.
use Rattle.std.specs.Prelude.{◌≡◌, ◌≢◌, ◌⊎◌, List, Result, Err, IfErr, OnOk, ⊤}
use Rattle.station.specs.Calls.{OnlyWrites}
use Rattle.station.specs.Disk.{Sector}
use Rattle.station.specs.History.{Through}
use Rattle.station.specs.Opening.{IsOpening}
use Rattle.station.specs.State.{state_after_sync}
use Rattle.station.specs.declared.device.Device.{Ghosts as Devices}
use Rattle.records.specs.Files.{Files}
use Rattle.file_recovery.specs.Recovered.{HoldsFiles, HoldsNone}
use Rattle.volume_commands.specs.declared.volume_error.VolumeError.{VolumeError}
use Rattle.volume_commands.specs.declared.volume_error.VolumeError.TheVariants.{Device, Output, Damaged, Memory}

-- `Damaged` says that the image holds no files; the device, the output and memory say nothing of it.
abbrev pub IsVolumeRefusal : List Sector → VolumeError → Type 0
IsVolumeRefusal image Device = ⊤
IsVolumeRefusal image Output = ⊤
IsVolumeRefusal image Damaged = HoldsNone image
IsVolumeRefusal image Memory = ⊤

module _ {D : Type 0} (d : Devices D) where
  pub record ReadsVolume {T : Type 0} (result : Result T VolumeError) (old new : D) : Type 0 where
    pub only : OnlyWrites d (result ≡ Err Device) old new
    -- at each moment a crash leaves what was possible before
    pub moments : d.is_honest old
        → Through (d.history old) (d.history new) (d.state new) (IsOpening (d.state old))
    -- nothing is written but what a sync makes durable
    pub state : d.is_honest old → OnOk result (d.state new ≡ state_after_sync (d.state old))
    pub unwritten : d.is_honest old
        → (d.state new ≡ d.state old) ⊎ (d.state new ≡ state_after_sync (d.state old))
    pub refused : d.is_honest old → IfErr result (IsVolumeRefusal (d.state old).disk.present)
    pub opens : d.is_honest old → (files : Files) → HoldsFiles (d.state old).disk.present files
        → result ≢ Err Damaged
