-- What a synced disk holds, whatever a crash leaves.
use Rattle.std.proofs.Common.{◌≡◌, List, sym, subst}
use Rattle.station.specs.Disk.{Sector, IsCrashImage}
use Rattle.station.specs.State.{State, state_after_sync}
use Rattle.station.specs.History.{EachImage}
use Rattle.station.proofs.Crash.{settled_image}
use Rattle.records.specs.Files.{Files}
use Rattle.file_recovery.specs.Recovered.{HoldsFiles}
use Rattle.volume_copies.specs.Copied.{IsVolume}

pub synced_holds : (P : List Sector → Type 0) (old new : State) → new ≡ state_after_sync old → P old.disk.present
    → EachImage P new
synced_holds P old new synced holds = λ image crash.
    subst P (sym (settled_image old.disk.present image
    (subst (λ (s : State). IsCrashImage s.disk image) synced crash))) holds

pub synced_volume : (files : Files) (old new : State) → new ≡ state_after_sync old → HoldsFiles old.disk.present files
    → IsVolume new
synced_volume files old new synced holds = record {
  files = files;
  durable = synced_holds (λ image. HoldsFiles image files) old new synced holds;
}
