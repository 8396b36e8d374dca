-- What a first sync may leave.
use Rattle.std.proofs.Common.{◌≡◌, List, refl, sym, subst}
use Rattle.std.specs.Prelude.{Result, OnOk, OnErr}
use Rattle.station.specs.Disk.{IsCrashImage}
use Rattle.station.specs.State.{State, state_after_sync}
use Rattle.station.specs.History.{Moves, Through}
use Rattle.station.specs.Opening.{IsOpening}
use Rattle.station.proofs.Spans.{either, moved}
use Rattle.station.proofs.Crash.{settled_image}

pub unsynced : (old : State) → IsOpening old old
unsynced old = record { events = refl; images = λ image crash. crash }

pub once_synced : (old : State) → IsCrashImage old.disk old.disk.present → IsOpening old (state_after_sync old)
once_synced old possible = record {
  events = refl;
  images = λ image crash. subst (IsCrashImage old.disk) (sym (settled_image old.disk.present image crash)) possible;
}

-- a sync, whether it succeeds or not
pub opens : {T E : Type 0} (a b : List State) (old new : State) (r : Result T E)
    → IsCrashImage old.disk old.disk.present → Moves a old b new → OnOk r (new ≡ state_after_sync old)
    → OnErr r (new ≡ old) → Through a b new (IsOpening old)
opens a b old new r possible moves ok err =
    let here : IsOpening old new = either r (IsOpening old new) ok err (λ is.
    subst (IsOpening old) (sym is) (once_synced old possible)) (λ is. subst (IsOpening old) (sym is) (unsynced old)) in
    record { spans = moved a old b new (IsOpening old) moves here; now = here }
