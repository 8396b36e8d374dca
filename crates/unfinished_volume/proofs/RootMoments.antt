-- What a crash leaves while sector 0 is written.
use Rattle.std.proofs.Common.{◌≡◌, ◌<◌, List, [], length, set, ◌∙◌, sym, ap, subst, inl, inr, ⊎_elim, arith, true}
use Rattle.std.proofs.Common.{get_or-set_same, replicate}
use Rattle.station.specs.Disk.{Disk, Sector, idle_disk, sector_at, IsSettled, IsCrashImage}
use Rattle.station.specs.State.{State, state_after_sync}
use Rattle.station.specs.Blocks.{CrashLeaves, WithOrWithout}
use Rattle.station.specs.History.{Through}
use Rattle.station.specs.Opening.{IsOpening}
use Rattle.station.proofs.Spans.{goes, weakens}
use Rattle.unfinished_volume.specs.Inverted.{inverted_sector}
use Rattle.unfinished_volume.specs.Hidden.{hides_root, HidesRoot}
use Rattle.unfinished_volume.specs.Moments.{PossibleOr, PossibleOrHidden}

-- before the write
possible_yet : (old : State) (sectors : List Sector) (state : State) → IsOpening old state
    → CrashLeaves old.events (PossibleOr old.disk sectors) state
possible_yet old sectors state opening =
    record { events = opening.events; images = λ image crash. inl (opening.images image crash) }

-- from the write on
possible_then : (old mid : State) (bytes : Sector) → mid ≡ state_after_sync old
    → IsCrashImage old.disk old.disk.present → (state : State)
    → CrashLeaves mid.events (WithOrWithout mid.disk.present 0 bytes) state
    → CrashLeaves old.events (PossibleOr old.disk (set old.disk.present 0 bytes)) state
possible_then old mid bytes synced possible state leaves =
    let same : mid.disk.present ≡ old.disk.present = ap (λ (s : State). s.disk.present) synced in record {
      events = leaves.events ∙ ap (λ (s : State). s.events) synced;
      images = λ image crash. ⊎_elim
          (λ base. inl (subst (IsCrashImage old.disk) (sym (base ∙ same)) possible))
          (λ new. inr (new ∙ ap (λ (l : List Sector). set l 0 bytes) same)) (leaves.images image crash);
    }

-- a sync, and the write after it
pub root_moments : (before between after : List State) (old mid new : State) (bytes : Sector)
    → mid ≡ state_after_sync old → IsCrashImage old.disk old.disk.present → Through before between mid (IsOpening old)
    → Through between after new (CrashLeaves mid.events (WithOrWithout mid.disk.present 0 bytes))
    → Through before after new (CrashLeaves old.events (PossibleOr old.disk (set old.disk.present 0 bytes)))
root_moments before between after old mid new bytes synced possible first second =
    let sectors = set old.disk.present 0 bytes in
    goes before between after mid new (CrashLeaves old.events (PossibleOr old.disk sectors))
    (weakens before between mid (IsOpening old) _ (possible_yet old sectors) first)
    (weakens between after new _ _ (possible_then old mid bytes synced possible) second)

pub settled_after : (old mid : State) → mid ≡ state_after_sync old → IsSettled mid.disk
settled_after old mid synced = ap (λ (s : State). s.disk) synced
    ∙ sym (ap (λ (s : State). idle_disk s.disk.present) synced)

-- zeros with an inverted first byte
pub zeros_hidden : (bytes : Sector) → bytes ≡ inverted_sector (replicate 4096 0) → hides_root bytes ≡ true
zeros_hidden bytes is = ap hides_root is

pub hidden_written : (old : State) (bytes : Sector) → 0 < length old.disk.present → hides_root bytes ≡ true
    → (state : State) → CrashLeaves old.events (PossibleOr old.disk (set old.disk.present 0 bytes)) state
    → CrashLeaves old.events (PossibleOrHidden old.disk) state
hidden_written old bytes some hides state leaves = record {
  events = leaves.events;
  images = λ image crash. ⊎_elim (λ possible. inl possible)
      (λ new. inr (subst (λ (b : Sector). hides_root b ≡ true)
      (sym (ap (λ (l : List Sector). sector_at l 0) new ∙ get_or-set_same old.disk.present 0 bytes [] some)) hides))
      (leaves.images image crash);
}

pub hidden_disk : (present : List Sector) (bytes : Sector) (disk : Disk) → 0 < length present
    → hides_root bytes ≡ true → disk ≡ idle_disk (set present 0 bytes) → HidesRoot disk
hidden_disk present bytes disk some hides is = subst HidesRoot (sym is) (
  subst (λ (b : Sector). hides_root b ≡ true) (sym (get_or-set_same present 0 bytes [] some)) hides,
  λ b has. absurd (omega (arith, has.1)),
)
