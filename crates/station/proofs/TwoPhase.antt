-- What a crash leaves while blocks and a root are written.
use Rattle.std.proofs.Common.{◌≡◌, ◌⊎◌, inl, inr, ⊎_elim, ℕ, List, [], ◌∷◌, length, map, set, refl, sym, ◌∙◌, ap, subst}
use Rattle.std.proofs.Common.{arith, get_or-set_other, length-set}
use Rattle.std.specs.Prelude.{Contains, Result, Ok, Err, OnOk}
use Rattle.std.proofs.lemmas.Bool.{cases_eq}
use Rattle.std.proofs.lemmas.List.Elements.{Contains-append_right}
use Rattle.station.specs.Disk.{Disk, Sector, idle_disk, IsSettled, sector_at, IsCrashImage, OnlyWrote}
use Rattle.station.specs.State.{State, Event, MayHaveWritten}
use Rattle.station.proofs.Crash.{settled_wrote, write_only, write_events, image_count, image_each, one_image}
use Rattle.station.proofs.Crash.{settled_image, IsWriteOf}
use Rattle.station.specs.declared.blocks.Block.{Block}
use Rattle.station.specs.Blocks.{IsAt, IsWriting, SameOutside, WithOrWithout, OldOrNew, Old, New, CrashLeaves, with_all}
use Rattle.station.specs.Blocks.{wrote_all}

-- while they are written
pub same_outside : (seen : List Event) (base : List Sector) (blocks : List Block) (s : State)
    → IsWriting seen base blocks s → CrashLeaves seen (SameOutside base blocks) s
same_outside seen base blocks s writing = record {
  events = writing.events;
  images = λ image crash. record {
    count = image_count base (IsAt blocks) s.disk image writing.only crash;
    each = image_each base (IsAt blocks) s.disk image writing.only crash;
  };
}

pub with_all_count : (base : List Sector) (blocks : List Block) → length (with_all base blocks) ≡ length base
with_all_count base [] = refl
with_all_count base (b ∷ blocks) = with_all_count (set base b.sector b.bytes) blocks ∙ length-set base b.sector b.bytes

with_all_each : (base : List Sector) (blocks : List Block) (i : ℕ)
    → (sector_at (with_all base blocks) i ≡ sector_at base i) ⊎ Contains (map (λ (b : Block). b.sector) blocks) i
with_all_each base [] i = inl refl
with_all_each base (b ∷ blocks) i = ⊎_elim
    (λ same. ⊎_elim
    (λ at. inr (subst (Contains (map (λ (b : Block). b.sector) (b ∷ blocks))) (sym at) (0, omega arith, refl)))
    (λ other. inl (same ∙ get_or-set_other base b.sector i b.bytes [] other)) (cases_eq i b.sector))
    (λ has. inr (Contains-append_right (b.sector ∷ []) (map (λ (b : Block). b.sector) blocks) i has))
    (with_all_each (set base b.sector b.bytes) blocks i)

pub all_same_outside : (base : List Sector) (blocks : List Block) → SameOutside base blocks (with_all base blocks)
all_same_outside base blocks = record { count = with_all_count base blocks; each = λ i lt. with_all_each base blocks i }

-- once they are durable
pub synced_same_outside : (seen : List Event) (base : List Sector) (blocks : List Block) (s : State) → s.events ≡ seen
    → s.disk ≡ idle_disk (with_all base blocks) → CrashLeaves seen (SameOutside base blocks) s
synced_same_outside seen base blocks s events disk = record {
  events = events;
  images = λ image crash. subst (SameOutside base blocks)
      (sym (settled_image (with_all base blocks) image (subst (λ (d : Disk). IsCrashImage d image) disk crash)))
      (all_same_outside base blocks);
}

-- while the root is written
pub early : (seen : List Event) (base : List Sector) (blocks : List Block) (root : ℕ) (bytes : Sector) (s : State)
    → CrashLeaves seen (SameOutside base blocks) s → CrashLeaves seen (OldOrNew base blocks root bytes) s
early seen base blocks root bytes s amid =
    record { events = amid.events; images = λ image crash. Old (amid.images image crash) }

pub late : (seen now : List Event) (base staged : List Sector) (blocks : List Block) (root : ℕ) (bytes : Sector)
    → now ≡ seen → staged ≡ with_all base blocks → (s : State)
    → CrashLeaves now (WithOrWithout staged root bytes) s → CrashLeaves seen (OldOrNew base blocks root bytes) s
late seen now base staged blocks root bytes same all s amid = record {
  events = amid.events ∙ same;
  images = λ image crash.
      ⊎_elim (λ old. Old (subst (SameOutside base blocks) (sym (old ∙ all)) (all_same_outside base blocks)))
      (λ new. New (new ∙ ap (λ (l : List Sector). set l root bytes) all)) (amid.images image crash);
}

wrote_all_present : (s : State) (blocks : List Block)
    → (wrote_all s blocks).disk.present ≡ with_all s.disk.present blocks
wrote_all_present s [] = refl
wrote_all_present s (b ∷ blocks) = wrote_all_present _ blocks

-- after they were written and synced
pub synced_disk : (s mid new : State) (blocks : List Block) → mid ≡ wrote_all s blocks
    → new.disk ≡ idle_disk mid.disk.present → new.disk ≡ idle_disk (with_all s.disk.present blocks)
synced_disk s mid new blocks wrote synced =
    synced ∙ ap idle_disk (ap (λ (m : State). m.disk.present) wrote ∙ wrote_all_present s blocks)

wrote_all_events : (s : State) (blocks : List Block) → (wrote_all s blocks).events ≡ s.events
wrote_all_events s [] = refl
wrote_all_events s (b ∷ blocks) = wrote_all_events _ blocks

pub wrote_events : (s mid : State) (blocks : List Block) → mid ≡ wrote_all s blocks → mid.events ≡ s.events
wrote_events s mid blocks wrote = ap (λ (m : State). m.events) wrote ∙ wrote_all_events s blocks

-- a write that waits over settled sectors
pub one_waits : (seen : List Event) (base : List Sector) (root : ℕ) (bytes : Sector) (s : State) → s.events ≡ seen
    → OnlyWrote base (IsWriteOf root bytes) s.disk
    → CrashLeaves seen (WithOrWithout base root bytes) s
one_waits seen base root bytes s events only =
    record { events = events; images = λ image crash. one_image base root bytes s.disk image only crash }

pub one_begins : (old : State) (root : ℕ) (bytes : Sector) (new : State) → IsSettled old.disk
    → MayHaveWritten old root bytes new → CrashLeaves old.events (WithOrWithout old.disk.present root bytes) new
one_begins old root bytes new disk may =
    one_waits old.events old.disk.present root bytes new (write_events old root bytes new may)
    (write_only old.disk.present (IsWriteOf root bytes) old root bytes new (subst (OnlyWrote old.disk.present
    (IsWriteOf root bytes)) (sym disk) (settled_wrote old.disk.present (IsWriteOf root bytes))) (refl, refl) may)

pub one_saved : (seen : List Event) (base : List Sector) (root : ℕ) (bytes : Sector) (s : State) → s.events ≡ seen
    → s.disk ≡ idle_disk (set base root bytes)
    → CrashLeaves seen (WithOrWithout base root bytes) s
one_saved seen base root bytes s events disk = record {
  events = events;
  images = λ image crash.
      inr (settled_image (set base root bytes) image (subst (λ (d : Disk). IsCrashImage d image) disk crash));
}

pub on_ok : {T E A B : Type 0} (r : Result T E) → (A → B) → OnOk r A → OnOk r B
on_ok (Ok x) from here = from here
on_ok (Err e) from here = tt
