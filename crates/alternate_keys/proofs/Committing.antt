-- A change of a file is refused before anything was written, or is put on the disk.
use Rattle.std.proofs.Common.{◌≡◌, inl, Bool, ℕ, List, refl, sym, subst}
use Rattle.std.specs.Prelude.{Result, Err, OnOk}
use Rattle.std.specs.Result.{IsErrAnd}
use Rattle.station.specs.Blocks.{CrashLeaves}
use Rattle.station.specs.Calls.{OnlyReads}
use Rattle.station.specs.History.{Through}
use Rattle.station.specs.State.{State}
use Rattle.station.specs.declared.device.Device.{Ghosts as Devices}
use Rattle.station.proofs.Spans.{stays}
use Rattle.pages.specs.Image.{Map, Volume, map_of}
use Rattle.pages.specs.Pages.{map_now, committed_of, next_generation, Agrees, IsFull, SameCommitted}
use Rattle.pages.specs.declared.page_map.PageMap.{PageMap}
use Rattle.records.specs.declared.fault.StoreFault.{StoreFault}
use Rattle.records.specs.declared.fault.StoreFault.TheVariants.{Full, Damaged, Old}
use Rattle.records.specs.Files.{Files}
use Rattle.records.specs.Stores.{Either}
use Rattle.volume_format.specs.Volume.{MapHolds, Holds}
use Rattle.alternate_keys.specs.Held.{held_law}
use Rattle.alternate_keys.specs.Settles.{IsChanged, CommitsFiles}
use Rattle.alternate_keys.specs.Stands.{Represents, LacksSpace, LacksMark}
use Rattle.alternate_keys.specs.Turned.{HasChangedFiles}
use Rattle.alternate_keys.proofs.Passing.{passed}
use Rattle.alternate_keys.proofs.Still.{same_volume, lacks_room}

module _ {D : Type 0} (d : Devices D) (A : Type 0) (before between : PageMap) (device now : D)
    (honest : d.is_honest device) (only : OnlyReads d A device now) (files after : Files)
    (stands : Represents before (d.state device).disk files) where
  -- pages that wait for a commit: what is committed has the files before, and the next generation those after
  pub changed_from : SameCommitted before between → Agrees between (d.state now).disk
      → MapHolds (next_generation (map_now between (d.state device).disk.present)) after
      → IsChanged d between now files after
  changed_from same agrees will =
      let still = only.state honest in
      record {
        honest = only.honest.0 honest;
        agrees = agrees;
        was = subst (λ (s : State). MapHolds (map_of s.disk.present (committed_of between)) files) (sym still)
            (subst (λ (v : Volume). MapHolds (map_of (d.state device).disk.present v) files)
            (sym (same_volume before between same)) (subst (λ (m : Map). MapHolds m files) stands.still stands.holds));
        will = subst (λ (s : State). MapHolds (next_generation (map_now between s.disk.present)) after) (sym still)
            will;
      }

  module _ {T : Type 0} (result : Result T StoreFault) (is_new : Bool) (name : List ℕ) where
    pub refused_turned : (fault : StoreFault) → IsErrAnd result (λ x. x ≡ fault) → (result ≡ Err Damaged → ⊥)
        → (result ≡ Err Full → LacksSpace (committed_of before) is_new name after)
        → (result ≡ Err Old → LacksMark (d.state device).disk.present is_new name after)
        → HasChangedFiles d result is_new name files after before device between now
    refused_turned fault from sound room marked =
        let old = d.state device in
        let leaves : State → Type 0 = CrashLeaves old.events (Either Holds files after) in
        record {
          stands = passed result fault from (λ r. OnOk r (Represents between (d.state now).disk after)) tt;
          moments = subst (λ (h : List State). Through (d.history device) h (d.state now) leaves)
              (sym (only.history honest)) (subst (λ (s : State). Through (d.history device) (d.history device) s leaves)
              (sym (only.state honest)) (stays (d.history device) old leaves (record {
                events = refl;
                images = λ image crash. inl (held_law before old.disk image files stands crash);
              })));
          sound = sound;
          room = λ is. lacks_room before old.disk is_new name after stands.agrees (room is);
          mark = marked;
        }

    pub put_turned : (last : PageMap) (end : D) → CommitsFiles d result files after between now last end
        → (IsFull between → LacksSpace (committed_of before) is_new name after) → (result ≡ Err Old → ⊥)
        → HasChangedFiles d result is_new name files after before device last end
    put_turned last end settles room marked =
        let through = subst (λ (h : List State). Through h (d.history end) (d.state end)
        (CrashLeaves (d.state now).events (Either Holds files after))) (only.history honest) settles.moments in
        record {
          stands = settles.stands;
          moments = subst (λ (s : State). Through (d.history device) (d.history end) (d.state end)
              (CrashLeaves s.events (Either Holds files after))) (only.state honest) through;
          sound = settles.sound;
          room = λ is. lacks_room before (d.state device).disk is_new name after stands.agrees (room (settles.full is));
          mark = λ is. absurd (marked is);
        }
