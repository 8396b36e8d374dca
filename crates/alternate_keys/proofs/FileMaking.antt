-- What the making of a file in the pages comes to, on each way out of the call.
use Rattle.std.proofs.Common.{◌≡◌, true, false, [], subst, ◌∙◌}
use Rattle.std.specs.Prelude.{Result, Ok, Err, IfErr}
use Rattle.std.specs.Result.{IsErrAnd}
use Rattle.station.specs.declared.device.Device.{Ghosts as Devices}
use Rattle.pages.specs.Pages.{map_now, is_spent, mark_of, committed_of, changed_pages_of, next_generation, IsFull}
use Rattle.pages.specs.declared.page_map.PageMap.{PageMap}
use Rattle.records.specs.declared.fault.StoreFault.{StoreFault}
use Rattle.records.specs.declared.fault.StoreFault.TheVariants.{Device, Full, Damaged, Spent}
use Rattle.records.specs.declared.file_spec.FileSpec.{FileSpec}
use Rattle.records.specs.Spec.{is_long}
use Rattle.records.specs.Stores.{spec_of}
use Rattle.volume_format.specs.Volume.{MapHolds}
use Rattle.volume_format.proofs.Looks.{reads_blamed}
use Rattle.alternate_keys.specs.Created.{OnFiles, Prepares, PreparesFile, with_empty}
use Rattle.alternate_keys.specs.Faults.{IsReadFault, IsWriteFault}
use Rattle.alternate_keys.specs.Stands.{LacksSpace}
use Rattle.alternate_keys.proofs.Faults.{never_full, reads_write}
use Rattle.alternate_keys.proofs.Passing.{passed, never_ok, still_error}

-- after a commit of these pages the volume holds the file without rows, if its mark allows one of this length
abbrev pub WillHold : {D : Type 0} (d : Devices D) → FileSpec → PageMap → D → PageMap → Type 0
WillHold d file old now new = (mark_of old ≡ 0 → is_long (spec_of file) ≡ false) → OnFiles d old now
    (λ files holds. MapHolds (next_generation (map_now new (d.state now).disk.present)) (with_empty file files))

module _ {D : Type 0} (d : Devices D) {old : PageMap} {now : D} {new : PageMap} {now' : D} where
  prepares_blamed : (A B : Type 0) → (B → A) → Prepares d A old now new now' → Prepares d B old now new now'
  prepares_blamed A B from prepares = record {
    only = reads_blamed d A B now now' from prepares.only;
    committed = prepares.committed;
    agrees = prepares.agrees;
  }

module _ {D : Type 0} (d : Devices D) {T : Type 0} {file : FileSpec} {old : PageMap} {now : D} {new : PageMap}
    {now' : D} where
  -- a call was refused
  pub file_refused : {U : Type 0} {call : Result U StoreFault} {given : Result T StoreFault} {e : StoreFault}
      → call ≡ Err e → IsErrAnd given (λ x. x ≡ e) → Prepares d (call ≡ Err Device) old now new now'
      → OnFiles d old now (λ files holds. changed_pages_of old ≡ [] → call ≡ Err Full
      → LacksSpace (committed_of old) true file.name.items (with_empty file files))
      → OnFiles d old now (λ files holds. call ≡ Err Damaged → ⊥) → (call ≡ Err Spent → is_spent old ≡ true)
      → IfErr call IsWriteFault → PreparesFile d file old now new now' given
  file_refused {U} {call} {given} {e} was is prepares room damaged spent cause =
      passed given e is (λ r. PreparesFile d file old now new now' r) (record {
        prepares = prepares_blamed d _ _ (λ err. was ∙ still_error err) prepares;
        will = λ fits honest agrees files holds. tt;
        full = λ honest agrees files holds rested. tt;
        room = λ honest agrees files holds rested err.
            room honest agrees files holds rested (was ∙ still_error err);
        damaged = λ honest agrees files holds err. damaged honest agrees files holds (was ∙ still_error err);
        spent = λ err. spent (was ∙ still_error err);
        cause = subst (λ r. IfErr r IsWriteFault) was cause;
      })

  -- a call that never returns `Full`
  pub file_refused_early : {U : Type 0} {call : Result U StoreFault} {given : Result T StoreFault} {e : StoreFault}
      → call ≡ Err e → IsErrAnd given (λ x. x ≡ e) → Prepares d (call ≡ Err Device) old now new now'
      → OnFiles d old now (λ files holds. call ≡ Err Damaged → ⊥) → (call ≡ Err Spent → is_spent old ≡ true)
      → IfErr call IsReadFault → PreparesFile d file old now new now' given
  file_refused_early {U} {call} was is prepares damaged spent cause =
      file_refused was is prepares
      (λ honest agrees files holds rested err. absurd (never_full call cause err)) damaged spent
      (reads_write call cause)

  -- it is made
  pub file_made : {A : Type 0} {x : T} → Prepares d A old now new now'
      → WillHold d file old now new
      → OnFiles d old now (λ files holds. changed_pages_of old ≡ [] → IsFull new
      → LacksSpace (committed_of old) true file.name.items (with_empty file files))
      → PreparesFile d file old now new now' (Ok x)
  file_made prepares will full = record {
    prepares = prepares_blamed d _ _ (λ err. never_ok err) prepares;
    will = will;
    full = full;
    room = λ honest agrees files holds rested err. never_ok err;
    damaged = λ honest agrees files holds err. never_ok err;
    spent = λ err. never_ok err;
    cause = tt;
  }
