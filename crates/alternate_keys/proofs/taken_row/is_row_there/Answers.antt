use Rattle.std.proofs.Common.{◌≡◌, ℕ, List, sym, ap, ◌∙◌}
use Rattle.std.specs.Prelude.{map, is_some, Option}
use Rattle.btree.specs.Calls.{pages_on}
use Rattle.btree.specs.Entries.{Entry, entry_with}
use Rattle.records.specs.declared.key.KeyOfReference.TheVariants.{Prime}
use Rattle.records.specs.Spec.{Spec}
use Rattle.records.specs.Rows.{named_pair}
use Rattle.records.specs.Stores.{spec_of}
use Rattle.volume_format.specs.Trees.{entry_under}
use Rattle.file_bytes.specs.Rows.{prime_key}
use Rattle.alternate_keys.proofs.ThereSeen.{rows_stand, there_seen}
use Rattle.volume_format.specs.Calls.{LooksAt}
use Rattle.volume_format.proofs.Looks.{looks_blamed, looks_nowhere}
use Rattle.std.specs.Prelude.{Err}
use Rattle.alternate_keys.proofs.Passing.{passed, memory_not_device}
use Rattle.records.specs.declared.fault.StoreFault.TheVariants.{Device}
use Rattle.alternate_keys.proofs.Passing.{if_refused}
use Rattle.alternate_keys.proofs.Passing.{memory_never_damaged}
use Rattle.alternate_keys.proofs.Passing.{memory_never_spent}
use Rattle.std.specs.Prelude.{IfErr}
use Rattle.alternate_keys.proofs.Passing.{memory_is_read}
use Rattle.alternate_keys.specs.Faults.{IsReadFault}
use Rattle.alternate_keys.proofs.Passing.{never_ok, search_is_read}
use Rattle.alternate_keys.proofs.Passing.{reads_where, same_error}
use Rattle.volume_format.proofs.Faults.{device_back, damaged_back}
use Rattle.alternate_keys.proofs.taken_row.is_row_there.Goals as goal

pub returns-in-Ok-clause-there : goal.returns-in-Ok-clause-there
returns-in-Ok-clause-there g c = λ honest agrees rows has.
    let spec : Spec = spec_of c.args.file.now in
    let key : c.deref.result.now ≡ prime_key spec.organization
    (named_pair spec.organization c.args.number c.args.bytes.now) = c.deref.ensures.value ∙ c.in_ok-key.ensures.key in
    let own : List Entry = map (entry_under spec Prime) rows in
    c.is_some.ensures
    ∙ ap (λ (e : Option Entry). is_some e)
    (c.in-Ok.ensures.entry honest agrees has.planted.levels (rows_stand has))
    ∙ sym (there_seen (pages_on g.D.Device c.args.pages.now c.args.device.now) has c.deref.result.now)
    ∙ ap (λ (es : List Entry). is_some (entry_with es c.deref.result.now)) has.entries
    ∙ ap (λ (k : List ℕ). is_some (entry_with own k)) key

pub returns-in_err-key-clause-looks : goal.returns-in_err-key-clause-looks
returns-in_err-key-clause-looks g c =
    passed c.from_residual.result c.in_err-key.field-0.0 c.from_residual.ensures.1
    (λ r. LooksAt g.D.Device (r ≡ Err Device) c.args.pages.now c.args.device.now c.args.pages.now c.args.device.now)
    (looks_blamed g.D.Device ⊥ _ _ _ _ _ (λ e. memory_not_device _ c.in_err-key.ensures.memory e)
    (looks_nowhere g.D.Device c.args.pages.now c.args.device.now))

pub returns-in_err-key-clause-there : goal.returns-in_err-key-clause-there
returns-in_err-key-clause-there g c =
    λ honest agrees rows has. if_refused c.from_residual.result c.in_err-key.field-0.0 c.from_residual.ensures.1 _

pub returns-in_err-key-clause-damaged : goal.returns-in_err-key-clause-damaged
returns-in_err-key-clause-damaged g c =
    λ honest agrees rows has is.
    memory_never_damaged c.from_residual.result c.in_err-key.field-0.0 c.from_residual.ensures.1
    c.in_err-key.ensures.memory is

pub returns-in_err-key-clause-spent : goal.returns-in_err-key-clause-spent
returns-in_err-key-clause-spent g c =
    λ is.
    memory_never_spent c.from_residual.result c.in_err-key.field-0.0 c.from_residual.ensures.1
    c.in_err-key.ensures.memory is

pub returns-in_err-key-clause-cause : goal.returns-in_err-key-clause-cause
returns-in_err-key-clause-cause g c =
    passed c.from_residual.result c.in_err-key.field-0.0 c.from_residual.ensures.1
    (λ r. IfErr r IsReadFault) (memory_is_read _ c.in_err-key.ensures.memory)

pub returns-in-Ok-clause-damaged : goal.returns-in-Ok-clause-damaged
returns-in-Ok-clause-damaged g c =
    λ honest agrees rows has is. never_ok is

pub returns-in-Ok-clause-spent : goal.returns-in-Ok-clause-spent
returns-in-Ok-clause-spent g c =
    λ is. never_ok is

pub returns-clause-cause : goal.returns-clause-cause
returns-clause-cause g c =
    search_is_read c.args.prime.now.layout c.in-Err.error c.to_fault.result c.in-Err.ensures.cause c.to_fault.ensures

pub returns-in-Ok-clause-looks : goal.returns-in-Ok-clause-looks
returns-in-Ok-clause-looks g c =
    record {
      only = reads_where g.D.Device _ _ _ _ (λ is. never_ok is) c.in-Ok.ensures.only;
      unchanged = c.in-Ok.ensures.unchanged;
      agrees = c.in-Ok.ensures.agrees;
    }

pub returns-clause-looks : goal.returns-clause-looks
returns-clause-looks g c =
    record {
      only = reads_where g.D.Device _ _ _ _
          (λ is. ap Err (device_back c.in-Err.error (sym c.to_fault.ensures ∙ same_error is)))
          c.in-Err.ensures.only;
      unchanged = c.in-Err.ensures.unchanged;
      agrees = c.in-Err.ensures.agrees;
    }

pub returns-clause-damaged : goal.returns-clause-damaged
returns-clause-damaged g c =
    λ honest agrees rows has is. c.in-Err.ensures.damaged honest agrees
    (ap Err (damaged_back c.in-Err.error (sym c.to_fault.ensures ∙ same_error is))) has.planted.levels (rows_stand has)
