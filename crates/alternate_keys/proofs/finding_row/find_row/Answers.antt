use Rattle.std.proofs.Common.{◌≡◌, List, sym, ap, ◌∙◌}
use Rattle.std.specs.Prelude.{map, Option}
use Rattle.std.specs.Option.{option_map}
use Rattle.btree.specs.Entries.{Entry, entry_with}
use Rattle.records.specs.declared.key.KeyOfReference.TheVariants.{Prime}
use Rattle.records.specs.Rows.{Row, Pair}
use Rattle.records.specs.Spec.{Spec}
use Rattle.records.specs.Stores.{spec_of, pair_of}
use Rattle.volume_format.specs.Trees.{entry_under}
use Rattle.file_bytes.specs.Rows.{prime_key}
use Rattle.alternate_keys.proofs.Numbered.{no_row, asked_pair}
use Rattle.alternate_keys.proofs.RowEdits.{row_found}
use Rattle.volume_format.specs.Calls.{LooksAt}
use Rattle.volume_format.proofs.Looks.{looks_blamed, looks_nowhere}
use Rattle.std.specs.Prelude.{Err}
use Rattle.alternate_keys.proofs.Passing.{passed, memory_not_device}
use Rattle.records.specs.declared.fault.StoreFault.TheVariants.{Device}
use Rattle.alternate_keys.proofs.Passing.{if_refused}
use Rattle.alternate_keys.proofs.Passing.{memory_never_damaged}
use Rattle.alternate_keys.proofs.Passing.{memory_never_spent}
use Rattle.std.specs.Prelude.{IfErr}
use Rattle.alternate_keys.proofs.Passing.{memory_is_read}
use Rattle.alternate_keys.specs.Faults.{IsReadFault}
use Rattle.alternate_keys.proofs.Passing.{never_ok, same_error, spent_back}
use Rattle.volume_format.proofs.Faults.{device_back, damaged_back}
use Rattle.alternate_keys.proofs.finding_row.find_row.Goals as goal

pub returns-then-is_no_number-clause-found : goal.returns-then-is_no_number-clause-found
returns-then-is_no_number-clause-found g c = λ honest agrees rows has.
    let spec : Spec = spec_of c.args.file.now in
    sym (ap (λ (r : Option Row). option_map (entry_under spec Prime) r)
    (no_row spec c.args.number c.args.value.now rows (sym c.is_no_number.ensures ∙ c.if-is_no_number.true) has.fits))

pub returns-in-Ok-clause-found : goal.returns-in-Ok-clause-found
returns-in-Ok-clause-found g c = λ honest agrees rows has.
    let spec : Spec = spec_of c.args.file.now in
    let pair : Pair = pair_of spec.organization c.args.value.now c.args.number in
    let good = asked_pair spec c.args.number c.args.value.now c.requires.value c.ranges.number.fits
    (sym c.is_no_number.ensures ∙ c.if-is_no_number.false) in
    let key : c.deref.result.now ≡ prime_key spec.organization pair = c.deref.ensures.value ∙ c.in_ok-key.ensures.key in
    let own : List Entry = map (entry_under spec Prime) rows in
    c.in-Ok.ensures.row honest agrees has.planted has.stands
    ∙ ap (λ (es : List Entry). entry_with es c.deref.result.now) has.entries ∙ ap (entry_with own) key
    ∙ row_found spec pair good rows has.fits

pub returns-in_err-key-clause-looks : goal.returns-in_err-key-clause-looks
returns-in_err-key-clause-looks g c =
    passed c.from_residual.result c.in_err-key.field-0.0 c.from_residual.ensures.1
    (λ r. LooksAt g.D.Device (r ≡ Err Device) c.args.pages.now c.args.device.now c.args.pages.now c.args.device.now)
    (looks_blamed g.D.Device ⊥ _ _ _ _ _ (λ e. memory_not_device _ c.in_err-key.ensures.memory e)
    (looks_nowhere g.D.Device c.args.pages.now c.args.device.now))

pub returns-in_err-key-clause-found : goal.returns-in_err-key-clause-found
returns-in_err-key-clause-found g c =
    λ honest agrees rows has. if_refused c.from_residual.result c.in_err-key.field-0.0 c.from_residual.ensures.1 _

pub returns-in_err-key-clause-damaged : goal.returns-in_err-key-clause-damaged
returns-in_err-key-clause-damaged g c =
    λ honest agrees rows has is.
    memory_never_damaged c.from_residual.result c.in_err-key.field-0.0 c.from_residual.ensures.1
    c.in_err-key.ensures.memory is

pub returns-in_err-key-clause-lengths : goal.returns-in_err-key-clause-lengths
returns-in_err-key-clause-lengths g c =
    if_refused c.from_residual.result c.in_err-key.field-0.0 c.from_residual.ensures.1 _

pub returns-in_err-key-clause-spent : goal.returns-in_err-key-clause-spent
returns-in_err-key-clause-spent g c =
    λ is.
    memory_never_spent c.from_residual.result c.in_err-key.field-0.0 c.from_residual.ensures.1
    c.in_err-key.ensures.memory is

pub returns-in_err-key-clause-cause : goal.returns-in_err-key-clause-cause
returns-in_err-key-clause-cause g c =
    passed c.from_residual.result c.in_err-key.field-0.0 c.from_residual.ensures.1
    (λ r. IfErr r IsReadFault) (memory_is_read _ c.in_err-key.ensures.memory)

pub returns-then-is_no_number-clause-looks : goal.returns-then-is_no_number-clause-looks
returns-then-is_no_number-clause-looks g c =
    looks_blamed g.D.Device ⊥ _ _ _ _ _ (λ is. never_ok is)
    (looks_nowhere g.D.Device c.args.pages.now c.args.device.now)

pub returns-then-is_no_number-clause-damaged : goal.returns-then-is_no_number-clause-damaged
returns-then-is_no_number-clause-damaged g c =
    λ honest agrees rows has is. never_ok is

pub returns-then-is_no_number-clause-spent : goal.returns-then-is_no_number-clause-spent
returns-then-is_no_number-clause-spent g c =
    λ is. never_ok is

pub returns-in-Ok-clause-looks : goal.returns-in-Ok-clause-looks
returns-in-Ok-clause-looks g c =
    looks_blamed g.D.Device _ _ _ _ _ _ (λ is. never_ok is) c.in-Ok.ensures.looks

pub returns-in-Ok-clause-damaged : goal.returns-in-Ok-clause-damaged
returns-in-Ok-clause-damaged g c =
    λ honest agrees rows has is. never_ok is

pub returns-in-Ok-clause-spent : goal.returns-in-Ok-clause-spent
returns-in-Ok-clause-spent g c =
    λ is. never_ok is

pub returns-clause-looks : goal.returns-clause-looks
returns-clause-looks g c =
    looks_blamed g.D.Device _ _ _ _ _ _
    (λ is. ap Err (device_back c.in-Err.error (sym c.to_fault.ensures ∙ same_error is)))
    c.in-Err.ensures.looks

pub returns-clause-damaged : goal.returns-clause-damaged
returns-clause-damaged g c =
    λ honest agrees rows has is. c.in-Err.ensures.damaged honest agrees has.planted
    has.stands (ap Err (damaged_back c.in-Err.error (sym c.to_fault.ensures ∙ same_error is)))

pub returns-clause-spent : goal.returns-clause-spent
returns-clause-spent g c =
    λ is. c.in-Err.ensures.spent (ap Err (spent_back c.in-Err.error (sym c.to_fault.ensures ∙ same_error is)))
