use Rattle.std.proofs.Common.{◌≡◌, Ok, Err, sym, ap, ◌∙◌}
use Rattle.pages.specs.declared.error.PagesError.TheVariants as pages
use Rattle.records.specs.declared.fault.StoreFault.TheVariants.{Damaged}
use Rattle.volume_format.proofs.Faults.{damaged_back}
use Rattle.alternate_keys.proofs.Passing.{none_or_some}
use Rattle.std.proofs.Common.{refl}
use Rattle.alternate_keys.proofs.Passing.{never_ok, same_error, spent_back, change_is_read, damaged_not_device}
use Rattle.alternate_keys.proofs.Passing.{damaged_not_spent}
use Rattle.volume_format.proofs.Faults.{device_back}
use Rattle.alternate_keys.proofs.Calling.{edits_blamed}
use Rattle.alternate_keys.proofs.leave.remove_row.Goals as goal

pub returns-in-Ok-true-clause-removed : goal.returns-in-Ok-true-clause-removed
returns-in-Ok-true-clause-removed g c = λ honest agrees left right entries stands.
    (c.in-Ok-true.ensures.removed honest agrees left right entries stands (ap Ok c.in-Ok-true.field-0-test)).1

pub returns-in-Ok-true-clause-few : goal.returns-in-Ok-true-clause-few
returns-in-Ok-true-clause-few g c = λ honest agrees left right entries stands.
    c.in-Ok-true.ensures.changed_pages honest agrees left right entries stands

pub returns-in-Ok-false-clause-damaged : goal.returns-in-Ok-false-clause-damaged
returns-in-Ok-false-clause-damaged g c = λ honest agrees left right entries stands some is.
    none_or_some (c.in-Ok-false.ensures.missing honest agrees left right entries stands
    (ap Ok c.in-Ok-false.field-0-test)) some

pub returns-in-Err-clause-damaged : goal.returns-in-Err-clause-damaged
returns-in-Err-clause-damaged g c = λ honest agrees left right entries stands some is.
    let told : c.to_fault.result ≡ Damaged = cc in
    let fault : c.in-Err.error ≡ pages.Damaged = damaged_back c.in-Err.error (sym c.to_fault.ensures ∙ told) in
    c.in-Err.ensures.damaged honest agrees left right entries stands (ap Err fault)

pub returns-in-Ok-true-clause-edits : goal.returns-in-Ok-true-clause-edits
returns-in-Ok-true-clause-edits g c =
    edits_blamed g.D.Device _ _ _ _ _ _ (λ is. never_ok is) c.in-Ok-true.ensures.edits

pub returns-in-Ok-true-clause-damaged : goal.returns-in-Ok-true-clause-damaged
returns-in-Ok-true-clause-damaged g c =
    λ honest agrees left right entries stands some is. never_ok is

pub returns-in-Ok-true-clause-spent : goal.returns-in-Ok-true-clause-spent
returns-in-Ok-true-clause-spent g c =
    λ is. never_ok is

pub returns-in-Ok-false-clause-edits : goal.returns-in-Ok-false-clause-edits
returns-in-Ok-false-clause-edits g c =
    edits_blamed g.D.Device _ _ _ _ _ _ (λ is. damaged_not_device is) c.in-Ok-false.ensures.edits

pub returns-in-Ok-false-clause-spent : goal.returns-in-Ok-false-clause-spent
returns-in-Ok-false-clause-spent g c =
    λ is. damaged_not_spent Damaged refl is

pub returns-in-Err-clause-edits : goal.returns-in-Err-clause-edits
returns-in-Err-clause-edits g c =
    edits_blamed g.D.Device _ _ _ _ _ _
    (λ is. ap Err (device_back c.in-Err.error (sym c.to_fault.ensures ∙ same_error is)))
    c.in-Err.ensures.edits

pub returns-in-Err-clause-cause : goal.returns-in-Err-clause-cause
returns-in-Err-clause-cause g c =
    change_is_read c.in-Err.error c.to_fault.result c.in-Err.ensures.cause c.to_fault.ensures

pub returns-in-Err-clause-spent : goal.returns-in-Err-clause-spent
returns-in-Err-clause-spent g c =
    λ is. c.in-Err.ensures.spent (ap Err (spent_back c.in-Err.error (sym c.to_fault.ensures ∙ same_error is)))
