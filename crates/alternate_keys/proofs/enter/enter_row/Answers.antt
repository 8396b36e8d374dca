use Rattle.std.proofs.Common.{◌≡◌, true, false, Ok, Err, sym, ap, ◌∙◌}
use Rattle.pages.specs.declared.error.PagesError.TheVariants as pages
use Rattle.records.specs.declared.fault.StoreFault.TheVariants.{Full, Damaged}
use Rattle.volume_format.proofs.Faults.{full_back, damaged_back}
use Rattle.alternate_keys.proofs.Passing.{never_ok, same_error, spent_back, insert_is_write}
use Rattle.btree.proofs.Passing.{never_err, ok_is}
use Rattle.volume_format.proofs.Faults.{device_back}
use Rattle.alternate_keys.proofs.Calling.{edits_blamed}
use Rattle.alternate_keys.proofs.enter.enter_row.Goals as goal

pub returns-in-Ok-clause-inserted : goal.returns-in-Ok-clause-inserted
returns-in-Ok-clause-inserted g c = λ honest agrees left right entries stands is.
    let came : c.in-Ok.new ≡ true = cc in
    c.in-Ok.ensures.answers.inserted honest agrees left right entries stands (ap Ok came)

pub returns-in-Ok-clause-there : goal.returns-in-Ok-clause-there
returns-in-Ok-clause-there g c = λ honest agrees left right entries stands is.
    let same : c.in-Ok.new ≡ false = cc in
    c.in-Ok.ensures.answers.there honest agrees left right entries stands (ap Ok same)

pub returns-in-Ok-clause-changed_pages : goal.returns-in-Ok-clause-changed_pages
returns-in-Ok-clause-changed_pages g c = λ honest agrees left right entries stands.
    c.in-Ok.ensures.changed_pages honest agrees left right entries stands

pub returns-in-Err-clause-damaged : goal.returns-in-Err-clause-damaged
returns-in-Err-clause-damaged g c = λ honest agrees left right entries stands is.
    let told : c.to_fault.result ≡ Damaged = cc in
    let fault : c.in-Err.error ≡ pages.Damaged = damaged_back c.in-Err.error (sym c.to_fault.ensures ∙ told) in
    c.in-Err.ensures.answers.damaged honest agrees left right entries stands (ap Err fault)

pub returns-in-Err-clause-changed_pages : goal.returns-in-Err-clause-changed_pages
returns-in-Err-clause-changed_pages g c = λ honest agrees left right entries stands.
    c.in-Err.ensures.changed_pages honest agrees left right entries stands

pub returns-in-Err-clause-room : goal.returns-in-Err-clause-room
returns-in-Err-clause-room g c = λ honest agrees left right entries stands is.
    let told : c.to_fault.result ≡ Full = cc in
    let fault : c.in-Err.error ≡ pages.Full = full_back c.in-Err.error (sym c.to_fault.ensures ∙ told) in
    c.in-Err.ensures.room honest agrees left right entries stands (ap Err fault)

pub returns-in-Ok-clause-edits : goal.returns-in-Ok-clause-edits
returns-in-Ok-clause-edits g c =
    edits_blamed g.D.Device _ _ _ _ _ _ (λ is. never_ok is) c.in-Ok.ensures.edits

pub returns-in-Err-clause-edits : goal.returns-in-Err-clause-edits
returns-in-Err-clause-edits g c =
    edits_blamed g.D.Device _ _ _ _ _ _
    (λ is. ap Err (device_back c.in-Err.error (sym c.to_fault.ensures ∙ same_error is)))
    c.in-Err.ensures.edits

pub returns-in-Ok-clause-same : goal.returns-in-Ok-clause-same
returns-in-Ok-clause-same g c =
    λ is. (c.in-Ok.ensures.same (ap Ok (ok_is is))).0

pub returns-in-Ok-clause-room : goal.returns-in-Ok-clause-room
returns-in-Ok-clause-room g c =
    λ honest agrees left right entries stands is. never_ok is

pub returns-in-Ok-clause-damaged : goal.returns-in-Ok-clause-damaged
returns-in-Ok-clause-damaged g c =
    λ honest agrees left right entries stands is. never_ok is

pub returns-in-Ok-clause-spent : goal.returns-in-Ok-clause-spent
returns-in-Ok-clause-spent g c =
    λ is. never_ok is

pub returns-in-Err-clause-same : goal.returns-in-Err-clause-same
returns-in-Err-clause-same g c =
    λ is. never_err is

pub returns-in-Err-clause-inserted : goal.returns-in-Err-clause-inserted
returns-in-Err-clause-inserted g c =
    λ honest agrees left right entries stands is. never_err is

pub returns-in-Err-clause-there : goal.returns-in-Err-clause-there
returns-in-Err-clause-there g c =
    λ honest agrees left right entries stands is. never_err is

pub returns-in-Err-clause-spent : goal.returns-in-Err-clause-spent
returns-in-Err-clause-spent g c =
    λ is. c.in-Err.ensures.spent (ap Err (spent_back c.in-Err.error (sym c.to_fault.ensures ∙ same_error is)))

pub returns-in-Err-clause-cause : goal.returns-in-Err-clause-cause
returns-in-Err-clause-cause g c =
    insert_is_write c.in-Err.error c.to_fault.result c.in-Err.ensures.cause c.to_fault.ensures
