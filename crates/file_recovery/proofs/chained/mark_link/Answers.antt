use Rattle.std.proofs.Common.{◌≡◌, true, false, Err, sym, ap, subst, ◌∙◌}
use Rattle.file_recovery.specs.Faults.{IsReadFault}
use Rattle.volume_format.proofs.Faults.{damaged_back, device_back}
use Rattle.volume_format.proofs.Looks.{looks_blamed, looks_nowhere, looks_past}
use Rattle.btree.proofs.Passing.{same_error, never_ok}
use Rattle.file_recovery.proofs.Faults.{page_fault, damaged_not_device}
use Rattle.file_recovery.proofs.chained.mark_link.Goals as goal

pub returns-then-not-mark-clause-damaged : goal.returns-then-not-mark-clause-damaged
returns-then-not-mark-clause-damaged g c = λ honest agrees told some link can.
    c.mark.ensures.refused c.if-not-mark.true can

pub returns-in-Ok-clause-link : goal.returns-in-Ok-clause-link
returns-in-Ok-clause-link g c = λ honest agrees.
    let read = c.in-Ok.ensures.link honest agrees in
    record {
      some = read.some;
      link = read.link;
      next_is = read.next_is;
      long = read.long;
      marks = c.mark.ensures.marks c.if-not-mark.false;
    }

pub returns-in-Err-clause-damaged : goal.returns-in-Err-clause-damaged
returns-in-Err-clause-damaged g c = λ honest agrees is some link can.
    let fault = damaged_back c.in-Err.error (sym c.to_fault.ensures ∙ same_error is) in
    c.in-Err.ensures.damaged honest agrees (ap Err fault) some link

pub returns-in-Err-clause-cause : goal.returns-in-Err-clause-cause
returns-in-Err-clause-cause g c =
    subst IsReadFault (sym c.to_fault.ensures)
    (page_fault c.in-Err.error c.in-Err.ensures.cause
    (λ is. let spent = c.in-Err.ensures.spent.0 (ap Err is) in let clash : true ≡ false =
    sym spent ∙ c.requires.unspent in cc))

pub returns-then-not-mark-clause-looks : goal.returns-then-not-mark-clause-looks
returns-then-not-mark-clause-looks g c =
    looks_blamed g.D.Device ⊥ _ _ _ _ _ (λ is. damaged_not_device is)
    (looks_nowhere g.D.Device c.args.pages.now c.args.device.now)

pub returns-in-Ok-clause-looks : goal.returns-in-Ok-clause-looks
returns-in-Ok-clause-looks g c =
    looks_blamed g.D.Device _ _ _ _ _ _ (λ is. never_ok is)
    (looks_past g.D.Device _ c.args.pages.now _ _ c.in-Ok.ensures.only)

pub returns-in-Ok-clause-damaged : goal.returns-in-Ok-clause-damaged
returns-in-Ok-clause-damaged g c = λ honest agrees told some link can. never_ok told

pub returns-in-Err-clause-looks : goal.returns-in-Err-clause-looks
returns-in-Err-clause-looks g c =
    looks_blamed g.D.Device _ _ _ _ _ _
    (λ is. ap Err (device_back c.in-Err.error (sym c.to_fault.ensures ∙ same_error is)))
    (looks_past g.D.Device _ c.args.pages.now _ _ c.in-Err.ensures.only)
