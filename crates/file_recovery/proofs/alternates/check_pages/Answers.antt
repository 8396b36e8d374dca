use Rattle.std.proofs.Common.{◌≡◌, true, false, Err, sym, ap, subst, ◌∙◌}
use Rattle.btree.proofs.Passing.{same_error, never_ok, reads_where}
use Rattle.file_recovery.specs.Faults.{IsReadFault}
use Rattle.volume_format.proofs.Faults.{damaged_back, device_back}
use Rattle.file_recovery.proofs.Faults.{change_fault}
use Rattle.file_recovery.proofs.alternates.check_pages.Goals as goal

pub returns-in-Err-clause-damaged : goal.returns-in-Err-clause-damaged
returns-in-Err-clause-damaged g c = λ honest agrees is levels holds unmarked.
    let fault = damaged_back c.in-Err.error (sym c.to_fault.ensures ∙ same_error is) in
    c.in-Err.ensures.damaged honest agrees (ap Err fault) levels holds unmarked

pub returns-in-Err-clause-cause : goal.returns-in-Err-clause-cause
returns-in-Err-clause-cause g c =
    subst IsReadFault (sym c.to_fault.ensures)
    (change_fault c.in-Err.error c.in-Err.ensures.cause
    (λ is. let spent = (c.in-Err.ensures.spent.0 (ap Err is)).0 in let clash : true ≡ false =
    sym spent ∙ c.requires.unspent in cc))

pub returns-in-Ok-clause-looks : goal.returns-in-Ok-clause-looks
returns-in-Ok-clause-looks g c = record {
  only = reads_where g.D.Device _ _ _ _ (λ is. never_ok is) c.in-Ok.ensures.only;
  unchanged = c.in-Ok.ensures.unchanged;
  agrees = c.in-Ok.ensures.agrees;
}

pub returns-in-Ok-clause-damaged : goal.returns-in-Ok-clause-damaged
returns-in-Ok-clause-damaged g c = λ honest agrees is levels holds unmarked. never_ok is

pub returns-in-Err-clause-looks : goal.returns-in-Err-clause-looks
returns-in-Err-clause-looks g c = record {
  only = reads_where g.D.Device _ _ _ _
      (λ is. ap Err (device_back c.in-Err.error (sym c.to_fault.ensures ∙ same_error is))) c.in-Err.ensures.only;
  unchanged = c.in-Err.ensures.unchanged;
  agrees = c.in-Err.ensures.agrees;
}
