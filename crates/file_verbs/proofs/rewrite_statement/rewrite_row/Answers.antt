use Rattle.std.proofs.Common.{false, inl, refl, sym, ◌∙◌, ap}
use Rattle.records.specs.FileStep.{is_success}
use Rattle.records.specs.Steps.{Step, status_after}
use Rattle.file_verbs.proofs.Calling.{never_refused}
use Rattle.file_verbs.proofs.Calling.{still_changes, changes_on, changes_nothing, reads_nothing}
use Rattle.file_verbs.proofs.Calling.{no_answer, refused_by_call}
use Rattle.file_verbs.proofs.Doing.{err_any}
use Rattle.records.specs.declared.status.Status.TheVariants.{OutOfSequence}
use Rattle.file_verbs.proofs.Changed.{changed_held, replaces, other_ends, success_of, no_change_of}
use Rattle.file_verbs.proofs.Changed.{refused_turns, answered_turns}
use Rattle.file_verbs.proofs.Opened.{still_opened}
use Rattle.file_verbs.proofs.Taken.{ended}
use Rattle.file_verbs.proofs.rewrite_statement.rewrite_row.Goals as goal

pub returns-in_err-outcome-clause-turns : goal.returns-in_err-outcome-clause-turns
returns-in_err-outcome-clause-turns g c = λ files stands linked.
    let h = changed_held files c.args.select.now c.args.link.now linked c.requires.may.0 in
    let e = replaces c.args.select.now c.args.link.now files h.0 h.1 c.args.bytes.now c.args.number c.requires.may.1
    c.number_to_change-row_number.result c.has_other_key.result c.number_to_change-row_number.ensures
    c.has_other_key.ensures c.if-has_other_key.false in
    refused_turns c.in_err-outcome.was c.from_residual.ensures.1 (sym (ap (λ (t : Step). t.files) e))
    (c.replace.ensures.turns files h.0 stands h.1)

pub returns-in_err-outcome-clause-full : goal.returns-in_err-outcome-clause-full
returns-in_err-outcome-clause-full g c = λ files stands linked full.
    let h = changed_held files c.args.select.now c.args.link.now linked c.requires.may.0 in
    let e = replaces c.args.select.now c.args.link.now files h.0 h.1 c.args.bytes.now c.args.number c.requires.may.1
    c.number_to_change-row_number.result c.has_other_key.result c.number_to_change-row_number.ensures
    c.has_other_key.ensures c.if-has_other_key.false in
    let told = refused_by_call c.in_err-outcome.was c.from_residual.ensures.1 full in
    ap (λ (t : Step). is_success t.status) e ∙ success_of _ (c.replace.ensures.full files h.0 stands h.1 told)

pub returns-in_err-outcome-clause-changes : goal.returns-in_err-outcome-clause-changes
returns-in_err-outcome-clause-changes g c =
    still_changes c.replace.ensures.changes c.in_err-outcome.was c.from_residual.ensures.1

pub returns-in_err-outcome-clause-step : goal.returns-in_err-outcome-clause-step
returns-in_err-outcome-clause-step g c = λ files stands linked.
    no_answer _ _ c.from_residual.result c.from_residual.ensures.1

pub returns-in_err-outcome-clause-makes_none : goal.returns-in_err-outcome-clause-makes_none
returns-in_err-outcome-clause-makes_none g c =
    λ is. c.replace.ensures.makes_none (refused_by_call c.in_err-outcome.was c.from_residual.ensures.1 is)

pub returns-in_err-outcome-clause-idle : goal.returns-in_err-outcome-clause-idle
returns-in_err-outcome-clause-idle g c = λ honest. no_answer _ _ c.from_residual.result c.from_residual.ensures.1

pub returns-in_err-outcome-clause-rests : goal.returns-in_err-outcome-clause-rests
returns-in_err-outcome-clause-rests g c = err_any c.from_residual.result (inl c.in_err-outcome.ensures.spends.refused)

pub returns-then-has_other_key-clause-changes : goal.returns-then-has_other_key-clause-changes
returns-then-has_other_key-clause-changes g c = changes_nothing OutOfSequence

pub returns-clause-changes : goal.returns-clause-changes
returns-clause-changes g c = changes_on c.replace.ensures.changes c.write_status.result c.in_ok-outcome.was

pub returns-clause-idle : goal.returns-clause-idle
returns-clause-idle g c = λ honest none.
    c.in_ok-outcome.ensures.idle honest (no_change_of _ (ap is_success (sym c.write_status.ensures) ∙ none))

pub returns-then-has_other_key-clause-step : goal.returns-then-has_other_key-clause-step
returns-then-has_other_key-clause-step g c = λ files stands linked.
    let s = c.args.select.now in
    let h = changed_held files s c.args.link.now linked c.requires.may.0 in
    let e = other_ends s c.args.link.now files h.0 h.1 c.args.bytes.now c.args.number c.requires.may.1
    c.has_other_key.result c.has_other_key.ensures c.if-has_other_key.true in
    ended _ _ OutOfSequence _ _ e refl refl refl

pub returns-then-has_other_key-clause-turns : goal.returns-then-has_other_key-clause-turns
returns-then-has_other_key-clause-turns g c = λ files stands linked.
    let s = c.args.select.now in
    let h = changed_held files s c.args.link.now linked c.requires.may.0 in
    let e = other_ends s c.args.link.now files h.0 h.1 c.args.bytes.now c.args.number c.requires.may.1
    c.has_other_key.result c.has_other_key.ensures c.if-has_other_key.true in
    still_opened (reads_nothing OutOfSequence) (g.met.T.Store.held c.args.store.now) OutOfSequence false
    s.file.name.items stands (ap (λ (t : Step). t.files) e)

pub returns-clause-step : goal.returns-clause-step
returns-clause-step g c = λ files stands linked.
    let s = c.args.select.now in
    let h = changed_held files s c.args.link.now linked c.requires.may.0 in
    let e = replaces s c.args.link.now files h.0 h.1 c.args.bytes.now c.args.number c.requires.may.1
    c.number_to_change-row_number.result c.has_other_key.result c.number_to_change-row_number.ensures
    c.has_other_key.ensures c.if-has_other_key.false in
    ended _ _ _ _ _ e (c.write_status.ensures ∙ ap status_after (c.in_ok-outcome.ensures.outcome files h.0 stands h.1))
    refl refl

pub returns-clause-turns : goal.returns-clause-turns
returns-clause-turns g c = λ files stands linked.
    let s = c.args.select.now in
    let h = changed_held files s c.args.link.now linked c.requires.may.0 in
    let e = replaces s c.args.link.now files h.0 h.1 c.args.bytes.now c.args.number c.requires.may.1
    c.number_to_change-row_number.result c.has_other_key.result c.number_to_change-row_number.ensures
    c.has_other_key.ensures c.if-has_other_key.false in
    answered_turns c.write_status.result c.in_ok-outcome.was (sym (ap (λ (t : Step). t.files) e))
    (c.replace.ensures.turns files h.0 stands h.1)

pub returns-then-has_other_key-clause-link : goal.returns-then-has_other_key-clause-link
returns-then-has_other_key-clause-link g c = record {
  key = c.requires.link.key;
  value = c.requires.link.value;
  row_length = c.requires.link.row_length;
  sought_length = c.requires.link.sought_length;
  written_length = c.requires.link.written_length;
  last = c.requires.link.last;
}

pub returns-then-has_other_key-clause-full : goal.returns-then-has_other_key-clause-full
returns-then-has_other_key-clause-full g c = λ files stands linked is. never_refused is

pub returns-then-has_other_key-clause-makes_none : goal.returns-then-has_other_key-clause-makes_none
returns-then-has_other_key-clause-makes_none g c = λ is. never_refused is

pub returns-clause-link : goal.returns-clause-link
returns-clause-link g c = record {
  key = c.requires.link.key;
  value = c.requires.link.value;
  row_length = c.requires.link.row_length;
  sought_length = c.requires.link.sought_length;
  written_length = c.requires.link.written_length;
  last = c.requires.link.last;
}

pub returns-clause-full : goal.returns-clause-full
returns-clause-full g c = λ files stands linked is. never_refused is

pub returns-clause-makes_none : goal.returns-clause-makes_none
returns-clause-makes_none g c = λ is. never_refused is

pub returns-in_err-outcome-clause-same : goal.returns-in_err-outcome-clause-same
returns-in_err-outcome-clause-same g c = err_any c.from_residual.result refl
