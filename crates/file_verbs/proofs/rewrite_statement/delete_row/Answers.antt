use Rattle.std.proofs.Common.{inl, refl, sym, ◌∙◌, ap, length}
use Rattle.records.specs.declared.key.KeyOfReference.TheVariants.{Prime}
use Rattle.records.specs.FileStep.{is_success}
use Rattle.records.specs.Rows.{part, place_of}
use Rattle.records.specs.Steps.{Step, status_after}
use Rattle.records.specs.Stores.{spec_of}
use Rattle.records.specs.Tests.{is_sequential}
use Rattle.file_verbs.proofs.Calling.{never_refused}
use Rattle.file_verbs.proofs.Changed.{long_either}
use Rattle.file_verbs.proofs.Calling.{still_changes, changes_on, no_answer, refused_by_call}
use Rattle.file_verbs.proofs.Doing.{err_any}
use Rattle.file_verbs.proofs.Changed.{changed_held, removes, success_of, no_change_of, refused_turns, answered_turns}
use Rattle.file_verbs.proofs.Taken.{ended}
use Rattle.file_verbs.proofs.rewrite_statement.delete_row.Goals as goal

pub returns-in_err-outcome-clause-turns : goal.returns-in_err-outcome-clause-turns
returns-in_err-outcome-clause-turns g c = λ files stands linked.
    let s = c.args.select.now in
    let h = changed_held files s c.args.link.now linked c.requires.may.0 in
    let e = removes s c.args.link.now files h.0 h.1 c.args.bytes.now c.args.number c.requires.may.1 _ _
    (c.key_value-key.ensures ∙ ap (part (place_of (spec_of s.file) Prime)) c.record_to_change-named.ensures)
    c.number_to_change-row_number.ensures in
    refused_turns c.in_err-outcome.was c.from_residual.ensures.1 (sym (ap (λ (t : Step). t.files) e))
    (c.remove.ensures.turns files h.0 stands h.1)

pub returns-clause-step : goal.returns-clause-step
returns-clause-step g c = λ files stands linked.
    let s = c.args.select.now in
    let h = changed_held files s c.args.link.now linked c.requires.may.0 in
    let e = removes s c.args.link.now files h.0 h.1 c.args.bytes.now c.args.number c.requires.may.1 _ _
    (c.key_value-key.ensures ∙ ap (part (place_of (spec_of s.file) Prime)) c.record_to_change-named.ensures)
    c.number_to_change-row_number.ensures in
    ended _ _ _ _ _ e (c.write_status.ensures ∙ ap status_after (c.in_ok-outcome.ensures.outcome files h.0 stands h.1))
    refl refl

pub returns-clause-turns : goal.returns-clause-turns
returns-clause-turns g c = λ files stands linked.
    let s = c.args.select.now in
    let h = changed_held files s c.args.link.now linked c.requires.may.0 in
    let e = removes s c.args.link.now files h.0 h.1 c.args.bytes.now c.args.number c.requires.may.1 _ _
    (c.key_value-key.ensures ∙ ap (part (place_of (spec_of s.file) Prime)) c.record_to_change-named.ensures)
    c.number_to_change-row_number.ensures in
    answered_turns c.write_status.result c.in_ok-outcome.was (sym (ap (λ (t : Step). t.files) e))
    (c.remove.ensures.turns files h.0 stands h.1)

pub returns-in_err-outcome-clause-full : goal.returns-in_err-outcome-clause-full
returns-in_err-outcome-clause-full g c = λ files stands linked full.
    let s = c.args.select.now in
    let h = changed_held files s c.args.link.now linked c.requires.may.0 in
    let e = removes s c.args.link.now files h.0 h.1 c.args.bytes.now c.args.number c.requires.may.1 _ _
    (c.key_value-key.ensures ∙ ap (part (place_of (spec_of s.file) Prime)) c.record_to_change-named.ensures)
    c.number_to_change-row_number.ensures in
    let told = refused_by_call c.in_err-outcome.was c.from_residual.ensures.1 full in
    ap (λ (t : Step). is_success t.status) e ∙ success_of _ (c.remove.ensures.full files h.0 stands h.1 told)

pub returns-in_err-outcome-clause-changes : goal.returns-in_err-outcome-clause-changes
returns-in_err-outcome-clause-changes g c =
    still_changes c.remove.ensures.changes c.in_err-outcome.was c.from_residual.ensures.1

pub returns-in_err-outcome-clause-step : goal.returns-in_err-outcome-clause-step
returns-in_err-outcome-clause-step g c = λ files stands linked.
    no_answer _ _ c.from_residual.result c.from_residual.ensures.1

pub returns-in_err-outcome-clause-makes_none : goal.returns-in_err-outcome-clause-makes_none
returns-in_err-outcome-clause-makes_none g c =
    λ is. c.remove.ensures.makes_none (refused_by_call c.in_err-outcome.was c.from_residual.ensures.1 is)

pub returns-in_err-outcome-clause-idle : goal.returns-in_err-outcome-clause-idle
returns-in_err-outcome-clause-idle g c = λ honest. no_answer _ _ c.from_residual.result c.from_residual.ensures.1

pub returns-in_err-outcome-clause-rests : goal.returns-in_err-outcome-clause-rests
returns-in_err-outcome-clause-rests g c = err_any c.from_residual.result (inl c.in_err-outcome.ensures.spends.refused)

pub returns-clause-changes : goal.returns-clause-changes
returns-clause-changes g c = changes_on c.remove.ensures.changes c.write_status.result c.in_ok-outcome.was

pub returns-clause-idle : goal.returns-clause-idle
returns-clause-idle g c = λ honest none.
    c.in_ok-outcome.ensures.idle honest (no_change_of _ (ap is_success (sym c.write_status.ensures) ∙ none))

pub returns-clause-link : goal.returns-clause-link
returns-clause-link g c = record {
  key = c.requires.link.key;
  value = c.requires.link.value;
  row_length = c.requires.link.row_length;
  sought_length = c.requires.link.sought_length;
  written_length = c.requires.link.written_length;
  last = c.requires.link.last;
}

pub returns-clause-full : goal.returns-clause-full
returns-clause-full g c = λ files stands linked is. never_refused is

pub returns-clause-makes_none : goal.returns-clause-makes_none
returns-clause-makes_none g c = λ is. never_refused is

pub returns-in_err-outcome-clause-same : goal.returns-in_err-outcome-clause-same
returns-in_err-outcome-clause-same g c = err_any c.from_residual.result refl

pub key_value-key-requires-clause-whole : goal.key_value-key-requires-clause-whole
key_value-key-requires-clause-whole g c = ap length c.record_to_change-named.ensures
    ∙ long_either (is_sequential c.args.select.now.access) c.args.link.now.row.items c.args.bytes.now
    c.requires.link.row_length c.requires.bytes
