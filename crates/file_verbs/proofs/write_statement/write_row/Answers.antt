use Rattle.std.proofs.Common.{false, inl, refl, sym, ap, ◌∙◌}
use Rattle.records.specs.Steps.{Step}
use Rattle.file_verbs.proofs.Calling.{still_changes, changes_on, changes_nothing, reads_nothing}
use Rattle.file_verbs.proofs.Calling.{no_answer, refused_by_call, never_refused}
use Rattle.file_verbs.proofs.Opened.{still_opened}
use Rattle.file_verbs.proofs.Taken.{ended}
use Rattle.file_verbs.proofs.Doing.{err_any}
use Rattle.records.specs.declared.status.Status.TheVariants.{Boundary, OutOfSequence}
use Rattle.records.specs.FileStep.{is_success}
use Rattle.file_verbs.proofs.Changed.{no_change_of, past_ends, out_ends}
use Rattle.file_verbs.proofs.Changed.{written_held, inserted_files, inserted_changes, refused_turns}
use Rattle.file_verbs.proofs.write_statement.write_row.Goals as goal

pub returns-in_err-outcome-clause-turns : goal.returns-in_err-outcome-clause-turns
returns-in_err-outcome-clause-turns g c = λ files stands linked.
    let s = c.args.select.now in
    let l = c.args.link.now in
    let h = written_held files s l linked c.requires.may in
    let same = inserted_files s l files h.0 h.1 c.args.bytes.now c.args.number.now
    c.number_to_write-row_number.result c.is_past_boundary.result c.is_out_of_sequence.result
    c.number_to_write-row_number.ensures c.is_past_boundary.ensures c.if-is_past_boundary.false
    c.is_out_of_sequence.ensures c.if-is_out_of_sequence.false in
    refused_turns c.in_err-outcome.was c.from_residual.ensures.1 same (c.insert.ensures.turns files h.0 stands h.1)

pub returns-in_err-outcome-clause-full : goal.returns-in_err-outcome-clause-full
returns-in_err-outcome-clause-full g c = λ files stands linked full.
    let s = c.args.select.now in
    let l = c.args.link.now in
    let h = written_held files s l linked c.requires.may in
    let told = refused_by_call c.in_err-outcome.was c.from_residual.ensures.1 full in
    inserted_changes s l files h.0 h.1 c.args.bytes.now c.args.number.now
    c.number_to_write-row_number.result c.is_past_boundary.result c.is_out_of_sequence.result
    c.number_to_write-row_number.ensures c.is_past_boundary.ensures c.if-is_past_boundary.false
    c.is_out_of_sequence.ensures c.if-is_out_of_sequence.false
    (c.insert.ensures.full files h.0 stands h.1 told)

pub returns-in_err-outcome-clause-changes : goal.returns-in_err-outcome-clause-changes
returns-in_err-outcome-clause-changes g c =
    still_changes c.insert.ensures.changes c.in_err-outcome.was c.from_residual.ensures.1

pub returns-in_err-outcome-clause-step : goal.returns-in_err-outcome-clause-step
returns-in_err-outcome-clause-step g c = λ files stands linked.
    no_answer _ _ c.from_residual.result c.from_residual.ensures.1

pub returns-in_err-outcome-clause-makes_none : goal.returns-in_err-outcome-clause-makes_none
returns-in_err-outcome-clause-makes_none g c =
    λ is. c.insert.ensures.makes_none (refused_by_call c.in_err-outcome.was c.from_residual.ensures.1 is)

pub returns-in_err-outcome-clause-idle : goal.returns-in_err-outcome-clause-idle
returns-in_err-outcome-clause-idle g c = λ honest. no_answer _ _ c.from_residual.result c.from_residual.ensures.1

pub returns-in_err-outcome-clause-rests : goal.returns-in_err-outcome-clause-rests
returns-in_err-outcome-clause-rests g c = err_any c.from_residual.result (inl c.in_err-outcome.ensures.spends.refused)

pub returns-then-is_past_boundary-clause-changes : goal.returns-then-is_past_boundary-clause-changes
returns-then-is_past_boundary-clause-changes g c = changes_nothing Boundary

pub returns-then-is_out_of_sequence-clause-changes : goal.returns-then-is_out_of_sequence-clause-changes
returns-then-is_out_of_sequence-clause-changes g c = changes_nothing OutOfSequence

pub returns-clause-changes : goal.returns-clause-changes
returns-clause-changes g c = changes_on c.insert.ensures.changes c.write_status.result c.in_ok-outcome.was

pub returns-clause-idle : goal.returns-clause-idle
returns-clause-idle g c = λ honest none.
    c.in_ok-outcome.ensures.idle honest (no_change_of _ (ap is_success (sym c.write_status.ensures) ∙ none))

pub returns-then-is_past_boundary-clause-step : goal.returns-then-is_past_boundary-clause-step
returns-then-is_past_boundary-clause-step g c = λ files stands linked.
    let s = c.args.select.now in
    let l = c.args.link.now in
    let h = written_held files s l linked c.requires.may in
    let e = past_ends s l files h.0 h.1 c.args.bytes.now c.args.number.now c.number_to_write-row_number.result
    c.is_past_boundary.result c.number_to_write-row_number.ensures c.is_past_boundary.ensures
    c.if-is_past_boundary.true in
    ended _ _ Boundary _ _ e refl refl refl

pub returns-then-is_past_boundary-clause-turns : goal.returns-then-is_past_boundary-clause-turns
returns-then-is_past_boundary-clause-turns g c = λ files stands linked.
    let s = c.args.select.now in
    let l = c.args.link.now in
    let h = written_held files s l linked c.requires.may in
    let e = past_ends s l files h.0 h.1 c.args.bytes.now c.args.number.now c.number_to_write-row_number.result
    c.is_past_boundary.result c.number_to_write-row_number.ensures c.is_past_boundary.ensures
    c.if-is_past_boundary.true in
    still_opened (reads_nothing Boundary) (g.met.T.Store.held c.args.store.now) Boundary false s.file.name.items
    stands (ap (λ (t : Step). t.files) e)

pub returns-then-is_out_of_sequence-clause-step : goal.returns-then-is_out_of_sequence-clause-step
returns-then-is_out_of_sequence-clause-step g c = λ files stands linked.
    let s = c.args.select.now in
    let l = c.args.link.now in
    let h = written_held files s l linked c.requires.may in
    let e = out_ends s l files h.0 h.1 c.args.bytes.now c.args.number.now c.number_to_write-row_number.result
    c.is_past_boundary.result c.is_out_of_sequence.result c.number_to_write-row_number.ensures
    c.is_past_boundary.ensures c.if-is_past_boundary.false c.is_out_of_sequence.ensures c.if-is_out_of_sequence.true in
    ended _ _ OutOfSequence _ _ e refl refl refl

pub returns-then-is_out_of_sequence-clause-turns : goal.returns-then-is_out_of_sequence-clause-turns
returns-then-is_out_of_sequence-clause-turns g c = λ files stands linked.
    let s = c.args.select.now in
    let l = c.args.link.now in
    let h = written_held files s l linked c.requires.may in
    let e = out_ends s l files h.0 h.1 c.args.bytes.now c.args.number.now c.number_to_write-row_number.result
    c.is_past_boundary.result c.is_out_of_sequence.result c.number_to_write-row_number.ensures
    c.is_past_boundary.ensures c.if-is_past_boundary.false c.is_out_of_sequence.ensures c.if-is_out_of_sequence.true in
    still_opened (reads_nothing OutOfSequence) (g.met.T.Store.held c.args.store.now) OutOfSequence false
    s.file.name.items
    stands (ap (λ (t : Step). t.files) e)

pub returns-then-is_past_boundary-clause-link : goal.returns-then-is_past_boundary-clause-link
returns-then-is_past_boundary-clause-link g c = record {
  key = c.requires.link.key;
  value = c.requires.link.value;
  row_length = c.requires.link.row_length;
  sought_length = c.requires.link.sought_length;
  written_length = c.requires.link.written_length;
  last = c.requires.link.last;
}

pub returns-then-is_past_boundary-clause-full : goal.returns-then-is_past_boundary-clause-full
returns-then-is_past_boundary-clause-full g c = λ files stands linked is. never_refused is

pub returns-then-is_past_boundary-clause-makes_none : goal.returns-then-is_past_boundary-clause-makes_none
returns-then-is_past_boundary-clause-makes_none g c = λ is. never_refused is

pub returns-then-is_out_of_sequence-clause-link : goal.returns-then-is_out_of_sequence-clause-link
returns-then-is_out_of_sequence-clause-link g c = record {
  key = c.requires.link.key;
  value = c.requires.link.value;
  row_length = c.requires.link.row_length;
  sought_length = c.requires.link.sought_length;
  written_length = c.requires.link.written_length;
  last = c.requires.link.last;
}

pub returns-then-is_out_of_sequence-clause-full : goal.returns-then-is_out_of_sequence-clause-full
returns-then-is_out_of_sequence-clause-full g c = λ files stands linked is. never_refused is

pub returns-then-is_out_of_sequence-clause-makes_none : goal.returns-then-is_out_of_sequence-clause-makes_none
returns-then-is_out_of_sequence-clause-makes_none g c = λ is. never_refused is

pub returns-in_err-outcome-clause-same : goal.returns-in_err-outcome-clause-same
returns-in_err-outcome-clause-same g c = err_any c.from_residual.result refl

pub returns-in_err-outcome-clause-area : goal.returns-in_err-outcome-clause-area
returns-in_err-outcome-clause-area g c = err_any c.from_residual.result refl

pub returns-clause-full : goal.returns-clause-full
returns-clause-full g c = λ files stands linked is. never_refused is

pub returns-clause-makes_none : goal.returns-clause-makes_none
returns-clause-makes_none g c = λ is. never_refused is
