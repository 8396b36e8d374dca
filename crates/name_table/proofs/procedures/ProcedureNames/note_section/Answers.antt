use Rattle.std.proofs.Common.{◌++◌}
use Rattle.std.specs.Option.{option_copied}
use Rattle.std.proofs.lemmas.Result.{err_from_is_err_and}
use Rattle.source_tree.specs.Procedures.{paragraph_procedures, paragraphs_or_one}
use Rattle.name_table.proofs.Noting.{section_first, paragraphs_next, next_number}
use Rattle.name_table.proofs.procedures.ProcedureNames.note_section.Goals as goal

pub returns-in_err-note-clause-noted : goal.returns-in_err-note-clause-noted
returns-in_err-note-clause-noted c = λ all more h.
    let one = c.args.section.now in
    let first = c.args.first in
    let paragraphs = c.as_slice-paragraphs.result.now in
    let next = next_number one.paragraphs paragraphs first c.in-Some.next c.max-count.result
    c.as_slice-paragraphs.ensures c.max-count.ensures c.in-Some.ensures.1 in
    let error = err_from_is_err_and c.from_residual.result c.from_residual.ensures.1 in
    rw (error.1, error.2)
    (c.in_err-note.ensures all (paragraph_procedures first (paragraphs_or_one one.paragraphs) ++ more)
    (section_first all more one first c.in-Some.next (option_copied c.as_ref.result) c.args.self.now
    c.as_ref.ensures.value next h))

pub returns-in_err-note_paragraphs-clause-noted : goal.returns-in_err-note_paragraphs-clause-noted
returns-in_err-note_paragraphs-clause-noted c = λ all more h.
    let one = c.args.section.now in
    let first = c.args.first in
    let paragraphs = c.as_slice-paragraphs.result.now in
    let next = next_number one.paragraphs paragraphs first c.in-Some.next c.max-count.result
    c.as_slice-paragraphs.ensures c.max-count.ensures c.in-Some.ensures.1 in
    let error = err_from_is_err_and c.from_residual-in_err-note_paragraphs.result
    c.from_residual-in_err-note_paragraphs.ensures.1 in
    rw (error.1, error.2)
    (c.in_err-note_paragraphs.ensures all more
    (paragraphs_next all more one.paragraphs paragraphs first c.note.new.self c.as_slice-paragraphs.ensures
    (c.in_ok-note.ensures all (paragraph_procedures first (paragraphs_or_one one.paragraphs) ++ more)
    (section_first all more one first c.in-Some.next (option_copied c.as_ref.result) c.args.self.now
    c.as_ref.ensures.value next h))))

pub returns-clause-noted : goal.returns-clause-noted
returns-clause-noted c = λ all more h.
    let one = c.args.section.now in
    let first = c.args.first in
    let paragraphs = c.as_slice-paragraphs.result.now in
    let next = next_number one.paragraphs paragraphs first c.in-Some.next c.max-count.result
    c.as_slice-paragraphs.ensures c.max-count.ensures c.in-Some.ensures.1 in
    c.in_ok-note_paragraphs.ensures all more
    (paragraphs_next all more one.paragraphs paragraphs first c.note.new.self c.as_slice-paragraphs.ensures
    (c.in_ok-note.ensures all (paragraph_procedures first (paragraphs_or_one one.paragraphs) ++ more)
    (section_first all more one first c.in-Some.next (option_copied c.as_ref.result) c.args.self.now
    c.as_ref.ensures.value next h)))
