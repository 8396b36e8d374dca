use Rattle.std.proofs.Common.{◌+◌, ◌++◌, drop}
use Rattle.std.specs.Option.{option_copied}
use Rattle.std.proofs.lemmas.Result.{err_from_is_err_and}
use Rattle.source_tree.specs.Procedures.{paragraph_procedures}
use Rattle.name_table.proofs.Noting.{next_paragraph}
use Rattle.name_table.proofs.procedures.ProcedureNames.note_paragraphs.Goals as goal

pub returns-in_err-note : goal.returns-in_err-note
returns-in_err-note c = λ all more h.
    let paragraphs = c.args.paragraphs.now in
    let i = c.loop-i.i in
    let error = err_from_is_err_and c.from_residual.result c.from_residual.ensures.1 in
    rw (error.1, error.2)
    (c.in_err-note.ensures all (paragraph_procedures (c.args.first + i + 1) (drop (i + 1) paragraphs) ++ more)
    (next_paragraph all more paragraphs c.args.first i c.index-paragraphs-i.result
    (option_copied c.as_ref.result) c.loop-i.self c.loop-i-test.true c.index-paragraphs-i.is c.as_ref.ensures.value
    (c.loop-i.invariant all more h)))
