use Rattle.std.proofs.Common.{rules, arith, ◌∙◌, ap, sym, Ok}
use Rattle.std.proofs.lemmas.Grind.{common_steps}
use Rattle.answers.specs.Answer.{Fails}
use Rattle.source_lines.specs.Faults.{fault_of}
use Rattle.source_lines.specs.Reading.{after_lines, and_then, at_end, lines_of, characters_of}
use Rattle.source_lines.proofs.Cutting.{fails_as, fails_too, within_limit, past_limit}
use Rattle.source_lines.proofs.source.logical.Goals as goal

pub returns-then-source-gt-MOST_BYTES : goal.returns-then-source-gt-MOST_BYTES
returns-then-source-gt-MOST_BYTES c = rw c.too_large.ensures (past_limit c.args.source.now (omega arith))

pub returns-in_err-read_lines : goal.returns-in_err-read_lines
returns-in_err-read_lines c =
    let read = ap (λ reader. and_then (after_lines (lines_of c.args.source.now) reader) at_end) c.new-reader.ensures in
    let fact : Fails (fault_of c.in_err-read_lines.field-0.0) (characters_of c.args.source.now) =
    fails_as (fault_of c.in_err-read_lines.field-0.0) _ _ (within_limit c.args.source.now (omega arith) ∙ sym read)
    (fails_too (fault_of c.in_err-read_lines.field-0.0) (after_lines (lines_of c.args.source.now) c.new-reader.result)
    at_end c.in_err-read_lines.ensures) in
    first_of (search rules, grind (arith, common_steps))

pub returns-in_err-finish : goal.returns-in_err-finish
returns-in_err-finish c =
    let read = ap (λ reader. and_then (after_lines (lines_of c.args.source.now) reader) at_end) c.new-reader.ensures in
    let all = within_limit c.args.source.now (omega arith) ∙ sym read
    ∙ ap (λ step. and_then step at_end) c.in_ok-read_lines.ensures in
    let fact : Fails (fault_of c.in_err-finish.field-0.0) (characters_of c.args.source.now) =
    fails_as (fault_of c.in_err-finish.field-0.0) _ _ all c.in_err-finish.ensures in
    first_of (search rules, grind (arith, common_steps))

pub returns : goal.returns
returns c =
    let read = ap (λ reader. and_then (after_lines (lines_of c.args.source.now) reader) at_end) c.new-reader.ensures in
    within_limit c.args.source.now (omega arith) ∙ sym read
    ∙ ap (λ step. and_then step at_end) c.in_ok-read_lines.ensures
    ∙ c.in_ok-finish.ensures ∙ ap Ok (sym c.new.ensures)
