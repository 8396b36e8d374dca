use Rattle.std.proofs.Common.{rules, arith, ◌∙◌}
use Rattle.std.proofs.lemmas.Grind.{common_steps}
use Rattle.answers.specs.Answer.{Fails}
use Rattle.source_lines.specs.Faults.{fault_of}
use Rattle.source_lines.specs.Reading.{after_lines, lines_of}
use Rattle.source_lines.proofs.Cutting.{line_read, line_refused, no_line, fails_as}
use Rattle.source_lines.proofs.source.read_lines.Goals as goal

pub returns-in_err-read : goal.returns-in_err-read
returns-in_err-read c =
    let fact : Fails (fault_of c.in_err-read.field-0.0) (after_lines (lines_of c.args.source.now) c.args.reader.now) =
    fails_as (fault_of c.in_err-read.field-0.0) _ _ c.loop-line.invariant.0
    (line_refused c.loop-line.number c.loop-line.rest.now c.in-Some.line.now c.in-Some.more.now c.in-Some.ensures.parts
    c.new.result c.new.ensures c.loop-line.reader
    (fault_of c.in_err-read.field-0.0) c.in_err-read.ensures) in
    first_of (search rules, grind (arith, common_steps))

pub loop-line-preserved : goal.loop-line-preserved
loop-line-preserved c = (
  c.loop-line.invariant.0
      ∙ line_read c.loop-line.number c.loop-line.rest.now c.in-Some.line.now c.in-Some.more.now c.in-Some.ensures.parts
      c.new.result c.new.ensures c.loop-line.reader
      c.read.new.self c.in_ok-read.ensures,
  omega (arith, c.in-Some.ensures.shorter),
)

pub returns : goal.returns
returns c = c.loop-line.invariant.0
    ∙ no_line c.loop-line.number c.loop-line.rest.now c.loop-line.reader c.in_default.ensures.parts
