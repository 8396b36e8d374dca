use Rattle.std.proofs.Common.{arith, ap, not, sym, ◌∙◌}
use Rattle.source_lines.specs.Line.{is_in_character_set}
use Rattle.source_lines.proofs.Columns.{column_found, column_missing}
use Rattle.source_lines.proofs.line.Line.first_outside.Goals as goal

pub returns-then-not-is_in_character_set : goal.returns-then-not-is_in_character_set
returns-then-not-is_in_character_set c =
    column_found (λ byte. not (is_in_character_set byte)) c.args.self.now (omega arith) c.loop-column.column
    (omega arith) (omega arith)
    (λ k low below. ap not (c.loop-column.invariant k low below))
    (ap (λ byte. not (is_in_character_set byte)) (sym c.byte.ensures)
    ∙ ap not (sym c.is_in_character_set.ensures ∙ c.if-not-is_in_character_set.true))

pub returns : goal.returns
returns c =
    column_missing (λ byte. not (is_in_character_set byte)) c.args.self.now (omega arith)
    (λ k low below. ap not (c.loop-column.invariant k low (omega arith)))
