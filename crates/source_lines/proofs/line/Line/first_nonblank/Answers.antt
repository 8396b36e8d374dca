use Rattle.std.proofs.Common.{arith, ap, not}
use Rattle.std.proofs.lemmas.Bool.Decides.{nat_tests}
use Rattle.source_lines.specs.Line.{is_space}
use Rattle.source_lines.proofs.Columns.{column_found, column_missing}
use Rattle.source_lines.proofs.line.Line.first_nonblank.Goals as goal

pub returns-then-byte-ne-SPACE : goal.returns-then-byte-ne-SPACE
returns-then-byte-ne-SPACE c =
    column_found (λ byte. not (is_space byte)) c.args.self.now (omega arith) c.loop-column.column (omega arith)
    (omega arith)
    (λ k low below. ap (λ byte. not (is_space byte)) (c.loop-column.invariant k low below)) (grind (arith, nat_tests))

pub returns : goal.returns
returns c =
    column_missing (λ byte. not (is_space byte)) c.args.self.now (omega arith)
    (λ k low below. ap (λ byte. not (is_space byte)) (c.loop-column.invariant k low (omega arith)))
