use Rattle.std.proofs.Common.{arith, ◌-◌}
use Rattle.std.proofs.lemmas.Bool.Decides.{nat_tests}
use Rattle.source_lines.proofs.Columns.{last_found}
use Rattle.source_lines.proofs.line.Line.last_nonblank.Goals as goal

pub returns-then-byte-ne-SPACE-clause-value : goal.returns-then-byte-ne-SPACE-clause-value
returns-then-byte-ne-SPACE-clause-value c =
    last_found c.args.self.now (omega arith) (c.loop-column.column - 1) (omega arith) (omega arith)
    (λ k above below. c.loop-column.invariant k (omega arith) below) (λ h. grind (arith, nat_tests))

pub returns-clause-value : goal.returns-clause-value
returns-clause-value c =
    last_found c.args.self.now (omega arith) 7 (omega arith) (omega arith)
    (λ k above below. c.loop-column.invariant k (omega arith) below) (λ h. absurd (omega arith))
