use Rattle.std.proofs.Common.{◌≡◌, ℕ, ◌<◌, ◌≤◌}
use Rattle.source_lines.specs.Line as spec
use Rattle.source_lines.proofs.line.Line.first_nonblank.Given as goal

abbrev pub invariant-loop-column : goal.invariant-loop-column
invariant-loop-column l = (k : ℕ) → 8 ≤ k → k < l.column → spec.byte l.self k ≡ 32
