use Rattle.std.proofs.Common.{◌≡◌, ℕ, ◌<◌, ◌≤◌}
use Rattle.source_lines.specs.Line as spec
use Rattle.source_lines.proofs.line.Line.last_nonblank.Given as goal

abbrev pub invariant-loop-column : goal.invariant-loop-column
invariant-loop-column l = (k : ℕ) → l.column ≤ k → k < 73 → spec.byte l.self k ≡ 32
