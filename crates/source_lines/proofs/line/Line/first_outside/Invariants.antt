use Rattle.std.proofs.Common.{◌≡◌, ℕ, ◌<◌, ◌≤◌, true}
use Rattle.source_lines.specs.Line as spec
use Rattle.source_lines.proofs.line.Line.first_outside.Given as goal

abbrev pub invariant-loop-column : goal.invariant-loop-column
invariant-loop-column l = (k : ℕ) → 8 ≤ k → k < l.column → spec.is_in_character_set (spec.byte l.self k) ≡ true
