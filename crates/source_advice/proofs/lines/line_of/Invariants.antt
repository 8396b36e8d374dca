use Rattle.std.proofs.Common.{◌≡◌, ◌-◌, ◌≤◌, drop}
use Rattle.source_lines.specs.Cut.{lines}
use Rattle.source_advice.proofs.lines.line_of.Given as goal

abbrev pub invariant-loop : goal.invariant-loop
invariant-loop l = (lines l.rest ≡ drop (l.counter - 1) (lines l.fn.source)) × (l.counter - 1 ≤ l.fn.number - 1)
