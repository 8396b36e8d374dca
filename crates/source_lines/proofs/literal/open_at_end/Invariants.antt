use Rattle.std.proofs.Common.{◌≡◌}
use Rattle.std.specs.List.{fold}
use Rattle.source_lines.specs.Line.{characters}
use Rattle.source_lines.specs.Literal.{open_after}
use Rattle.source_lines.proofs.literal.open_at_end.Given as goal

abbrev pub invariant-loop-column : goal.invariant-loop-column
invariant-loop-column l = l.literal ≡ fold open_after l.fn.before (characters l.line l.fn.from l.column)
