use Rattle.std.proofs.Common.{◌≡◌, ◌+◌, ◌≤◌, length}
use Rattle.source_lines.specs.Cut.{lines}
use Rattle.source_lines.specs.Reading.{after_lines, lines_of, numbered_lines}
use Rattle.source_lines.proofs.source.read_lines.Given as goal

abbrev pub invariant-loop-line : goal.invariant-loop-line
invariant-loop-line l =
    (after_lines (lines_of l.fn.source) l.fn.reader ≡ after_lines (numbered_lines l.number (lines l.rest)) l.reader)
    × (l.number + length l.rest ≤ 8000001)

abbrev pub decreases-loop-line : goal.decreases-loop-line
decreases-loop-line l = length l.rest
