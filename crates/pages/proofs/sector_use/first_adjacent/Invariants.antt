use Rattle.std.proofs.Common.{◌≤◌}
use Rattle.pages.proofs.sector_use.first_adjacent.Given as goal

abbrev pub invariant-loop-place : goal.invariant-loop-place
invariant-loop-place l = (l.start ≤ l.first) × (l.first ≤ l.place)
