use Rattle.std.proofs.Common.{◌≤◌, length}
use Rattle.host.proofs.console.take_line.Given as goal

abbrev pub invariant-loop : goal.invariant-loop
invariant-loop g l = l.count ≤ length l.into
