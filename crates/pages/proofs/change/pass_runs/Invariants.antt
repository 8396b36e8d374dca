use Rattle.std.proofs.Common.{◌≡◌, length}
use Rattle.pages.proofs.change.pass_runs.Given as goal

abbrev pub invariant-loop-run : goal.invariant-loop-run
invariant-loop-run l = length l.passed.items ≡ length l.initial.passed.items
