use Rattle.std.proofs.Common.{◌≡◌, ◌+◌, drop}
use Rattle.picture.specs.Runs as spec
use Rattle.picture.proofs.run.size_of.Given as goal

abbrev pub invariant-loop-run : goal.invariant-loop-run
invariant-loop-run l = l.places + spec.size_of (drop l.run-index l.runs) ≡ spec.size_of l.runs
