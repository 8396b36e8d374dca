use Rattle.std.proofs.Common.{◌≡◌, ◌+◌, drop}
use Rattle.picture.specs.Runs as spec
use Rattle.picture.proofs.run.occurrences.Given as goal

abbrev pub invariant-loop-run : goal.invariant-loop-run
invariant-loop-run l = l.found + spec.occurrences l.class (drop l.run-index l.runs) ≡ spec.occurrences l.class l.runs
