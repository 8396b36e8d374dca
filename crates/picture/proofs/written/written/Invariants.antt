use Rattle.std.proofs.Common.{◌≡◌, ◌++◌, drop}
use Rattle.picture.specs.Spelling.{spelling_of}
use Rattle.picture.proofs.written.written.Given as goal

abbrev pub invariant-loop-run : goal.invariant-loop-run
invariant-loop-run l = l.text ++ spelling_of (drop l.run-index l.runs) ≡ spelling_of l.runs
