use Rattle.std.proofs.Common.{◌≡◌, ◌++◌, drop}
use Rattle.picture.specs.Places.{each_place}
use Rattle.picture.proofs.place.each_place.Given as goal

abbrev pub invariant-loop-run : goal.invariant-loop-run
invariant-loop-run l = l.places ++ each_place l.by (drop l.run-index l.runs) ≡ each_place l.by l.runs
