use Rattle.std.proofs.Common.{◌≡◌, ◌++◌}
use Rattle.picture.specs.Places.{repeated_places, symbol_places}
use Rattle.picture.proofs.place.push_run.Given as goal

abbrev pub invariant-loop-time : goal.invariant-loop-time
invariant-loop-time l = l.places ≡ l.fn.places ++ repeated_places l._time (symbol_places l.by l.run.symbol)
