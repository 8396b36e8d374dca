use Rattle.half_store.proofs.Placed.{PassedNames}
use Rattle.half_store.proofs.creating.place_of_name.Given as goal

abbrev pub invariant-loop-place : goal.invariant-loop-place
invariant-loop-place l = PassedNames l.name l.files l.place
