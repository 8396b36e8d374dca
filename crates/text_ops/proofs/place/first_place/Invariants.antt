use Rattle.std.proofs.Common.{◌≡◌, drop}
use Rattle.text_ops.specs.Places.{first_place}
use Rattle.text_ops.proofs.Places.{from_place}
use Rattle.text_ops.proofs.place.first_place.Given as goal

abbrev pub invariant-loop-at : goal.invariant-loop-at
invariant-loop-at l =
    first_place l.fn.sought l.fn.text ≡ from_place l.at (first_place l.fn.sought (drop l.at l.fn.text))
