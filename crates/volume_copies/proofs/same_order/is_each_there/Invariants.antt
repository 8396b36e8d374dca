use Rattle.std.proofs.Common.{◌≡◌, length}
use Rattle.volume_copies.proofs.same_order.is_each_there.Given as goal

abbrev pub invariant-loop-place : goal.invariant-loop-place
invariant-loop-place l = length l.places.items ≡ l.count
