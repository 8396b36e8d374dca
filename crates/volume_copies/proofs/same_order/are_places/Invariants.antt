use Rattle.std.proofs.Common.{◌≡◌, ◌<◌, ℕ, length}
use Rattle.std.specs.Prelude.{slice_index_or}
use Rattle.volume_copies.proofs.same_order.are_places.Given as goal

abbrev pub invariant-loop-number : goal.invariant-loop-number
invariant-loop-number l = (n : ℕ) → n < l.number → (slice_index_or l.places n 0 < length l.order)
    × (slice_index_or l.order (slice_index_or l.places n 0) 0 ≡ n)
