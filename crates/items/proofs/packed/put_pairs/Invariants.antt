use Rattle.std.proofs.Common.{◌≡◌, ◌≤◌, ◌/◌, ◌-◌, ◌*◌, ◌^◌, drop, length}
use Rattle.items.specs.Packed.{bytes_of_halves, digit_halves}
use Rattle.items.proofs.packed.put_pairs.Given as goal

abbrev pub invariant-loop-at : goal.invariant-loop-at
invariant-loop-at l = record {
  within : l.at ≤ length l.bytes;
  rest : l.rest ≡ l.fn.magnitude / 10 ^ (2 * (length l.bytes - l.at));
  written : drop l.at l.bytes ≡ bytes_of_halves (digit_halves (2 * (length l.bytes - l.at)) l.fn.magnitude);
}

abbrev pub decreases-loop-at : goal.decreases-loop-at
decreases-loop-at l = l.at
