use Rattle.std.proofs.Common.{◌≡◌, ◌≤◌, ◌<◌, ◌/◌, ◌^◌, drop, length}
use Rattle.picture.specs.Regions.{digits_in}
use Rattle.edited_move.specs.Editing.{is_next_before_stop, characters_from}
use Rattle.edited_move.proofs.editing.put_leading.Given as goal

abbrev pub invariant-loop-at : goal.invariant-loop-at
invariant-loop-at l = record {
  within : l.at ≤ length l.bytes;
  rest : 0 < l.at → 0 ≡ l.fn.magnitude / 10 ^ digits_in (drop l.at l.places);
  stop : l.next_before_stop ≡ is_next_before_stop l.region l.fn.magnitude l.at (drop l.at l.places);
  written : drop l.at l.bytes ≡ characters_from l.region l.negative l.fn.magnitude l.at (drop l.at l.places);
}

abbrev pub decreases-loop-at : goal.decreases-loop-at
decreases-loop-at l = l.at
