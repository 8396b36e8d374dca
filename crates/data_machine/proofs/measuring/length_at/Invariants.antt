use Rattle.std.proofs.Common.{◌≡◌, ◌≤◌, length, take}
use Rattle.std.specs.Prelude.{reverse}
use Rattle.data_machine.specs.Measured.{length_among}
use Rattle.data_machine.proofs.measuring.length_at.Given as goal

-- The numbers after these have no length of that text.
abbrev pub invariant-loop-left : goal.invariant-loop-left
invariant-loop-left l = (l.left ≤ length l.numbers)
    × (length_among (reverse l.numbers) l.at ≡ length_among (reverse (take l.left l.numbers)) l.at)

abbrev pub decreases-loop-left : goal.decreases-loop-left
decreases-loop-left l = l.left
