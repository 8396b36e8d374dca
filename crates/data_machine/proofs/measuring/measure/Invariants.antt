use Rattle.std.proofs.Common.{◌≡◌, length, map, take}
use Rattle.std.specs.Prelude.{reverse}
use Rattle.data_instructions.specs.Table.{measured_by}
use Rattle.data_machine.proofs.measuring.measure.Given as goal

-- The front has the entries so far.
abbrev pub invariant-loop-number : goal.invariant-loop-number
invariant-loop-number l =
    (length l.room ≡ length l.fn.room)
    × (take l.number l.room ≡ map (measured_by (reverse l.numbers)) (take l.number l.entries))
