-- Lengths that were put on the stack of numbers.
use Rattle.std.specs.Prelude.{◌≡◌, ◌⊎◌, ℕ, List, [], length, map, take, reverse, Option}
use Rattle.text_ops.specs.declared.entry.Entry.{Entry}
use Rattle.source_tree.specs.Computed.{ArithmeticValue}
use Rattle.source_tree.specs.MeasuredTexts.{length_at}
use Rattle.data_instructions.specs.Table.{lengths_in, measured_by}

-- the length of the text that begins there, by numbers of which the newest is first
abbrev pub length_among : List ArithmeticValue → ℕ → Option ℕ
length_among numbers at = length_at (lengths_in numbers) at

-- The front of a room has these entries with the lengths of numbers in the order in which they came, unless there are
-- none.
abbrev pub HasMeasured : List ArithmeticValue → List Entry → List Entry → Type 0
HasMeasured numbers entries room =
    (numbers ≡ []) ⊎ (take (length entries) room ≡ map (measured_by (reverse numbers)) entries)
