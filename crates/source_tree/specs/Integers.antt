-- Unsigned integers that the grammar asks for: level numbers, occurrences, subscripts.
use Rattle.std.specs.Prelude.{ℕ}
use Rattle.decimal18.specs.Digits.{digits_after}
use Rattle.source_tree.specs.declared.literal.Integer.{Integer}

abbrev pub number_of : Integer → ℕ
number_of one = digits_after 0 one.digits
