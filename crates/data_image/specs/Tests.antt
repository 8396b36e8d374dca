-- Instructions that set the flag, in an image (own choice).
use Rattle.std.specs.Prelude.{ℕ, ◌==◌, List, [], ◌∷◌, ◌++◌, Option, None, Some, Ok, if◌then◌else◌}
use Rattle.source_tree.specs.declared.condition.Relation.{Relation}
use Rattle.source_tree.specs.declared.condition.Relation.TheVariants as relation
use Rattle.source_tree.specs.declared.condition.Class.{Class}
use Rattle.source_tree.specs.declared.condition.Class.TheVariants as class
use Rattle.data_instructions.specs.declared.test.Test.{Test}
use Rattle.data_instructions.specs.declared.test.Test.TheVariants as t
use Rattle.data_instructions.specs.declared.instruction.DataInstruction.{DataInstruction}
use Rattle.data_instructions.specs.declared.instruction.DataInstruction.TheVariants as i
use Rattle.data_image.specs.Spelling.{short_bytes, FitsFourBytes}
use Rattle.data_image.specs.Reading.{ReadResult, ◌>>=◌, short_at, told_at}

abbrev pub relation_byte : Relation → ℕ
relation_byte relation.Less = 1
relation_byte relation.LessOrEqual = 2
relation_byte relation.Equal = 3
relation_byte relation.NotEqual = 4
relation_byte relation.GreaterOrEqual = 5
relation_byte relation.Greater = 6

abbrev pub class_byte : Class → ℕ
class_byte class.Numeric = 1
class_byte class.Alphabetic = 2
class_byte class.AlphabeticLower = 3
class_byte class.AlphabeticUpper = 4

abbrev pub test_bytes : Test → List ℕ
test_bytes (t.Compare one) = 40 ∷ relation_byte one ∷ []
test_bytes (t.CompareLiteral one literal) = 41 ∷ (short_bytes literal.number ++ relation_byte one ∷ [])
test_bytes (t.CompareNumbers one) = 42 ∷ relation_byte one ∷ []
test_bytes (t.Class one) = 43 ∷ class_byte one ∷ []
test_bytes (t.OrEqual literal) = 44 ∷ short_bytes literal.number
test_bytes (t.OrWithin first) = 45 ∷ short_bytes first.number
test_bytes t.Invert = 46 ∷ []

abbrev pub HasEntry : Test → Type 0
HasEntry (t.Compare one) = Unit {0}
HasEntry (t.CompareLiteral one literal) = FitsFourBytes literal.number
HasEntry (t.CompareNumbers one) = Unit {0}
HasEntry (t.Class one) = Unit {0}
HasEntry (t.OrEqual literal) = FitsFourBytes literal.number
HasEntry (t.OrWithin first) = FitsFourBytes first.number
HasEntry t.Invert = Unit {0}

-- ---- reading

unfoldable pub relation_of : ℕ → Option Relation
relation_of byte =
    if byte == 1 then Some relation.Less
    else if byte == 2 then Some relation.LessOrEqual
    else if byte == 3 then Some relation.Equal
    else if byte == 4 then Some relation.NotEqual
    else if byte == 5 then Some relation.GreaterOrEqual
    else if byte == 6 then Some relation.Greater
    else None

unfoldable pub class_of : ℕ → Option Class
class_of byte =
    if byte == 1 then Some class.Numeric
    else if byte == 2 then Some class.Alphabetic
    else if byte == 3 then Some class.AlphabeticLower
    else if byte == 4 then Some class.AlphabeticUpper
    else None

-- an instruction with a relation
abbrev pub relating_at : (Relation → DataInstruction) → List ℕ → ReadResult DataInstruction
relating_at make bytes = do
  one ← told_at relation_of bytes
  Ok (make one.0, one.1)

abbrev pub class_at : List ℕ → ReadResult DataInstruction
class_at bytes = do
  one ← told_at class_of bytes
  Ok (i.Test (t.Class one.0), one.1)

abbrev pub compare_literal_at : List ℕ → ReadResult DataInstruction
compare_literal_at bytes = do
  literal ← short_at bytes
  one ← told_at relation_of literal.1
  Ok (i.Test (t.CompareLiteral one.0 (record { number = literal.0 })), one.1)

abbrev pub compare : Relation → DataInstruction
compare one = i.Test (t.Compare one)

abbrev pub compare_numbers : Relation → DataInstruction
compare_numbers one = i.Test (t.CompareNumbers one)

abbrev pub or_equal : ℕ → DataInstruction
or_equal number = i.Test (t.OrEqual (record { number = number }))

abbrev pub or_within : ℕ → DataInstruction
or_within number = i.Test (t.OrWithin (record { number = number }))
