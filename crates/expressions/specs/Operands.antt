-- Operands: their rules, and how they are read.
use Rattle.std.specs.Prelude.{◌||◌, if◌then◌else◌, Bool, List}
use Rattle.tokens.specs.declared.token.Token.{Token}
use Rattle.source_tree.specs.declared.expression.Operand.{Operand}
use Rattle.source_tree.specs.declared.expression.Operand.TheVariants as operand_as
use Rattle.grammar.specs.Parts.{Part, token_with, begins_telling, begins_name}
use Rattle.grammar.specs.Reading.{Parser, ◌>>=◌, pure, one_token}
use Rattle.expressions.specs.Literals.{literal, begins_literal, literal_reader, number_literal_in}
use Rattle.expressions.specs.References.{reference, reference_reader}

-- d|lit
abbrev pub operand : Operand → Part
operand (operand_as.Item one) = reference one
operand (operand_as.Literal one) = literal one

abbrev pub begins_operand : List Token → Bool
begins_operand i = begins_name i || begins_literal i

-- d|nlit|ZERO
abbrev pub number_operand : Operand → Part
number_operand (operand_as.Item one) = reference one
number_operand (operand_as.Literal one) = token_with number_literal_in one

abbrev pub begins_number_operand : List Token → Bool
begins_number_operand i = begins_name i || begins_telling number_literal_in i

unfoldable pub item_reader : Parser Operand
item_reader = do
  one ← reference_reader
  pure (operand_as.Item one)

unfoldable pub literal_operand_reader : Parser Operand
literal_operand_reader = do
  one ← literal_reader
  pure (operand_as.Literal one)

unfoldable pub number_literal_reader : Parser Operand
number_literal_reader = do
  one ← one_token number_literal_in
  pure (operand_as.Literal one)

unfoldable pub operand_reader : Parser Operand
operand_reader i = if begins_name i then item_reader i else literal_operand_reader i

unfoldable pub number_operand_reader : Parser Operand
number_operand_reader i = if begins_name i then item_reader i else number_literal_reader i
