-- Operands and receivers of arithmetic statements, and what GIVING follows: their rules, and how they are read.
use Rattle.std.specs.Prelude.{◌&&◌, not, is_some, if◌then◌else◌, Bool, List}
use Rattle.tokens.specs.declared.reserved.Reserved.TheVariants as w
use Rattle.tokens.specs.declared.token.Token.{Token}
use Rattle.source_tree.specs.declared.expression.Operand.{Operand}
use Rattle.source_tree.specs.declared.arithmetic.Receiver.{Receiver}
use Rattle.grammar.specs.Parts as g
use Rattle.grammar.specs.Parts.{Part, ◌then◌, ◌but◌, optional_part, lookahead, word, begins_name}
use Rattle.grammar.specs.Reading as r
use Rattle.grammar.specs.Reading.{Parser, ◌>>=◌, ◌>>◌, pure, after_word, expect}
use Rattle.expressions.specs.References.{reference, reference_reader}
use Rattle.expressions.specs.Operands.{number_operand, begins_number_operand, number_operand_reader}
use Rattle.expressions.specs.Looking.{reference_before, after_reference_before}
use Rattle.statements.specs.declared.receivers.Target.{Target}
use Rattle.statements.specs.declared.receivers.Target.TheVariants.{Receivers, Giving}

-- num...
abbrev pub numbers : List Operand → Part
numbers operands = g.several number_operand (lookahead begins_number_operand) operands

-- d [ROUNDED] (COBOL-85, Nucleus, "The ROUNDED phrase")
abbrev pub receiver : Receiver → Part
receiver one = reference one.item then optional_part (word w.Rounded) one.rounded

-- rd...
abbrev pub receivers : List Receiver → Part
receivers all = g.several receiver (lookahead begins_name) all

-- rd... | num GIVING rd...: a reference with GIVING after it is an operand (COBOL-85, Nucleus, "The GIVING phrase")
abbrev pub target : Target → Part
target (Receivers all) = receivers all but reference_before w.Giving
target (Giving operand all) = number_operand operand then word w.Giving then receivers all

unfoldable pub numbers_reader : Parser (List Operand)
numbers_reader = r.several number_operand_reader begins_number_operand

unfoldable pub receiver_reader : Parser Receiver
receiver_reader = do
  item ← reference_reader
  rounded ← r.presence_reader (after_word w.Rounded)
  pure (record { item = item; rounded = rounded })

unfoldable pub receivers_reader : Parser (List Receiver)
receivers_reader = r.several receiver_reader begins_name

-- a name that isn't of an operand before GIVING
abbrev pub begins_receivers : List Token → Bool
begins_receivers i = begins_name i && not (is_some (after_reference_before w.Giving i))

unfoldable pub receivers_alone_reader : Parser Target
receivers_alone_reader = do
  all ← receivers_reader
  pure (Receivers all)

unfoldable pub giving_reader : Parser Target
giving_reader = do
  operand ← number_operand_reader
  expect w.Giving
  all ← receivers_reader
  pure (Giving operand all)

unfoldable pub target_reader : Parser Target
target_reader i = if begins_receivers i then receivers_alone_reader i else giving_reader i
