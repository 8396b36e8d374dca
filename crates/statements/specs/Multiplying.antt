-- MULTIPLY: its rule, and how it is read.
use Rattle.tokens.specs.declared.reserved.Reserved.TheVariants as w
use Rattle.source_tree.specs.declared.expression.Operand.{Operand}
use Rattle.source_tree.specs.declared.arithmetic.Operation.{Operation}
use Rattle.source_tree.specs.declared.arithmetic.Operation.TheVariants.{Multiply, MultiplyGiving}
use Rattle.grammar.specs.Parts.{Part, ◌then◌, word}
use Rattle.grammar.specs.Reading.{Parser, ◌>>=◌, ◌>>◌, pure, expect}
use Rattle.expressions.specs.Operands.{number_operand, number_operand_reader}
use Rattle.statements.specs.declared.receivers.Target.{Target}
use Rattle.statements.specs.declared.receivers.Target.TheVariants.{Receivers, Giving}
use Rattle.statements.specs.Receivers.{target, target_reader}

-- MULTIPLY num BY {rd... | num GIVING rd...} (COBOL-85, Nucleus, "The MULTIPLY statement")
abbrev pub multiply_statement : Operand → Target → Part
multiply_statement factor by = word w.Multiply then number_operand factor then word w.By then target by

abbrev pub multiply_operation : Operand → Target → Operation
multiply_operation factor (Receivers all) = Multiply factor all
multiply_operation factor (Giving by all) = MultiplyGiving factor by all

unfoldable pub multiply_reader : Parser Operation
multiply_reader = do
  expect w.Multiply
  factor ← number_operand_reader
  expect w.By
  by ← target_reader
  pure (multiply_operation factor by)
