-- SUBTRACT: its rule, and how it is read.
use Rattle.std.specs.Prelude.{List}
use Rattle.tokens.specs.declared.reserved.Reserved.TheVariants as w
use Rattle.source_tree.specs.declared.expression.Operand.{Operand}
use Rattle.source_tree.specs.declared.arithmetic.Operation.{Operation}
use Rattle.source_tree.specs.declared.arithmetic.Operation.TheVariants.{Subtract, SubtractGiving}
use Rattle.grammar.specs.Parts.{Part, ◌then◌, word}
use Rattle.grammar.specs.Reading.{Parser, ◌>>=◌, ◌>>◌, pure, expect}
use Rattle.statements.specs.declared.receivers.Target.{Target}
use Rattle.statements.specs.declared.receivers.Target.TheVariants.{Receivers, Giving}
use Rattle.statements.specs.Receivers.{numbers, target, numbers_reader, target_reader}

-- SUBTRACT num... FROM {rd... | num GIVING rd...} (COBOL-85, Nucleus, "The SUBTRACT statement")
abbrev pub subtract_statement : List Operand → Target → Part
subtract_statement operands from = word w.Subtract then numbers operands then word w.From then target from

abbrev pub subtract_operation : List Operand → Target → Operation
subtract_operation operands (Receivers all) = Subtract operands all
subtract_operation operands (Giving minuend all) = SubtractGiving operands minuend all

unfoldable pub subtract_reader : Parser Operation
subtract_reader = do
  expect w.Subtract
  operands ← numbers_reader
  expect w.From
  from ← target_reader
  pure (subtract_operation operands from)
