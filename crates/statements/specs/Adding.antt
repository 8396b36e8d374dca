-- ADD: its rule, and how it is read.
use Rattle.std.specs.Prelude.{◌≡◌, if◌then◌else◌, List, [], ◌∷◌, ◌++◌}
use Rattle.tokens.specs.declared.reserved.Reserved.TheVariants as w
use Rattle.source_tree.specs.declared.expression.Operand.{Operand}
use Rattle.source_tree.specs.declared.arithmetic.Receiver.{Receiver}
use Rattle.source_tree.specs.declared.arithmetic.Operation.{Operation}
use Rattle.source_tree.specs.declared.arithmetic.Operation.TheVariants.{Add, AddGiving}
use Rattle.grammar.specs.Parts.{Part, ◌then◌, ◌or◌, word}
use Rattle.grammar.specs.Reading.{Parser, ◌>>=◌, ◌>>◌, pure, begins_word, expect}
use Rattle.statements.specs.declared.receivers.Target.{Target}
use Rattle.statements.specs.declared.receivers.Target.TheVariants.{Receivers, Giving}
use Rattle.statements.specs.Receivers.{numbers, receivers, target, numbers_reader, receivers_reader, target_reader}

-- ADD num... TO {rd... | num GIVING rd...} (COBOL-85, Nucleus, "The ADD statement")
abbrev pub add_statement : List Operand → Target → Part
add_statement operands to = word w.Add then numbers operands then word w.To then target to

-- ADD num... GIVING rd...
abbrev pub adding_up : List Operand → List Receiver → Part
adding_up operands all = word w.Add then numbers operands then word w.Giving then receivers all

-- ADD num... [TO num] GIVING rd...: the operand after TO is the last
abbrev pub adding_giving : List Operand → List Receiver → Part
adding_giving operands all =
    adding_up operands all or (λ from rest. (others : List Operand) × (last : Operand) × (operands ≡ others ++ last ∷ []) × add_statement others (Giving last all) from rest)

abbrev pub add_operation : List Operand → Target → Operation
add_operation operands (Receivers all) = Add operands all
add_operation operands (Giving last all) = AddGiving (operands ++ last ∷ []) all

unfoldable pub adding_to_reader : List Operand → Parser Operation
adding_to_reader operands = do
  expect w.To
  to ← target_reader
  pure (add_operation operands to)

unfoldable pub adding_up_reader : List Operand → Parser Operation
adding_up_reader operands = do
  expect w.Giving
  all ← receivers_reader
  pure (AddGiving operands all)

unfoldable pub added_reader : List Operand → Parser Operation
added_reader operands i = if begins_word w.To i then adding_to_reader operands i else adding_up_reader operands i

unfoldable pub add_reader : Parser Operation
add_reader = do
  expect w.Add
  operands ← numbers_reader
  added_reader operands
