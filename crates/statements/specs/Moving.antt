-- MOVE: its rule, and how it is read.
use Rattle.std.specs.Prelude.{List}
use Rattle.tokens.specs.declared.reserved.Reserved.TheVariants as w
use Rattle.source_tree.specs.declared.expression.Operand.{Operand}
use Rattle.source_tree.specs.declared.reference.Reference.{Reference}
use Rattle.source_tree.specs.declared.data_statement.DataStatement.TheVariants.{Move}
use Rattle.source_tree.specs.declared.statement.Verb.{Verb}
use Rattle.source_tree.specs.declared.statement.Verb.TheVariants as verb
use Rattle.source_tree.specs.declared.statement.Statement.{Statement}
use Rattle.grammar.specs.Parts as g
use Rattle.grammar.specs.Parts.{Part, ◌then◌, lookahead, word, begins_name}
use Rattle.grammar.specs.Reading as r
use Rattle.grammar.specs.Reading.{Parser, ◌>>=◌, ◌>>◌, pure, expect}
use Rattle.expressions.specs.Operands.{operand, operand_reader}
use Rattle.expressions.specs.References.{reference, reference_reader}

-- MOVE x TO d... (COBOL-85, Nucleus, "The MOVE statement")
abbrev pub move_statement : Operand → List Reference → Part
move_statement sender receivers = word w.Move then operand sender then word w.To then g.several reference (lookahead begins_name) receivers

unfoldable pub move_reader : Parser (Verb Statement)
move_reader = do
  expect w.Move
  sender ← operand_reader
  expect w.To
  receivers ← r.several reference_reader begins_name
  pure (verb.DataStatement (Move sender receivers))
