-- INITIALIZE: its rule, and how it is read.
use Rattle.std.specs.Prelude.{List}
use Rattle.tokens.specs.declared.reserved.Reserved.TheVariants as w
use Rattle.source_tree.specs.declared.reference.Reference.{Reference}
use Rattle.source_tree.specs.declared.data_statement.DataStatement.TheVariants.{Initialize}
use Rattle.source_tree.specs.declared.statement.Verb.{Verb}
use Rattle.source_tree.specs.declared.statement.Verb.TheVariants as verb
use Rattle.source_tree.specs.declared.statement.Statement.{Statement}
use Rattle.grammar.specs.Parts as g
use Rattle.grammar.specs.Parts.{Part, ◌then◌, lookahead, word, begins_name}
use Rattle.grammar.specs.Reading as r
use Rattle.grammar.specs.Reading.{Parser, ◌>>=◌, ◌>>◌, pure, expect}
use Rattle.expressions.specs.References.{reference, reference_reader}

-- INITIALIZE d... (COBOL-85, Nucleus, "The INITIALIZE statement")
abbrev pub initialize_statement : List Reference → Part
initialize_statement receivers = word w.Initialize then g.several reference (lookahead begins_name) receivers

unfoldable pub initialize_reader : Parser (Verb Statement)
initialize_reader = do
  expect w.Initialize
  receivers ← r.several reference_reader begins_name
  pure (verb.DataStatement (Initialize receivers))
