-- SET of condition names: its rule, and how it is read.
use Rattle.std.specs.Prelude.{List}
use Rattle.tokens.specs.declared.reserved.Reserved.TheVariants as w
use Rattle.source_tree.specs.declared.reference.Reference.{Reference}
use Rattle.source_tree.specs.declared.data_statement.DataStatement.TheVariants.{Set}
use Rattle.source_tree.specs.declared.statement.Verb.{Verb}
use Rattle.source_tree.specs.declared.statement.Verb.TheVariants as verb
use Rattle.source_tree.specs.declared.statement.Statement.{Statement}
use Rattle.grammar.specs.Parts as g
use Rattle.grammar.specs.Parts.{Part, ◌then◌, lookahead, word, begins_name}
use Rattle.grammar.specs.Reading as r
use Rattle.grammar.specs.Reading.{Parser, ◌>>=◌, ◌>>◌, pure, expect}
use Rattle.expressions.specs.References.{reference, reference_reader}

-- SET d... TO TRUE (COBOL-85, Nucleus, "The SET statement")
abbrev pub set_statement : List Reference → Part
set_statement conditions = word w.Set then g.several reference (lookahead begins_name) conditions then word w.To then word w.True

unfoldable pub set_reader : Parser (Verb Statement)
set_reader = do
  expect w.Set
  conditions ← r.several reference_reader begins_name
  expect w.To
  expect w.True
  pure (verb.DataStatement (Set conditions))
