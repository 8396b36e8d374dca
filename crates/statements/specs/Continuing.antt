-- CONTINUE: its rule, and how it is read.
use Rattle.tokens.specs.declared.reserved.Reserved.TheVariants as w
use Rattle.source_tree.specs.declared.control_statement.ControlStatement.TheVariants as ending
use Rattle.source_tree.specs.declared.statement.Verb.{Verb}
use Rattle.source_tree.specs.declared.statement.Verb.TheVariants as verb
use Rattle.source_tree.specs.declared.statement.Statement.{Statement}
use Rattle.grammar.specs.Parts.{Part, word}
use Rattle.grammar.specs.Reading.{Parser, ◌>>◌, pure, expect}

-- CONTINUE (COBOL-85, Nucleus, "The CONTINUE statement")
abbrev pub continue_statement : Part
continue_statement = word w.Continue

unfoldable pub continue_reader : Parser (Verb Statement)
continue_reader = do
  expect w.Continue
  pure (verb.ControlStatement ending.Continue)
