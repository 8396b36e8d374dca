-- EXIT: its rule, and how it is read.
use Rattle.tokens.specs.declared.reserved.Reserved.TheVariants as w
use Rattle.source_tree.specs.declared.control_statement.ControlStatement.TheVariants as ending
use Rattle.source_tree.specs.declared.statement.Verb.{Verb}
use Rattle.source_tree.specs.declared.statement.Verb.TheVariants as verb
use Rattle.source_tree.specs.declared.statement.Statement.{Statement}
use Rattle.grammar.specs.Parts.{Part, word}
use Rattle.grammar.specs.Reading.{Parser, ◌>>◌, pure, expect}

-- EXIT (COBOL-85, Nucleus, "The EXIT statement"); it may stand wherever a statement may (own choice)
abbrev pub exit_statement : Part
exit_statement = word w.Exit

unfoldable pub exit_reader : Parser (Verb Statement)
exit_reader = do
  expect w.Exit
  pure (verb.ControlStatement ending.Exit)
