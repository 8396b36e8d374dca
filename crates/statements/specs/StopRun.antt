-- STOP RUN: its rule, and how it is read.
use Rattle.tokens.specs.declared.reserved.Reserved.TheVariants as w
use Rattle.source_tree.specs.declared.control_statement.ControlStatement.TheVariants as ending
use Rattle.source_tree.specs.declared.statement.Verb.{Verb}
use Rattle.source_tree.specs.declared.statement.Verb.TheVariants as verb
use Rattle.source_tree.specs.declared.statement.Statement.{Statement}
use Rattle.grammar.specs.Parts.{Part, ◌then◌, word}
use Rattle.grammar.specs.Reading.{Parser, ◌>>◌, pure, expect}

-- STOP RUN (COBOL-85, Nucleus, "The STOP statement")
abbrev pub stop_run : Part
stop_run = word w.Stop then word w.Run

unfoldable pub stop_run_reader : Parser (Verb Statement)
stop_run_reader = do
  expect w.Stop
  expect w.Run
  pure (verb.ControlStatement ending.StopRun)
