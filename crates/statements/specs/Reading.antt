-- Reading statements, as functions on lists of tokens.
use Rattle.std.specs.Prelude.{ℕ, zero, suc, List, length, Option, None, Some, Err}
use Rattle.source_tree.specs.declared.statement.Verb.{Verb}
use Rattle.source_tree.specs.declared.statement.Statement.{Statement, roll-Statement}
use Rattle.source_tree.specs.declared.program.Sentence.{Sentence}
use Rattle.grammar.specs.declared.fault.Halt.TheVariants.{TooDeep}
use Rattle.grammar.specs.Reading.{Parser, ◌>>=◌, ◌>>◌, pure, refuse, here, period, several}
use Rattle.statements.specs.declared.verb.VerbWord.{VerbWord}
use Rattle.statements.specs.declared.verb.VerbWord.TheVariants as v
use Rattle.statements.specs.Verbs.{verb_at, begins_statement}
use Rattle.statements.specs.Accepting.{accept_reader}
use Rattle.statements.specs.Arithmetic.{arithmetic_reader}
use Rattle.statements.specs.Branching.{conditional_reader}
use Rattle.statements.specs.Continuing.{continue_reader}
use Rattle.statements.specs.Display.{display_reader}
use Rattle.statements.specs.Evaluate.{evaluate_reader}
use Rattle.statements.specs.Exiting.{exit_reader}
use Rattle.statements.specs.Filing.{file_reader}
use Rattle.statements.specs.Initializing.{initialize_reader}
use Rattle.statements.specs.Inspecting.{inspect_reader}
use Rattle.statements.specs.Moving.{move_reader}
use Rattle.statements.specs.Performing.{perform_reader}
use Rattle.statements.specs.Setting.{set_reader}
use Rattle.statements.specs.StopRun.{stop_run_reader}
use Rattle.statements.specs.Stringing.{string_reader}

unfoldable pub statements : {S : Type 0} → Parser S → Parser (List S)
statements statement = several statement begins_statement

-- `depth` is how deep what stands in a statement may still nest, and `statement` reads the statements that stand in it.
module _ (depth : ℕ) (statement : Parser Statement) where
  abbrev pub by_verb : Option VerbWord → Parser (Verb Statement)
  by_verb None = refuse
  by_verb (Some v.Accept) = accept_reader
  by_verb (Some (v.Arithmetic one)) = arithmetic_reader depth (statements statement) one
  by_verb (Some v.Continue) = continue_reader
  by_verb (Some v.Display) = display_reader
  by_verb (Some v.Evaluate) = evaluate_reader depth (statements statement)
  by_verb (Some v.Exit) = exit_reader
  by_verb (Some (v.Filing one)) = file_reader (statements statement) one
  by_verb (Some v.If) = conditional_reader depth (statements statement)
  by_verb (Some v.Initialize) = initialize_reader
  by_verb (Some v.Inspect) = inspect_reader
  by_verb (Some v.Move) = move_reader
  by_verb (Some v.Perform) = perform_reader depth (statements statement)
  by_verb (Some v.Set) = set_reader
  by_verb (Some v.Stop) = stop_run_reader
  by_verb (Some v.String) = string_reader (statements statement)

  -- the verb decides
  unfoldable pub verb : Parser (Verb Statement)
  verb i = by_verb (verb_at i) i

  unfoldable pub line : Parser Statement
  line = do
    place ← here
    one ← verb
    pure (roll-Statement (record { place = place; verb = one }))

-- A statement with at most this many statements in one another, itself among them.
unfoldable pub statement : ℕ → Parser Statement
statement zero = λ i. Err (TooDeep (length i))
statement (suc depth) = line depth (statement depth)

unfoldable pub sentence : ℕ → Parser Sentence
sentence depth = do
  found ← statements (statement depth)
  period
  pure (record { statements = found })
