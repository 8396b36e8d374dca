-- Which tokens spell which statement: one line for each verb, whose rule is in a file of its own.
use Rattle.std.specs.Prelude.{ℕ, zero, suc, true, false, List}
use Rattle.source_tree.specs.declared.data_statement.DataStatement.{DataStatement}
use Rattle.source_tree.specs.declared.data_statement.DataStatement.TheVariants.{Move, Initialize, Set}
use Rattle.source_tree.specs.declared.text_statement.TextStatement.{TextStatement}
use Rattle.source_tree.specs.declared.text_statement.TextStatement.TheVariants as text
use Rattle.source_tree.specs.declared.control_statement.ControlStatement.{ControlStatement}
use Rattle.source_tree.specs.declared.control_statement.ControlStatement.TheVariants as ending
use Rattle.source_tree.specs.declared.statement.Verb.{Verb}
use Rattle.source_tree.specs.declared.statement.Verb.TheVariants as verb
use Rattle.source_tree.specs.declared.statement.Statement.{Statement, out-Statement}
use Rattle.source_tree.specs.declared.program.Sentence.{Sentence}
use Rattle.grammar.specs.Parts.{Part, ◌then◌, several, lookahead, here, period}
use Rattle.statements.specs.Verbs.{begins_statement}
use Rattle.statements.specs.Accepting.{accept_statement}
use Rattle.statements.specs.Arithmetic.{arithmetic}
use Rattle.statements.specs.Branching.{conditional_statement}
use Rattle.statements.specs.Continuing.{continue_statement}
use Rattle.statements.specs.Display.{display}
use Rattle.statements.specs.Exiting.{exit_statement}
use Rattle.statements.specs.Filing.{file_statement}
use Rattle.statements.specs.Initializing.{initialize_statement}
use Rattle.statements.specs.Inspecting.{inspect_statement, convert_statement}
use Rattle.statements.specs.Moving.{move_statement}
use Rattle.statements.specs.Performing.{perform_statement}
use Rattle.statements.specs.Setting.{set_statement}
use Rattle.statements.specs.StopRun.{stop_run}
use Rattle.statements.specs.Stringing.{string_statement}

-- how many statements may stand in one another, the outermost among them (own choice)
abbrev pub max_nesting : ℕ
max_nesting = 64

abbrev pub moving_line : DataStatement → Part
moving_line (Move sender receivers) = move_statement sender receivers
moving_line (Initialize receivers) = initialize_statement receivers
moving_line (Set conditions) = set_statement conditions

abbrev pub text_line : TextStatement → Part
text_line (text.Display operands advancing) = display operands advancing
text_line (text.Accept receiver) = accept_statement receiver true
text_line (text.AcceptDate receiver) = accept_statement receiver false
text_line (text.Inspect one) = inspect_statement one
text_line (text.Convert one) = convert_statement one

abbrev pub ending_line : ControlStatement → Part
ending_line ending.StopRun = stop_run
ending_line ending.Continue = continue_statement
ending_line ending.Exit = exit_statement

abbrev pub statements : (Statement → Part) → List Statement → Part
statements statement = several statement (lookahead begins_statement)

-- `depth` is how deep what stands in a statement may still nest, and `statement` spells the statements that stand in
-- it.
module _ (depth : ℕ) (statement : Statement → Part) where
  -- Each optional part is left out only where its words do not stand, and each list ends only where no more of it can
  -- begin, so that what stands belongs to the innermost statement that can take it (COBOL-85, Nucleus, "Statements").
  abbrev pub verb_line : Verb Statement → Part
  verb_line (verb.DataStatement one) = moving_line one
  verb_line (verb.Arithmetic one) = arithmetic depth (statements statement) one
  verb_line (verb.ConditionalStatement one) = conditional_statement depth (statements statement) one
  verb_line (verb.PerformStatement one) = perform_statement depth (statements statement) one
  verb_line (verb.TextStatement one) = text_line one
  verb_line (verb.StringStatement one) = string_statement (statements statement) one
  verb_line (verb.FileStatement one) = file_statement (statements statement) one
  verb_line (verb.ControlStatement one) = ending_line one

  -- A statement stands where its verb does (own choice).
  abbrev pub line : Statement → Part
  line one = here (out-Statement one).place then verb_line (out-Statement one).verb

-- A statement with at most this many statements in one another, itself among them.
abbrev pub statement : ℕ → Statement → Part
statement zero one = λ i rest. ⊥
statement (suc depth) one = line depth (statement depth) one

-- Statements and a period, which closes them all (COBOL-85, Nucleus, "Sentences").
abbrev pub sentence : ℕ → Sentence → Part
sentence depth one = statements (statement depth) one.statements then period
