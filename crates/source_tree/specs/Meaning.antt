-- What a program does, defined on its tree. Control runs from the first statement to the end of the last paragraph, which acts as
-- STOP RUN and uses none of the budget (own choice; COBOL-85, Nucleus, "Procedure division execution").
use Rattle.std.specs.Prelude.{ℕ, zero, suc, map, List, [], ◌∷◌, length}
use Rattle.station.specs.State.{Event}
use Rattle.source_tree.specs.declared.control_statement.ControlStatement.{ControlStatement}
use Rattle.source_tree.specs.declared.control_statement.ControlStatement.TheVariants as ending
use Rattle.source_tree.specs.declared.data_statement.DataStatement.{DataStatement}
use Rattle.source_tree.specs.declared.data_statement.DataStatement.TheVariants.{Move, Initialize, Set}
use Rattle.source_tree.specs.declared.statement.Verb.{Verb}
use Rattle.source_tree.specs.declared.statement.Verb.TheVariants as verb
use Rattle.source_tree.specs.declared.statement.Statement.{Statement, out-Statement}
use Rattle.source_tree.specs.declared.program.Sentence.{Sentence}
use Rattle.source_tree.specs.declared.program.Paragraph.{Paragraph}
use Rattle.source_tree.specs.declared.program.Program.{Program}
use Rattle.source_tree.specs.Given.{RunInput}
use Rattle.source_tree.specs.Places.{LocatedItem}
use Rattle.source_tree.specs.Storage.{Storage}
use Rattle.source_tree.specs.Evaluated.{Evaluation}
use Rattle.records.specs.Files.{Files}
use Rattle.records.specs.Connector.{Connector, closed_connector}
use Rattle.source_tree.specs.declared.select.Select.{Select}
use Rattle.source_tree.specs.Records.{program_areas}
use Rattle.source_tree.specs.State.{State, End, Stopped, Budget, Outcome, Done, Over, all_files, then_do, in_turn, spend, change_outcome}
use Rattle.source_tree.specs.Procedures.{Range, within_range}
use Rattle.source_tree.specs.Setting.{Scope, ProgramContext, paragraphs, context_of}
use Rattle.source_tree.specs.Moving.{move}
use Rattle.source_tree.specs.Initializing.{initialize, storage_after_set}
use Rattle.source_tree.specs.Arithmetic.{arithmetic_outcome}
use Rattle.source_tree.specs.Branching.{conditional_outcome}
use Rattle.source_tree.specs.Performing.{perform_outcome}
use Rattle.source_tree.specs.Texts.{texts}
use Rattle.source_tree.specs.Stringing.{string_outcome}
use Rattle.source_tree.specs.Filing.{file_outcome}

-- statements that put values into items
abbrev pub data_storage : List LocatedItem → DataStatement → Storage → Evaluation Storage
data_storage items (Move sender receivers) storage = move items sender receivers storage
data_storage items (Initialize receivers) storage = initialize items receivers storage
data_storage items (Set conditions) storage = storage_after_set items conditions storage

abbrev pub finish : ControlStatement → State → Outcome
finish ending.StopRun s = Over Stopped s
finish ending.Continue s = Done s
finish ending.Exit s = Done s

-- One statement at this line after it has used one of the budget, by its family. `run` runs the statements that stand in it, and `range`
-- the paragraphs of a range; a loop that goes on until a condition is true has at most `depth` turns.
abbrev pub step : Scope → {S : Type 0} → (S → State → Outcome) → (Range → State → Outcome) → ℕ → ℕ → Verb S → State → Outcome
step scope run range depth line (verb.DataStatement one) s = change_outcome (data_storage scope.items one) s
step scope run range depth line (verb.Arithmetic one) s = arithmetic_outcome scope.items run one s
step scope run range depth line (verb.ConditionalStatement one) s = conditional_outcome scope.items run one s
step scope run range depth line (verb.PerformStatement one) s = perform_outcome run range scope depth line one s
step scope run range depth line (verb.TextStatement one) s = texts scope.items one s
step scope run range depth line (verb.StringStatement one) s = string_outcome scope.items run one s
step scope run range depth line (verb.FileStatement one) s = file_outcome scope.items scope.files run one s
step scope run range depth line (verb.ControlStatement one) s = finish one s

abbrev pub sentence : (Statement → State → Outcome) → Sentence → State → Outcome
sentence run one s = in_turn run one.statements s

abbrev pub paragraph : (Statement → State → Outcome) → Paragraph → State → Outcome
paragraph run one s = in_turn (sentence run) one.sentences s

-- the paragraphs of a range, in order
abbrev pub range_outcome : (Statement → State → Outcome) → List Paragraph → Range → State → Outcome
range_outcome run paragraphs range s = in_turn (paragraph run) (within_range range paragraphs) s

-- A statement, with at most `depth` statements and turns in one another, itself among them. Each of these has used one of the
-- budget, so that a depth above the budget is never used up.
abbrev pub exec : ProgramContext → ℕ → Statement → State → Outcome
exec around zero one s = Over Budget s
exec around (suc depth) one s =
    spend (out-Statement one).place.line s
    (step around.scope (exec around depth) (range_outcome (exec around depth) around.paragraphs) depth (out-Statement one).place.line (out-Statement one).verb)

-- paragraphs from the first of the list on: that one and so many more; the end of the last one of all stops
abbrev pub range : (Statement → State → Outcome) → List Paragraph → ℕ → State → Outcome
range run [] more s = Over Stopped s
range run (one ∷ rest) zero s = paragraph run one s
range run (one ∷ rest) (suc more) s = then_do (paragraph run one s) (range run rest more)

-- all files are closed at the start
abbrev pub closed_connectors : List Select → List Connector
closed_connectors selects = map (λ one. closed_connector) selects

abbrev pub start : Program → RunInput → State
start program given = record {
  budget = given.budget;
  line = 0;
  day = given.day;
  lines = given.lines;
  storage = program_areas program;
  files = given.files;
  connectors = closed_connectors program.selects;
  earlier = [];
  events = [];
}

-- a run of the program from this state, with nesting up to `depth`
abbrev pub run_from : ℕ → Program → State → Outcome
run_from depth program s = range (exec (context_of program) depth) (paragraphs program) (length (paragraphs program)) s

-- What is told of a run: its events, its end, the console lines that it leaves, and the files at the start and after each file
-- statement. Files that are open at the end are closed silently, which is no file statement (own choice).
pub record Run : Type 0 where
  pub events : List Event
  pub end : End
  pub lines : List (List ℕ)
  pub files : List Files

-- a program that is done has stopped
abbrev pub run_of : Outcome → Run
run_of (Done s) = record { events = s.events; end = Stopped; lines = s.lines; files = all_files s }
run_of (Over end s) = record { events = s.events; end = end; lines = s.lines; files = all_files s }

-- the program's run with what it is given
abbrev pub meaning : Program → RunInput → Run
meaning program given = run_of (run_from (suc given.budget) program (start program given))
