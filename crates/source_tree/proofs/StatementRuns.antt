-- Each statement is a run, whatever stands in it, and so is each range of paragraphs.
use Rattle.std.proofs.Common.{ℕ, zero, suc, List, [], ◌∷◌}
use Rattle.source_tree.specs.declared.perform_statement.Repetition.{Repetition}
use Rattle.source_tree.specs.declared.perform_statement.Repetition.TheVariants as often
use Rattle.source_tree.specs.declared.perform_statement.PerformStatement.{PerformStatement}
use Rattle.source_tree.specs.declared.statement.Verb.{Verb}
use Rattle.source_tree.specs.declared.statement.Verb.TheVariants as verb
use Rattle.source_tree.specs.declared.statement.Statement.{Statement, out-Statement}
use Rattle.source_tree.specs.declared.program.Paragraph.{Paragraph}
use Rattle.source_tree.specs.Places.{LocatedItem}
use Rattle.source_tree.specs.State.{State, Outcome}
use Rattle.source_tree.specs.Procedures.{Range, within_range}
use Rattle.source_tree.specs.Setting.{Scope, ProgramContext}
use Rattle.source_tree.specs.Performing.{turns, turns_of, turns_in, repeat, body, perform_outcome}
use Rattle.source_tree.specs.Meaning.{data_storage, step, exec, sentence, paragraph, range_outcome, range}
use Rattle.source_tree.proofs.Telling.{itself}
use Rattle.source_tree.proofs.Runs.{IsRun, stop_runs, then_runs, spend_runs, in_turn_runs, value_runs, changing_runs}
use Rattle.source_tree.proofs.Runs.{turns_runs, body_runs, calculating_runs, stringing_runs, texts_runs, finish_runs}
use Rattle.source_tree.proofs.Repeating.{until_runs, branching_runs}
use Rattle.source_tree.proofs.FilingRuns.{filing_runs}

repeat_runs : (items : List LocatedItem) (depth line : ℕ) (phrase : Repetition) (go : State → Outcome) → IsRun go
    → IsRun (repeat items depth line phrase go)
repeat_runs items depth line often.Once go r = r
repeat_runs items depth line (often.Times count) go r = turns_runs line (turns_of count) go r
repeat_runs items depth line (often.CountedBy one) go r =
    value_runs (λ count s. turns line count go s) (λ count. turns_runs line count go r) (turns_in items one)
repeat_runs items depth line (often.Until one) go r = until_runs items line depth one go r

-- the statements in a statement are runs, and so are ranges of paragraphs
module _ {S : Type 0} (run : S → State → Outcome) (range : Range → State → Outcome) (r : (one : S) → IsRun (run one))
    (ranges : (one : Range) → IsRun (range one)) (scope : Scope) where
  performing_runs : (depth line : ℕ) (one : PerformStatement S) → IsRun (perform_outcome run range scope depth line one)
  performing_runs depth line one =
      repeat_runs scope.items depth line one.turns (body run range scope.procedures one.performed)
      (body_runs run range r ranges scope.procedures one.performed)

  step_runs : (depth line : ℕ) (one : Verb S) → IsRun (step scope run range depth line one)
  step_runs depth line (verb.DataStatement one) = changing_runs (data_storage scope.items one)
  step_runs depth line (verb.Arithmetic one) = calculating_runs run r scope.items one
  step_runs depth line (verb.ConditionalStatement one) = branching_runs run r scope.items one
  step_runs depth line (verb.PerformStatement one) = performing_runs depth line one
  step_runs depth line (verb.TextStatement one) = texts_runs scope.items one
  step_runs depth line (verb.StringStatement one) = stringing_runs run r scope.items one
  step_runs depth line (verb.FileStatement one) = filing_runs run r scope.items scope.files one
  step_runs depth line (verb.ControlStatement one) = finish_runs one

pub paragraph_runs : (run : Statement → State → Outcome) → ((one : Statement) → IsRun (run one)) → (one : Paragraph)
    → IsRun (paragraph run one)
paragraph_runs run r one = in_turn_runs (sentence run) (λ some. in_turn_runs run r some.statements) one.sentences

pub ranged_runs : (run : Statement → State → Outcome) → ((one : Statement) → IsRun (run one))
    → (paragraphs : List Paragraph) (one : Range) → IsRun (range_outcome run paragraphs one)
ranged_runs run r paragraphs one = in_turn_runs (paragraph run) (paragraph_runs run r) (within_range one paragraphs)

module _ (around : ProgramContext) where
  pub exec_runs : (depth : ℕ) (one : Statement) → IsRun (exec around depth one)
  exec_runs zero one = record { falls = λ s. tt; grows = λ s. itself s; alike = λ k s. itself s }
  exec_runs (suc depth) one =
      let line = (out-Statement one).place.line in
      let verb = (out-Statement one).verb in
      let run = exec around depth in
      let range = range_outcome run around.paragraphs in
      spend_runs line (step around.scope run range depth line verb)
      (step_runs run range (exec_runs depth) (ranged_runs run (exec_runs depth) around.paragraphs) around.scope depth
      line verb)

  pub range_runs : (depth : ℕ) (all : List Paragraph) (more : ℕ) → IsRun (range (exec around depth) all more)
  range_runs depth [] more = stop_runs
  range_runs depth (one ∷ rest) zero = paragraph_runs (exec around depth) (exec_runs depth) one
  range_runs depth (one ∷ rest) (suc more) =
      then_runs (paragraph (exec around depth) one) (range (exec around depth) rest more)
      (paragraph_runs (exec around depth) (exec_runs depth) one) (range_runs depth rest more)
