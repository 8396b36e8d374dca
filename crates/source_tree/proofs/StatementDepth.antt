-- A depth above the budget changes nothing.
use Rattle.std.proofs.Common.{◌≡◌, ℕ, zero, suc, ◌<◌, ◌≤◌, List, [], ◌∷◌, refl, arith}
use Rattle.std.specs.Prelude.{Ok, Err}
use Rattle.source_tree.specs.declared.perform_statement.Repetition.{Repetition}
use Rattle.source_tree.specs.declared.perform_statement.Repetition.TheVariants as often
use Rattle.source_tree.specs.declared.statement.Verb.{Verb}
use Rattle.source_tree.specs.declared.statement.Verb.TheVariants as verb
use Rattle.source_tree.specs.declared.statement.Statement.{Statement, out-Statement}
use Rattle.source_tree.specs.declared.program.Paragraph.{Paragraph}
use Rattle.source_tree.specs.Places.{LocatedItem}
use Rattle.source_tree.specs.Evaluated.{Evaluation}
use Rattle.source_tree.specs.State.{State, Outcome, with_value}
use Rattle.source_tree.specs.Procedures.{Range, within_range}
use Rattle.source_tree.specs.Setting.{Scope, ProgramContext}
use Rattle.source_tree.specs.Performing.{turns, turns_of, turns_in, repeat, body}
use Rattle.source_tree.specs.Meaning.{step, exec, sentence, paragraph, range_outcome, range}
use Rattle.source_tree.proofs.Runs.{IsRun, in_turn_runs, body_runs}
use Rattle.source_tree.proofs.Depth.{Agrees, then_agrees, spend_same, in_turn_agrees, turns_agrees, body_agrees}
use Rattle.source_tree.proofs.Depth.{calculating_agrees, stringing_agrees}
use Rattle.source_tree.proofs.Repeating.{until_agrees, branching_agrees}
use Rattle.source_tree.proofs.FilingRuns.{filing_agrees}
use Rattle.source_tree.proofs.StatementRuns.{exec_runs, paragraph_runs, ranged_runs}

-- turns of which the number is found first
turned_same : (n line : ℕ) (go other : State → Outcome) → IsRun go → Agrees n go other → (e : Evaluation ℕ) (s : State)
    → s.budget ≤ n
    → with_value e s (λ count. turns line count go s) ≡ with_value e s (λ count. turns line count other s)
turned_same n line go other r a (Ok count) s le = (turns_agrees n line count go other r a).by s le
turned_same n line go other r a (Err fault) s le = refl

-- the turns of a PERFORM, with two depths above the budget
repeat_agrees : (items : List LocatedItem) (n d e line : ℕ) (phrase : Repetition) (go other : State → Outcome) → n < d
    → n < e → IsRun go → Agrees n go other
    → Agrees n (repeat items d line phrase go) (repeat items e line phrase other)
repeat_agrees items n d e line often.Once go other below under r a = a
repeat_agrees items n d e line (often.Times count) go other below under r a =
    turns_agrees n line (turns_of count) go other r a
repeat_agrees items n d e line (often.CountedBy one) go other below under r a =
    record { by = λ s le. turned_same n line go other r a (turns_in items one s.storage) s le }
repeat_agrees items n d e line (often.Until one) go other below under r a =
    until_agrees items n d e line one go other below under r a

-- the statements in a statement run with less budget than it began with, and so do the paragraphs of a range
module _ {S : Type 0} (n d e : ℕ) (below : n < d) (under : n < e) (run other : S → State → Outcome)
    (r : (one : S) → IsRun (run one)) (a : (one : S) → Agrees n (run one) (other one))
    (range others : Range → State → Outcome) (rr : (one : Range) → IsRun (range one))
    (ranges : (one : Range) → Agrees n (range one) (others one)) (scope : Scope) where
  step_same : (line : ℕ) (one : Verb S)
      → Agrees n (step scope run range d line one) (step scope other others e line one)
  step_same line (verb.DataStatement one) = record { by = λ s le. refl }
  step_same line (verb.Arithmetic one) = calculating_agrees n run other r a scope.items one
  step_same line (verb.ConditionalStatement one) = branching_agrees n run other r a scope.items one
  step_same line (verb.PerformStatement one) =
      repeat_agrees scope.items n d e line one.turns (body run range scope.procedures one.performed)
      (body other others scope.procedures one.performed) below under
      (body_runs run range r rr scope.procedures one.performed)
      (body_agrees n run other r a range others ranges scope.procedures one.performed)
  step_same line (verb.TextStatement one) = record { by = λ s le. refl }
  step_same line (verb.StringStatement one) = stringing_agrees n run other r a scope.items one
  step_same line (verb.FileStatement one) = filing_agrees n run other r a scope.items scope.files one
  step_same line (verb.ControlStatement one) = record { by = λ s le. refl }

-- paragraphs, where statements agree
module _ (n : ℕ) (run other : Statement → State → Outcome) (r : (one : Statement) → IsRun (run one))
    (a : (one : Statement) → Agrees n (run one) (other one)) where
  paragraph_agrees : (one : Paragraph) → Agrees n (paragraph run one) (paragraph other one)
  paragraph_agrees one =
      in_turn_agrees n (sentence run) (sentence other) (λ some. in_turn_runs run r some.statements)
      (λ some. in_turn_agrees n run other r a some.statements) one.sentences

  ranged_agrees : (paragraphs : List Paragraph) (one : Range)
      → Agrees n (range_outcome run paragraphs one) (range_outcome other paragraphs one)
  ranged_agrees paragraphs one = in_turn_agrees n (paragraph run) (paragraph other) (paragraph_runs run r)
      paragraph_agrees (within_range one paragraphs)

  -- the end of the last one stops
  pub range_agrees : (all : List Paragraph) (more : ℕ) → Agrees n (range run all more) (range other all more)
  range_agrees [] more = record { by = λ s le. refl }
  range_agrees (one ∷ rest) zero = paragraph_agrees one
  range_agrees (one ∷ rest) (suc more) =
      then_agrees n (paragraph run one) (paragraph other one) (range run rest more) (range other rest more)
      (paragraph_runs run r one) (paragraph_agrees one) (range_agrees rest more)

module _ (around : ProgramContext) where
  -- two depths above the budget are the same
  pub exec_same : (d e : ℕ) (one : Statement) (s : State) → s.budget < d → s.budget < e
      → exec around d one s ≡ exec around e one s
  exec_same zero e one s below under = absurd (omega arith)
  exec_same (suc d) zero one s below under = absurd (omega arith)
  exec_same (suc d) (suc e) one s below under =
      let line = (out-Statement one).place.line in
      let verb = (out-Statement one).verb in
      let run = exec around d in
      let other = exec around e in
      let range = range_outcome run around.paragraphs in
      let others = range_outcome other around.paragraphs in
      spend_same s.budget line s (step around.scope run range d line verb) (step around.scope other others e line verb)
      (λ n lt.
      let agrees : (inner : Statement) → Agrees n (run inner) (other inner) =
      λ inner. record { by = λ t le. exec_same d e inner t (omega arith) (omega arith) } in
      (step_same n d e (omega arith) (omega arith) run other (exec_runs around d) agrees range others
      (ranged_runs run (exec_runs around d) around.paragraphs)
      (ranged_agrees n run other (exec_runs around d) agrees around.paragraphs) around.scope line verb).by
      (record s { budget = n; line = line }) (omega arith))

  pub exec_agrees : (n d e : ℕ) → n < d → n < e → (one : Statement) → Agrees n (exec around d one) (exec around e one)
  exec_agrees n d e below under one = record { by = λ s le. exec_same d e one s (omega arith) (omega arith) }
