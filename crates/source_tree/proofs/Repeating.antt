-- Turns of UNTIL and the ways of an IF are runs, and two depths above the budget give the same.
use Rattle.std.proofs.Common.{◌≡◌, ℕ, zero, suc, ◌<◌, ◌≤◌, List, [], ◌∷◌, refl, arith}
use Rattle.std.specs.Prelude.{Bool, true, false, Option, Ok, Err}
use Rattle.source_tree.specs.declared.until.TestTime.{TestTime}
use Rattle.source_tree.specs.declared.until.TestTime.TheVariants.{Before, After}
use Rattle.source_tree.specs.declared.until.Until.{Until}
use Rattle.source_tree.specs.declared.conditional_statement.ConditionalStatement.{ConditionalStatement}
use Rattle.source_tree.specs.declared.conditional_statement.ConditionalStatement.TheVariants as branch
use Rattle.source_tree.specs.declared.evaluate_statement.Subject.{Subject}
use Rattle.source_tree.specs.declared.evaluate_statement.Selected.{Selected}
use Rattle.source_tree.specs.declared.evaluate_statement.Evaluate.{Evaluate}
use Rattle.source_tree.specs.Places.{LocatedItem}
use Rattle.source_tree.specs.Evaluated.{Evaluation}
use Rattle.source_tree.specs.Conditions.{ConditionValue, holds}
use Rattle.source_tree.specs.Branching.{way, conditional_outcome}
use Rattle.source_tree.specs.Evaluate.{selected_condition, one_of, take_subjects, selection_outcome, evaluate_outcome}
use Rattle.source_tree.specs.Until.{done_if, unless_true, until_before, until_after, until_from, vary_begin, vary_on}
use Rattle.source_tree.specs.Until.{until}
use Rattle.source_tree.specs.State.{State, Budget, Outcome, Over, then_do, in_turn, spend, with_value, change_outcome}
use Rattle.source_tree.proofs.Telling.{itself}
use Rattle.source_tree.proofs.Runs.{IsRun, done_runs, then_runs, spend_runs, value_runs, changing_runs, in_turn_runs}
use Rattle.source_tree.proofs.Runs.{in_phrase_runs}
use Rattle.source_tree.proofs.Depth.{Agrees, then_agrees, spend_same, in_turn_agrees, in_phrase_agrees}

-- no turn is left
none_runs : IsRun (Over Budget)
none_runs = record { falls = λ s. tt; grows = λ s. itself s; alike = λ k s. itself s }

done_if_runs : (go : State → Outcome) → IsRun go → (truth : Bool) → IsRun (λ s. done_if go s truth)
done_if_runs go r true = done_runs
done_if_runs go r false = r

pub unless_true_runs : (test : ConditionValue) (go : State → Outcome) → IsRun go → IsRun (unless_true test go)
unless_true_runs test go r = value_runs (λ truth s. done_if go s truth) (done_if_runs go r) test

until_before_runs : (line depth : ℕ) (test : ConditionValue) (onward_run go : State → Outcome) → IsRun onward_run
    → IsRun go → IsRun (until_before line depth test onward_run go)
until_before_runs line zero test next go n r = none_runs
until_before_runs line (suc depth) test next go n r =
    let again = until_before line depth test next go in
    let later = λ (s : State). then_do (next s) again in
    let turn = λ (s : State). then_do (go s) later in
    unless_true_runs test (λ s. spend line s turn)
    (spend_runs line turn
    (then_runs go later r (then_runs next again n (until_before_runs line depth test next go n r))))

until_after_runs : (line depth : ℕ) (test : ConditionValue) (onward_run go : State → Outcome) → IsRun onward_run
    → IsRun go → IsRun (until_after line depth test onward_run go)
until_after_runs line zero test next go n r = none_runs
until_after_runs line (suc depth) test next go n r =
    let again = until_after line depth test next go in
    let later = λ (s : State). then_do (next s) again in
    let turn = λ (s : State). then_do (go s) (unless_true test later) in
    spend_runs line turn
    (then_runs go (unless_true test later) r
    (unless_true_runs test later (then_runs next again n (until_after_runs line depth test next go n r))))

pub turned_runs : (when : TestTime) (line depth : ℕ) (test : ConditionValue) (onward_run go : State → Outcome)
    → IsRun onward_run → IsRun go → IsRun (until_from when line depth test onward_run go)
turned_runs Before = until_before_runs
turned_runs After = until_after_runs

-- the turns of a PERFORM
pub until_runs : (items : List LocatedItem) (line depth : ℕ) (one : Until) (go : State → Outcome) → IsRun go
    → IsRun (until items line depth one go)
until_runs items line depth one go r =
    let next = change_outcome (vary_on items one.varying) in
    let loop = until_from one.test line depth (holds items one.condition) next go in
    then_runs (change_outcome (vary_begin items one.varying)) loop (changing_runs (vary_begin items one.varying))
    (turned_runs one.test line depth (holds items one.condition) next go (changing_runs (vary_on items one.varying)) r)

one_of_runs : (first second : State → Outcome) → IsRun first → IsRun second → (truth : Bool)
    → IsRun (λ s. one_of first second truth s)
one_of_runs first second f g true = f
one_of_runs first second f g false = g

module _ {S : Type 0} (run : S → State → Outcome) (r : (one : S) → IsRun (run one)) where
  way_runs : (statements : List S) (otherwise : Option (List S)) (truth : Bool)
      → IsRun (way run statements otherwise truth)
  way_runs statements otherwise true = in_turn_runs run r statements
  way_runs statements otherwise false = in_phrase_runs run r otherwise

  selecting_runs :
      (items : List LocatedItem) (subjects : List Subject) (selected : List (Selected S)) (other : Option (List S))
      → IsRun (selection_outcome items run subjects selected other)
  selecting_runs items subjects [] other = in_phrase_runs run r other
  selecting_runs items subjects (one ∷ more) other =
      value_runs
      (λ truth s. one_of (in_turn run one.statements) (selection_outcome items run subjects more other) truth s)
      (one_of_runs (in_turn run one.statements) (selection_outcome items run subjects more other)
      (in_turn_runs run r one.statements) (selecting_runs items subjects more other))
      (holds items (selected_condition items subjects one))

  evaluating_runs : (items : List LocatedItem) (one : Evaluate S) → IsRun (evaluate_outcome items run one)
  evaluating_runs items one =
      value_runs (λ (_ : Unit {0}) s. selection_outcome items run one.subjects one.selected one.other s)
      (λ _. selecting_runs items one.subjects one.selected one.other) (take_subjects items one.subjects)

  pub branching_runs : (items : List LocatedItem) (one : ConditionalStatement S)
      → IsRun (conditional_outcome items run one)
  branching_runs items (branch.If condition statements otherwise) =
      value_runs (λ truth s. way run statements otherwise truth s) (way_runs statements otherwise)
      (holds items condition)
  branching_runs items (branch.Evaluate one) = evaluating_runs items one

-- ---- two depths

-- A test that is made of storage, and what goes on.
unless_true_same : (e : Evaluation Bool) (go other : State → Outcome) (s : State) → go s ≡ other s
    → with_value e s (done_if go s) ≡ with_value e s (done_if other s)
unless_true_same (Ok true) go other s same = refl
unless_true_same (Ok false) go other s same = same
unless_true_same (Err fault) go other s same = refl

unless_true_agrees : (n : ℕ) (test : ConditionValue) (go other : State → Outcome) → Agrees n go other
    → Agrees n (unless_true test go) (unless_true test other)
unless_true_agrees n test go other a = record { by = λ s le. unless_true_same (test s.storage) go other s (a.by s le) }

-- Turns with two depths above the budget.
module _ (test : ConditionValue) (line : ℕ) (next : State → Outcome) (nr : IsRun next) where
  -- one turn, where those after it agree with less
  before_step : (n d e : ℕ) (go other : State → Outcome) → IsRun go → Agrees n go other
      → ((left : ℕ) → left < n → Agrees left (until_before line d test next go) (until_before line e test next other))
      → Agrees n (until_before line (suc d) test next go) (until_before line (suc e) test next other)
  before_step n d e go other r a h =
      let again = until_before line d test next go in
      let more = until_before line e test next other in
      let turn = λ (s : State). then_do (go s) (λ t. then_do (next t) again) in
      let turned = λ (s : State). then_do (other s) (λ t. then_do (next t) more) in
      unless_true_agrees n test (λ s. spend line s turn) (λ s. spend line s turned) (record {
        by = λ s le. spend_same s.budget line s turn turned (λ left lt.
            (then_agrees left go other (λ t. then_do (next t) again) (λ t. then_do (next t) more) r
            (record { by = λ t within. a.by t (omega arith) })
            (then_agrees left next next again more nr (record { by = λ t within. refl }) (h left (omega arith)))).by
            (record s { budget = left; line = line }) (omega arith));
      })

  until_before_agrees : (n d e : ℕ) (go other : State → Outcome) → IsRun go → Agrees n go other → n < d → n < e
      → Agrees n (until_before line d test next go) (until_before line e test next other)
  until_before_agrees n zero e go other r a below under = absurd (omega arith)
  until_before_agrees n (suc d) zero go other r a below under = absurd (omega arith)
  until_before_agrees n (suc d) (suc e) go other r a below under =
      before_step n d e go other r a (λ left lt. until_before_agrees left d e go other r
      (record { by = λ s le. a.by s (omega arith) }) (omega arith) (omega arith))

  after_step : (n d e : ℕ) (go other : State → Outcome) → IsRun go → Agrees n go other
      → ((left : ℕ) → left < n → Agrees left (until_after line d test next go) (until_after line e test next other))
      → Agrees n (until_after line (suc d) test next go) (until_after line (suc e) test next other)
  after_step n d e go other r a h =
      let again = until_after line d test next go in
      let more = until_after line e test next other in
      let later = λ (t : State). then_do (next t) again in
      let latter = λ (t : State). then_do (next t) more in
      let turn = λ (s : State). then_do (go s) (unless_true test later) in
      let turned = λ (s : State). then_do (other s) (unless_true test latter) in
      record {
        by = λ s le. spend_same s.budget line s turn turned (λ left lt.
            (then_agrees left go other (unless_true test later) (unless_true test latter) r
            (record { by = λ t within. a.by t (omega arith) })
            (unless_true_agrees left test later latter (then_agrees left next next again more nr
            (record { by = λ t within. refl }) (h left (omega arith))))).by
            (record s { budget = left; line = line }) (omega arith));
      }

  until_after_agrees : (n d e : ℕ) (go other : State → Outcome) → IsRun go → Agrees n go other → n < d → n < e
      → Agrees n (until_after line d test next go) (until_after line e test next other)
  until_after_agrees n zero e go other r a below under = absurd (omega arith)
  until_after_agrees n (suc d) zero go other r a below under = absurd (omega arith)
  until_after_agrees n (suc d) (suc e) go other r a below under =
      after_step n d e go other r a (λ left lt.
      until_after_agrees left d e go other r (record { by = λ s le. a.by s (omega arith) }) (omega arith) (omega arith))

  turned_agrees : (when : TestTime) (n d e : ℕ) (go other : State → Outcome) → IsRun go → Agrees n go other → n < d
      → n < e
      → Agrees n (until_from when line d test next go) (until_from when line e test next other)
  turned_agrees Before = until_before_agrees
  turned_agrees After = until_after_agrees

-- the turns of a PERFORM
pub until_agrees : (items : List LocatedItem) (n d e line : ℕ) (one : Until) (go other : State → Outcome) → n < d
    → n < e → IsRun go → Agrees n go other
    → Agrees n (until items line d one go) (until items line e one other)
until_agrees items n d e line one go other below under r a =
    let test = holds items one.condition in
    let next = change_outcome (vary_on items one.varying) in
    let first = change_outcome (vary_begin items one.varying) in
    then_agrees n first first (until_from one.test line d test next go) (until_from one.test line e test next other)
    (changing_runs (vary_begin items one.varying)) (record { by = λ s le. refl })
    (turned_agrees test line next (changing_runs (vary_on items one.varying)) one.test n d e go other r a below under)

-- one of two ways
one_of_same : (n : ℕ) (first second other another : State → Outcome) → Agrees n first other → Agrees n second another
    → (e : Evaluation Bool) (s : State) → s.budget ≤ n
    → with_value e s (λ truth. one_of first second truth s) ≡ with_value e s (λ truth. one_of other another truth s)
one_of_same n first second other another a b (Ok true) s le = a.by s le
one_of_same n first second other another a b (Ok false) s le = b.by s le
one_of_same n first second other another a b (Err fault) s le = refl

-- the two ways of an IF, and those of EVALUATE
module _ {S : Type 0} (n : ℕ) (run other : S → State → Outcome) (r : (one : S) → IsRun (run one))
    (a : (one : S) → Agrees n (run one) (other one)) where
  way_agrees : (statements : List S) (otherwise : Option (List S)) (truth : Bool)
      → Agrees n (way run statements otherwise truth) (way other statements otherwise truth)
  way_agrees statements otherwise true = in_turn_agrees n run other r a statements
  way_agrees statements otherwise false = in_phrase_agrees n run other r a otherwise

  ways_same : (statements : List S) (otherwise : Option (List S)) (e : Evaluation Bool) (s : State) → s.budget ≤ n
      → with_value e s (λ truth. way run statements otherwise truth s)
      ≡ with_value e s (λ truth. way other statements otherwise truth s)
  ways_same statements otherwise (Ok truth) s le = (way_agrees statements otherwise truth).by s le
  ways_same statements otherwise (Err fault) s le = refl

  selecting_agrees :
      (items : List LocatedItem) (subjects : List Subject) (selected : List (Selected S)) (phrase : Option (List S))
      → Agrees n (selection_outcome items run subjects selected phrase)
      (selection_outcome items other subjects selected phrase)
  selecting_agrees items subjects [] phrase = in_phrase_agrees n run other r a phrase
  selecting_agrees items subjects (one ∷ more) phrase = record {
    by = λ s le.
        one_of_same n (in_turn run one.statements) (selection_outcome items run subjects more phrase)
        (in_turn other one.statements) (selection_outcome items other subjects more phrase)
        (in_turn_agrees n run other r a one.statements) (selecting_agrees items subjects more phrase)
        (holds items (selected_condition items subjects one) s.storage) s le;
  }

  taken_same : (items : List LocatedItem) (one : Evaluate S) (e : Evaluation (Unit {0})) (s : State) → s.budget ≤ n
      → with_value e s (λ _. selection_outcome items run one.subjects one.selected one.other s)
      ≡ with_value e s (λ _. selection_outcome items other one.subjects one.selected one.other s)
  taken_same items one (Ok value) s le = (selecting_agrees items one.subjects one.selected one.other).by s le
  taken_same items one (Err fault) s le = refl

  evaluating_agrees : (items : List LocatedItem) (one : Evaluate S)
      → Agrees n (evaluate_outcome items run one) (evaluate_outcome items other one)
  evaluating_agrees items one =
      record { by = λ s le. taken_same items one (take_subjects items one.subjects s.storage) s le }

  pub branching_agrees : (items : List LocatedItem) (one : ConditionalStatement S)
      → Agrees n (conditional_outcome items run one) (conditional_outcome items other one)
  branching_agrees items (branch.If condition statements otherwise) =
      record { by = λ s le. ways_same statements otherwise (holds items condition s.storage) s le }
  branching_agrees items (branch.Evaluate one) = evaluating_agrees items one
