-- Repetitions until a condition is true (COBOL-85, Nucleus, "The PERFORM statement", UNTIL and VARYING).
use Rattle.std.specs.Prelude.{ℕ, zero, suc, Bool, true, false, List, [], ◌∷◌, Option, Some, None, Ok}
use Rattle.source_tree.specs.declared.arithmetic.Operation.{Operation}
use Rattle.source_tree.specs.declared.arithmetic.Operation.TheVariants.{Add}
use Rattle.source_tree.specs.declared.until.TestTime.{TestTime}
use Rattle.source_tree.specs.declared.until.TestTime.TheVariants.{Before, After}
use Rattle.source_tree.specs.declared.until.Varying.{Varying}
use Rattle.source_tree.specs.declared.until.Until.{Until}
use Rattle.source_tree.specs.Places.{LocatedItem}
use Rattle.source_tree.specs.Storage.{Storage}
use Rattle.source_tree.specs.Evaluated.{Evaluation, ◌>>=◌}
use Rattle.source_tree.specs.Moving.{move}
use Rattle.source_tree.specs.Arithmetic.{operation}
use Rattle.source_tree.specs.Conditions.{ConditionValue, holds}
use Rattle.source_tree.specs.State.{State, Budget, Outcome, Done, Over, then_do, spend, with_value, change_outcome}

-- A test, and what goes on where it is false.
abbrev pub done_if : (State → Outcome) → State → Bool → Outcome
done_if go s true = Done s
done_if go s false = go s

abbrev pub unless_true : ConditionValue → (State → Outcome) → State → Outcome
unless_true test go s = with_value (test s.storage) s (done_if go s)

-- Turns until a test is true, at most so many: a turn uses one of the budget, at the line of its PERFORM, after its test. `onward`
-- comes after each.
abbrev pub until_before : ℕ → ℕ → ConditionValue → (State → Outcome) → (State → Outcome) → State → Outcome
until_before line zero test onward body s = Over Budget s
until_before line (suc depth) test onward body s =
    unless_true test (λ t. spend line t (λ u. then_do (body u) (λ v. then_do (onward v) (until_before line depth test onward body)))) s

-- The test comes after each turn, and `onward` only where it is false.
abbrev pub until_after : ℕ → ℕ → ConditionValue → (State → Outcome) → (State → Outcome) → State → Outcome
until_after line zero test onward body s = Over Budget s
until_after line (suc depth) test onward body s =
    spend line s (λ t. then_do (body t) (unless_true test (λ u. then_do (onward u) (until_after line depth test onward body))))

abbrev pub until_from : TestTime → ℕ → ℕ → ConditionValue → (State → Outcome) → (State → Outcome) → State → Outcome
until_from Before = until_before
until_from After = until_after

-- ADD BY TO the item
abbrev pub vary_operation : Varying → Operation
vary_operation one = Add (one.by ∷ []) (record { item = one.item; rounded = false } ∷ [])

-- `items` are those of the program.
module _ (items : List LocatedItem) where
  -- VARYING: FROM is moved in
  abbrev pub vary_begin : Option Varying → Storage → Evaluation Storage
  vary_begin None storage = Ok storage
  vary_begin (Some one) storage = move items one.from (one.item ∷ []) storage

  -- BY is added, without a size phrase.
  abbrev pub add_by : Varying → Storage → Evaluation Storage
  add_by one storage = operation items false (vary_operation one) storage >>= (λ after. Ok after.storage)

  abbrev pub vary_on : Option Varying → Storage → Evaluation Storage
  vary_on None storage = Ok storage
  vary_on (Some one) storage = add_by one storage

  -- The turns of a PERFORM at this line; at most `depth` of them, each of which uses one of the budget.
  abbrev pub until : ℕ → ℕ → Until → (State → Outcome) → State → Outcome
  until line depth one body s =
      then_do (change_outcome (vary_begin one.varying) s) (until_from one.test line depth (holds items one.condition) (change_outcome (vary_on one.varying)) body)
