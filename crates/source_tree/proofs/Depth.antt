-- Runs that are the same up to a budget, put together.
use Rattle.std.proofs.Common.{◌≡◌, ℕ, zero, suc, ◌<◌, ◌≤◌, List, [], ◌∷◌, refl, ap, ◌∙◌, arith}
use Rattle.std.specs.Prelude.{Bool, true, false, Option, Some, None, Ok, Err}
use Rattle.source_tree.specs.declared.perform_statement.Performed.{Performed}
use Rattle.source_tree.specs.declared.perform_statement.Performed.TheVariants.{Procedures, Statements}
use Rattle.source_tree.specs.declared.phrases.Phrases.{Phrases}
use Rattle.source_tree.specs.declared.string_statement.StringStatement.{StringStatement}
use Rattle.source_tree.specs.Stringing.{Strings, string_stores, string_outcome}
use Rattle.source_tree.specs.declared.arithmetic.Arithmetic.{Arithmetic}
use Rattle.source_tree.specs.State.{State, Outcome, Done, Over, then_do, in_turn, spend_from, spend, with_value}
use Rattle.source_tree.specs.Places.{LocatedItem}
use Rattle.source_tree.specs.Evaluated.{Evaluation}
use Rattle.source_tree.specs.Arithmetic.{StoreResult, operation, is_there, in_phrase, phrase_for, arithmetic_outcome}
use Rattle.source_tree.specs.Procedures.{Range, Procedure, range_of}
use Rattle.source_tree.specs.Performing.{turns, performed_range, body}
use Rattle.source_tree.proofs.Runs
use Rattle.source_tree.proofs.Runs.{Within, IsRun, in_turn_runs, body_runs}

-- two runs that are the same up to a budget
pub record Agrees (n : ℕ) (go other : State → Outcome) : Type 0 where
  pub by : (s : State) → s.budget ≤ n → go s ≡ other s

pub then_same : (n : ℕ) (o p : Outcome) (go other : State → Outcome) → Within n o → o ≡ p → Agrees n go other
    → then_do o go ≡ then_do p other
then_same n (Done s) p go other w e a = a.by s w ∙ ap (λ o. then_do o other) e
then_same n (Over end s) p go other w e a = ap (λ o. then_do o other) e

pub then_agrees : (n : ℕ) (first second go other : State → Outcome) → IsRun first → Agrees n first second
    → Agrees n go other
    → Agrees n (λ s. then_do (first s) go) (λ s. then_do (second s) other)
then_agrees n first second go other r f a = record {
  by = λ s le. then_same n (first s) (second s) go other (Runs.wider s.budget n (first s) le (r.falls s)) (f.by s le) a;
}

pub spend_same : (b line : ℕ) (s : State) (go other : State → Outcome)
    → ((n : ℕ) → n < b → go (record s { budget = n; line = line }) ≡ other (record s { budget = n; line = line }))
    → spend_from b line s go ≡ spend_from b line s other
spend_same zero line s go other h = refl
spend_same (suc n) line s go other h = h n (omega arith)

pub in_turn_agrees : {A : Type 0} (n : ℕ) (run other : A → State → Outcome) → ((one : A) → IsRun (run one))
    → ((one : A) → Agrees n (run one) (other one))
    → (all : List A) → Agrees n (in_turn run all) (in_turn other all)
in_turn_agrees n run other r a [] = record { by = λ s le. refl }
in_turn_agrees n run other r a (one ∷ more) = then_agrees n (run one) (other one) (in_turn run more)
    (in_turn other more) (r one) (a one) (in_turn_agrees n run other r a more)

spend_agrees : (n line : ℕ) (go other : State → Outcome) → Agrees n go other
    → Agrees n (λ s. spend line s go) (λ s. spend line s other)
spend_agrees n line go other a = record {
  by = λ s le.
      spend_same s.budget line s go other (λ left lt. a.by (record s { budget = left; line = line }) (omega arith));
}

pub turns_agrees : (n line count : ℕ) (go other : State → Outcome) → IsRun go → Agrees n go other
    → Agrees n (turns line count go) (turns line count other)
turns_agrees n line zero go other r a = record { by = λ s le. refl }
turns_agrees n line (suc more) go other r a =
    spend_agrees n line (λ s. then_do (go s) (turns line more go)) (λ s. then_do (other s) (turns line more other))
    (then_agrees n go other (turns line more go) (turns line more other) r a (turns_agrees n line more go other r a))

-- what is performed, where the paragraphs of ranges agree too
module _ {S : Type 0} (n : ℕ) (run other : S → State → Outcome) (r : (one : S) → IsRun (run one))
    (a : (one : S) → Agrees n (run one) (other one))
    (range others : Range → State → Outcome) (ranges : (one : Range) → Agrees n (range one) (others one)) where
  performed_agrees : (found : Option Range) → Agrees n (performed_range range found) (performed_range others found)
  performed_agrees None = record { by = λ s le. refl }
  performed_agrees (Some one) = ranges one

  pub body_agrees : (procedures : List Procedure) (one : Performed S)
      → Agrees n (body run range procedures one) (body other others procedures one)
  body_agrees procedures (Procedures first last) = performed_agrees (range_of procedures first last)
  body_agrees procedures (Statements statements) = in_turn_agrees n run other r a statements

-- The stores are the same; a phrase runs with the budget that is left.
module _ {S : Type 0} (n : ℕ) (run other : S → State → Outcome) (r : (one : S) → IsRun (run one))
    (a : (one : S) → Agrees n (run one) (other one)) where
  pub in_phrase_agrees : (phrase : Option (List S)) → Agrees n (in_phrase run phrase) (in_phrase other phrase)
  in_phrase_agrees None = record { by = λ s le. refl }
  in_phrase_agrees (Some statements) = in_turn_agrees n run other r a statements

  phrase_agrees : (phrases : Phrases S) (error : Bool)
      → Agrees n (phrase_for run phrases error) (phrase_for other phrases error)
  phrase_agrees phrases true = in_phrase_agrees phrases.arose
  phrase_agrees phrases false = in_phrase_agrees phrases.did_not

  value_same : (phrases : Phrases S) (e : Evaluation StoreResult) (s : State) → s.budget ≤ n
      → with_value e s (λ after. phrase_for run phrases after.size_error (record s { storage = after.storage }))
      ≡ with_value e s (λ after. phrase_for other phrases after.size_error (record s { storage = after.storage }))
  value_same phrases (Ok after) s le =
      (phrase_agrees phrases after.size_error).by (record s { storage = after.storage }) le
  value_same phrases (Err fault) s le = refl

  pub calculating_agrees : (items : List LocatedItem) (one : Arithmetic S)
      → Agrees n (arithmetic_outcome items run one) (arithmetic_outcome items other one)
  calculating_agrees items one = record {
    by = λ s le. value_same one.phrases (operation items (is_there one.phrases.arose) one.operation s.storage) s le;
  }

  strung_same : (phrases : Phrases S) (e : Evaluation Strings) (s : State) → s.budget ≤ n
      → with_value e s (λ after. phrase_for run phrases after.overflow (record s { storage = after.storage }))
      ≡ with_value e s (λ after. phrase_for other phrases after.overflow (record s { storage = after.storage }))
  strung_same phrases (Ok after) s le =
      (phrase_agrees phrases after.overflow).by (record s { storage = after.storage }) le
  strung_same phrases (Err fault) s le = refl

  pub stringing_agrees : (items : List LocatedItem) (one : StringStatement S)
      → Agrees n (string_outcome items run one) (string_outcome items other one)
  stringing_agrees items one = record { by = λ s le. strung_same one.phrases (string_stores items one s.storage) s le }
