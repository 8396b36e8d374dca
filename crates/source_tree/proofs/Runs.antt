-- What holds of each run of a stretch: the budget never rises, output only grows, and with more budget a stretch that
-- doesn't end for want of it does the same and has so much more left.
use Rattle.std.proofs.Common.{◌≡◌, ℕ, zero, suc, ◌+◌, ◌≤◌, List, [], ◌∷◌, refl, sym, ap, subst, arith}
use Rattle.std.specs.Prelude.{Bool, true, false, Option, Some, None, Ok, Err}
use Rattle.source_tree.specs.declared.text_statement.TextStatement.{TextStatement}
use Rattle.source_tree.specs.declared.text_statement.TextStatement.TheVariants as text
use Rattle.source_tree.specs.declared.control_statement.ControlStatement.{ControlStatement}
use Rattle.source_tree.specs.declared.control_statement.ControlStatement.TheVariants as ending
use Rattle.source_tree.specs.declared.perform_statement.Performed.{Performed}
use Rattle.source_tree.specs.declared.perform_statement.Performed.TheVariants.{Procedures, Statements}
use Rattle.source_tree.specs.Storage.{Storage}
use Rattle.source_tree.specs.Places.{LocatedItem}
use Rattle.source_tree.specs.Evaluated.{Evaluation}
use Rattle.source_tree.specs.State.{State, Stopped, Budget, Faulted, Outcome, Done, Over, state_after_output, then_do}
use Rattle.source_tree.specs.State.{in_turn, spend_from, spend, with_value, change_outcome, outcome_state}
use Rattle.source_tree.specs.Showing.{displayed_bytes}
use Rattle.source_tree.specs.Procedures.{Range, Procedure, range_of}
use Rattle.source_tree.specs.Texts.{texts}
use Rattle.source_tree.specs.Accepting.{next_line, later_lines, accept_line, accept_date}
use Rattle.source_tree.specs.Arithmetic.{StoreResult, operation, is_there, in_phrase, phrase_for, arithmetic_outcome}
use Rattle.source_tree.specs.Stringing.{Strings, string_stores, string_outcome}
use Rattle.source_tree.specs.Inspecting.{inspect}
use Rattle.source_tree.specs.Converting.{convert}
use Rattle.source_tree.specs.declared.phrases.Phrases.{Phrases}
use Rattle.source_tree.specs.declared.string_statement.StringStatement.{StringStatement}
use Rattle.source_tree.specs.declared.arithmetic.Arithmetic.{Arithmetic}
use Rattle.source_tree.specs.declared.reference.Reference.{Reference}
use Rattle.source_tree.specs.Performing.{turns, performed_range, body}
use Rattle.source_tree.specs.Meaning.{finish}
use Rattle.source_tree.specs.Told.{Onward}
use Rattle.source_tree.proofs.Telling.{itself, onward, shown_more}

-- what goes on has no more than this left
abbrev pub Within : ℕ → Outcome → Type 0
Within n (Done s) = s.budget ≤ n
Within n (Over end s) = Unit {0}

-- the same state with so much more left
abbrev pub richer : ℕ → State → State
richer k s = record s { budget = s.budget + k }

-- what comes out of a stretch with so much more budget
abbrev pub Alike : ℕ → Outcome → Outcome → Type 0
Alike k (Done s) other = other ≡ Done (richer k s)
Alike k (Over Stopped s) other = other ≡ Over Stopped (richer k s)
Alike k (Over (Faulted fault line) s) other = other ≡ Over (Faulted fault line) (richer k s)
Alike k (Over Budget s) other = Onward s (outcome_state other)

pub record IsRun (go : State → Outcome) : Type 0 where
  pub falls : (s : State) → Within s.budget (go s)
  pub grows : (s : State) → Onward s (outcome_state (go s))
  pub alike : (k : ℕ) (s : State) → Alike k (go s) (go (richer k s))

pub wider : (n m : ℕ) (o : Outcome) → n ≤ m → Within n o → Within m o
wider n m (Done s) le w = omega arith
wider n m (Over end s) le w = tt

then_within : (n : ℕ) (o : Outcome) (go : State → Outcome) → IsRun go → Within n o → Within n (then_do o go)
then_within n (Done s) go r w = wider s.budget n (go s) w (r.falls s)
then_within n (Over end s) go r w = tt

then_grows : (from : State) (o : Outcome) (go : State → Outcome) → IsRun go → Onward from (outcome_state o)
    → Onward from (outcome_state (then_do o go))
then_grows from (Done s) go r b = onward from s (outcome_state (go s)) b (r.grows s)
then_grows from (Over end s) go r b = b

then_alike : (k : ℕ) (o other : Outcome) (go : State → Outcome) → IsRun go → Alike k o other
    → Alike k (then_do o go) (then_do other go)
then_alike k (Done s) other go r a = subst (λ x. Alike k (go s) (then_do x go)) (sym a) (r.alike k s)
then_alike k (Over Stopped s) other go r a = ap (λ x. then_do x go) a
then_alike k (Over (Faulted fault line) s) other go r a = ap (λ x. then_do x go) a
then_alike k (Over Budget s) other go r a = then_grows s other go r a

pub then_runs : (first go : State → Outcome) → IsRun first → IsRun go → IsRun (λ s. then_do (first s) go)
then_runs first go f r = record {
  falls = λ s. then_within s.budget (first s) go r (f.falls s);
  grows = λ s. then_grows s (first s) go r (f.grows s);
  alike = λ k s. then_alike k (first s) (first (richer k s)) go r (f.alike k s);
}

spend_within : (b line : ℕ) (s : State) (go : State → Outcome) → IsRun go → Within b (spend_from b line s go)
spend_within zero line s go r = tt
spend_within (suc n) line s go r = wider n (suc n) (go (record s { budget = n; line = line })) (omega arith)
    (r.falls (record s { budget = n; line = line }))

spend_grows : (b line : ℕ) (s : State) (go : State → Outcome) → IsRun go
    → Onward s (outcome_state (spend_from b line s go))
spend_grows zero line s go r = itself s
spend_grows (suc n) line s go r = r.grows (record s { budget = n; line = line })

spend_alike : (k b total line : ℕ) (s : State) (go : State → Outcome) → IsRun go → total ≡ b + k
    → Alike k (spend_from b line s go) (spend_from total line (richer k s) go)
spend_alike k zero total line s go r e = spend_grows total line (richer k s) go r
spend_alike k (suc n) zero line s go r e = absurd (omega arith)
spend_alike k (suc n) (suc total) line s go r e =
    let e : total ≡ n + k = omega arith in
    subst (λ m. Alike k (go (record s { budget = n; line = line })) (go (record s { budget = m; line = line }))) (sym e)
    (r.alike k (record s { budget = n; line = line }))

pub spend_runs : (line : ℕ) (go : State → Outcome) → IsRun go → IsRun (λ s. spend line s go)
spend_runs line go r = record {
  falls = λ s. spend_within s.budget line s go r;
  grows = λ s. spend_grows s.budget line s go r;
  alike = λ k s. spend_alike k s.budget (s.budget + k) line s go r refl;
}

pub done_runs : IsRun Done
done_runs = record { falls = λ s. omega arith; grows = λ s. itself s; alike = λ k s. refl }

pub stop_runs : IsRun (Over Stopped)
stop_runs = record { falls = λ s. tt; grows = λ s. itself s; alike = λ k s. refl }

pub show_runs : (bytes : List ℕ) → IsRun (λ s. Done (state_after_output bytes s))
show_runs bytes = record { falls = λ s. omega arith; grows = λ s. shown_more bytes s; alike = λ k s. refl }

pub in_turn_runs : {A : Type 0} (run : A → State → Outcome) → ((one : A) → IsRun (run one)) → (all : List A)
    → IsRun (in_turn run all)
in_turn_runs run r [] = done_runs
in_turn_runs run r (one ∷ more) = then_runs (run one) (in_turn run more) (r one) (in_turn_runs run r more)

-- What is evaluated of storage doesn't depend on the budget.
module _ {A : Type 0} (go : A → State → Outcome) (r : (x : A) → IsRun (go x)) where
  value_within : (e : Evaluation A) (s : State) → Within s.budget (with_value e s (λ x. go x s))
  value_within (Ok x) s = (r x).falls s
  value_within (Err fault) s = tt

  value_grows : (e : Evaluation A) (s : State) → Onward s (outcome_state (with_value e s (λ x. go x s)))
  value_grows (Ok x) s = (r x).grows s
  value_grows (Err fault) s = itself s

  value_alike : (e : Evaluation A) (k : ℕ) (s : State)
      → Alike k (with_value e s (λ x. go x s)) (with_value e (richer k s) (λ x. go x (richer k s)))
  value_alike (Ok x) k s = (r x).alike k s
  value_alike (Err fault) k s = refl

  pub value_runs : (find : Storage → Evaluation A) → IsRun (λ s. with_value (find s.storage) s (λ x. go x s))
  value_runs find = record {
    falls = λ s. value_within (find s.storage) s;
    grows = λ s. value_grows (find s.storage) s;
    alike = λ k s. value_alike (find s.storage) k s;
  }

storing_runs : (after : Storage) → IsRun (λ s. Done (record s { storage = after }))
storing_runs after = record { falls = λ s. omega arith; grows = λ s. itself s; alike = λ k s. refl }

pub changing_runs : (change : Storage → Evaluation Storage) → IsRun (change_outcome change)
changing_runs change = value_runs (λ after s. Done (record s { storage = after })) storing_runs change

-- ACCEPT leaves fewer lines, whatever the budget.
accepting_runs : (lines : List (List ℕ) → List (List ℕ)) (after : Storage)
    → IsRun (λ s. Done (record s { storage = after; lines = lines s.lines }))
accepting_runs lines after = record { falls = λ s. omega arith; grows = λ s. itself s; alike = λ k s. refl }

accept_runs : (items : List LocatedItem) (receiver : Reference) → IsRun (texts items (text.Accept receiver))
accept_runs items receiver =
    let find : State → Evaluation Storage = λ s. accept_line items (next_line s.lines) receiver s.storage in
    let go : Storage → State → Outcome = λ after s. Done (record s { storage = after; lines = later_lines s.lines }) in
    record {
      falls = λ s. value_within go (accepting_runs later_lines) (find s) s;
      grows = λ s. value_grows go (accepting_runs later_lines) (find s) s;
      alike = λ k s. value_alike go (accepting_runs later_lines) (find s) k s;
    }

accept_date_runs : (items : List LocatedItem) (receiver : Reference) → IsRun (texts items (text.AcceptDate receiver))
accept_date_runs items receiver =
    let find : State → Evaluation Storage = λ s. accept_date items s.day receiver s.storage in
    let go : Storage → State → Outcome = λ after s. Done (record s { storage = after }) in
    record {
      falls = λ s. value_within go storing_runs (find s) s;
      grows = λ s. value_grows go storing_runs (find s) s;
      alike = λ k s. value_alike go storing_runs (find s) k s;
    }

pub texts_runs : (items : List LocatedItem) (one : TextStatement) → IsRun (texts items one)
texts_runs items (text.Display operands advancing) =
    value_runs (λ bytes s. Done (state_after_output bytes s)) show_runs (displayed_bytes items operands advancing)
texts_runs items (text.Accept receiver) = accept_runs items receiver
texts_runs items (text.AcceptDate receiver) = accept_date_runs items receiver
texts_runs items (text.Inspect one) = changing_runs (inspect items one)
texts_runs items (text.Convert one) = changing_runs (convert items one)

pub finish_runs : (one : ControlStatement) → IsRun (finish one)
finish_runs ending.StopRun = stop_runs
finish_runs ending.Continue = done_runs
finish_runs ending.Exit = done_runs

pub turns_runs : (line count : ℕ) (go : State → Outcome) → IsRun go → IsRun (turns line count go)
turns_runs line zero go r = done_runs
turns_runs line (suc more) go r = spend_runs line (λ s. then_do (go s) (turns line more go))
    (then_runs go (turns line more go) r (turns_runs line more go r))

module _ {S : Type 0} (run : S → State → Outcome) (range : Range → State → Outcome) (r : (one : S) → IsRun (run one))
    (ranges : (one : Range) → IsRun (range one)) where
  performed_runs : (found : Option Range) → IsRun (performed_range range found)
  performed_runs None = done_runs
  performed_runs (Some one) = ranges one

  pub body_runs : (procedures : List Procedure) (one : Performed S) → IsRun (body run range procedures one)
  body_runs procedures (Procedures first last) = performed_runs (range_of procedures first last)
  body_runs procedures (Statements statements) = in_turn_runs run r statements

-- A phrase after stores.
module _ {S : Type 0} (run : S → State → Outcome) (r : (one : S) → IsRun (run one)) where
  pub in_phrase_runs : (phrase : Option (List S)) → IsRun (in_phrase run phrase)
  in_phrase_runs None = done_runs
  in_phrase_runs (Some statements) = in_turn_runs run r statements

  phrase_runs : (phrases : Phrases S) (error : Bool) → IsRun (phrase_for run phrases error)
  phrase_runs phrases true = in_phrase_runs phrases.arose
  phrase_runs phrases false = in_phrase_runs phrases.did_not

  pub calculating_runs : (items : List LocatedItem) (one : Arithmetic S) → IsRun (arithmetic_outcome items run one)
  calculating_runs items one =
      value_runs (λ after s. phrase_for run one.phrases after.size_error (record s { storage = after.storage }))
      (λ (after : StoreResult). then_runs (λ s. Done (record s { storage = after.storage })) (phrase_for run one.phrases
      after.size_error) (storing_runs after.storage) (phrase_runs one.phrases after.size_error))
      (operation items (is_there one.phrases.arose) one.operation)

  pub stringing_runs : (items : List LocatedItem) (one : StringStatement S) → IsRun (string_outcome items run one)
  stringing_runs items one =
      value_runs (λ after s. phrase_for run one.phrases after.overflow (record s { storage = after.storage }))
      (λ (after : Strings). then_runs (λ s. Done (record s { storage = after.storage })) (phrase_for run one.phrases
      after.overflow) (storing_runs after.storage) (phrase_runs one.phrases after.overflow))
      (string_stores items one)
