-- The machine takes the subjects of EVALUATE: it goes on in the same state, or its run ends with the fault.
use Rattle.std.proofs.Common.{◌≡◌, ℕ, Bool, true, false, List, [], ◌∷◌, Option, Some, None, Ok, Err, refl}
use Rattle.std.proofs.Common.{subst, arith}
use Rattle.std.specs.Prelude.{slice_get}
use Rattle.source_tree.specs.declared.condition.Condition.{Condition}
use Rattle.source_tree.specs.declared.evaluate_statement.Subject.{Subject}
use Rattle.source_tree.specs.declared.evaluate_statement.Object.{Object}
use Rattle.source_tree.specs.Broken.{each}
use Rattle.source_tree.specs.ConditionRules.{condition_rules}
use Rattle.source_tree.specs.Conditions.{without_value, holds}
use Rattle.source_tree.specs.Evaluate.{take_resolved, take_subjects, resolved_subject}
use Rattle.source_tree.specs.EvaluateRules.{subject_rules}
use Rattle.source_tree.specs.Evaluated.{Evaluation, ◌>>=◌}
use Rattle.source_tree.specs.Places.{LocatedItem}
use Rattle.source_tree.specs.State.{State, Outcome, Done, then_do, in_turn, with_value}
use Rattle.data_instructions.specs.Tables.{IsTables}
use Rattle.data_instructions.specs.Codes.{data_item}
use Rattle.data_instructions.specs.Chains.{LiesWhole}
use Rattle.code_image.specs.declared.code.Code.{Code}
use Rattle.code_image.specs.Points.{Own}
use Rattle.condition_codegen.specs.Fragments.{append}
use Rattle.condition_codegen.specs.ConditionCode.{condition_fragment}
use Rattle.statement_codegen.specs.SubjectCode.{look, look_fragment, subject_fragment, each_subject_fragment}
use Rattle.statement_codegen.specs.SubjectCode.{is_asked_first, taken_from, subjects_fragment}
use Rattle.codegen.proofs.ConditionDoes.{condition_does}
use Rattle.codegen.proofs.Doing.{end_of, PartDoes, stays, nothing_does, Follows, in_order_does, Repeats}
use Rattle.codegen.proofs.Evaluating.{evaluated_does}
use Rattle.codegen.proofs.Standing.{Stands}
use Rattle.statement_codegen.proofs.SubjectLooks.{look_value, look_rules, looks_value, look_kept, look_found}

-- whether that is a fault, and else nothing
abbrev pub taking : {A : Type 0} → Evaluation A → State → Outcome
taking found s = with_value found s (λ _. Done s)

without_same : {A : Type 0} (found : Evaluation A) (s : State) → taking found s ≡ taking (without_value found) s
without_same (Ok value) s = refl
without_same (Err fault) s = refl

-- what follows
pub taking_then : (found : Evaluation (Unit {0})) (s : State) (go : State → Outcome)
    → then_do (taking found s) go ≡ with_value found s (λ _. go s)
taking_then (Ok value) s go = refl
taking_then (Err fault) s go = refl

one_more : (found rest : Evaluation (Unit {0})) (s : State) (go : State → Outcome) → go s ≡ taking rest s
    → then_do (taking found s) go ≡ taking (found >>= (λ _. rest)) s
one_more (Ok value) rest s go e = e
one_more (Err fault) rest s go e = refl

module _ (items : List LocatedItem) where
  abbrev taking_subject : Subject → State → Outcome
  taking_subject one s = taking (take_resolved items (resolved_subject items one) s.storage) s

  each_taken : (subjects : List Subject) (s : State)
      → in_turn taking_subject subjects s ≡ taking (take_subjects items subjects s.storage) s
  each_taken [] s = refl
  each_taken (one ∷ more) s =
      one_more (take_resolved items (resolved_subject items one) s.storage) (take_subjects items more s.storage) s
      (in_turn taking_subject more) (each_taken more s)

module _ (whole : Code) (kept : ℕ → Type 0) (items : List LocatedItem)
    (entries : (n : ℕ) (one : LocatedItem) → slice_get items n ≡ Some one
    → slice_get whole.tables.items n ≡ Some (data_item one)) (order : IsTables whole.tables)
    (lie : (n : ℕ) (one : LocatedItem) → slice_get items n ≡ Some one → LiesWhole whole.tables one) (depth : ℕ) where
  -- a condition whose truth isn't used
  condition_taken : (one : Condition) (before : Code) (cs : Own) (s : State) → condition_rules items one ≡ []
      → Stands whole before (condition_fragment items one before)
      → PartDoes whole kept before (condition_fragment items one before) cs s (taking (holds items one s.storage) s)
  condition_taken one before cs s keep st =
      let from = end_of before in
      let to = end_of (append before (condition_fragment items one before)) in
      evaluated_does whole kept from to from to from to to cs s (holds items one s.storage) (λ _. Done s) (omega arith)
      (omega arith)
      (condition_does items whole entries order lie one before cs s keep st)
      (λ truth ds keeps is. stays whole kept from to to to ds s refl)

  look_does : (one : Option Condition) (before : Code) (cs : Own) (s : State) → look_rules items one ≡ []
      → Stands whole before (look_fragment items one before)
      → PartDoes whole kept before (look_fragment items one before) cs s (taking (look_value items one s.storage) s)
  look_does None before cs s keep st = nothing_does whole kept before cs s
  look_does (Some one) before cs s keep st =
      subst (PartDoes whole kept before (condition_fragment items one before) cs s)
      (without_same (holds items one s.storage) s)
      (condition_taken one before cs s keep st)

  subject_does : Follows whole kept depth (subject_rules items) (taking_subject items) (subject_fragment items)
  subject_does = record {
    by = λ one before cs s keep below room sits.
        let l = resolved_subject items one in
        subst (λ (found : Evaluation (Unit {0})). PartDoes whole kept before (subject_fragment items one before) cs s
        (taking found s)) (look_found items l s.storage keep)
        (look_does (look items l) before cs s (look_kept items l keep) sits.stands);
  }

  taken_does : (once : Bool) (subjects : List Subject) → each (subject_rules items) subjects ≡ []
      → Repeats whole kept depth (λ s. taking (looks_value items once subjects s.storage) s)
      (taken_from items once subjects)
  taken_does true subjects keep = record { by = λ before cs s below room sits. nothing_does whole kept before cs s }
  taken_does false subjects keep = record {
    by = λ before cs s below room sits.
        subst (PartDoes whole kept before (each_subject_fragment items subjects before) cs s)
        (each_taken items subjects s)
        (in_order_does whole kept depth (subject_rules items) (taking_subject items) (subject_fragment items)
        subject_does subjects before cs s keep below room sits);
  }

  -- The subjects before the first WHEN, where some object is the first one.
  pub subjects_do : (subjects : List Subject) (object : Option Object) → each (subject_rules items) subjects ≡ []
      → Repeats
      whole kept depth (λ s. taking (looks_value items (is_asked_first items subjects object) subjects s.storage) s)
      (subjects_fragment items subjects object)
  subjects_do subjects object keep = record {
    by = λ before cs s below room sits.
        (taken_does (is_asked_first items subjects object) subjects keep).by before cs s below room sits;
  }
