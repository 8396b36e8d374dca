-- The looks at subjects of EVALUATE keep the rules and have the faults with which subjects are taken; and where the
-- first object asks at once, its condition has that fault.
use Rattle.std.proofs.Common.{◌≡◌, Bool, true, false, not, ◌&&◌, ◌||◌, if◌then◌else◌, List, [], ◌∷◌, ◌++◌}
use Rattle.std.proofs.Common.{Option, Some, None, Ok, Err, refl, sym, ap, ◌∙◌}
use Rattle.std.specs.Prelude.{slice_get}
use Rattle.lexical.specs.declared.place.Place.{Place}
use Rattle.source_tree.specs.declared.reference.Reference.{Reference}
use Rattle.source_tree.specs.declared.expression.Operand.{Operand}
use Rattle.source_tree.specs.declared.expression.Operand.TheVariants as operand
use Rattle.source_tree.specs.declared.condition.Relation.TheVariants as relation
use Rattle.source_tree.specs.declared.condition.Side.{Side}
use Rattle.source_tree.specs.declared.condition.Condition.{Condition}
use Rattle.source_tree.specs.declared.condition.Condition.TheVariants as condition
use Rattle.source_tree.specs.declared.evaluate_statement.Subject.{Subject}
use Rattle.source_tree.specs.declared.evaluate_statement.Object.{Object}
use Rattle.source_tree.specs.declared.evaluate_statement.When.{When}
use Rattle.source_tree.specs.declared.evaluate_statement.Selected.{Selected}
use Rattle.source_tree.specs.Broken.{RuleBreach, where_so, each}
use Rattle.source_tree.specs.ConditionRules.{SideKind, Number, Characters, Either, compared_alone, may_compare}
use Rattle.source_tree.specs.ConditionRules.{is_literal_alone, side_place, side_from, side_rules, relation_rules}
use Rattle.source_tree.specs.ConditionRules.{condition_rules}
use Rattle.source_tree.specs.Conditions.{without_value, take_item, alone_side, holds}
use Rattle.source_tree.specs.Evaluate.{ObjectValues, ResolvedOperand, Value, Truth, Asking}
use Rattle.source_tree.specs.Evaluate.{value_within, value_condition, take_value, take_resolved, take_subjects}
use Rattle.source_tree.specs.Evaluate.{resolved_subject, selection_condition, object_conditions, when_condition}
use Rattle.source_tree.specs.Evaluate.{when_conditions, selected_condition, one_of, selection_outcome}
use Rattle.source_tree.specs.EvaluateRules.{resolved_rules, object_rules, objects_rules, when_rules, selected_rules}
use Rattle.source_tree.specs.Evaluated.{Fault, Evaluation, ◌>>=◌}
use Rattle.source_tree.specs.NameRules.{reference_rules, any_item}
use Rattle.source_tree.specs.Parts.{has_part}
use Rattle.source_tree.specs.Places.{LocatedItem}
use Rattle.source_tree.specs.References.{ItemPlace, part_of, place_after, place_of}
use Rattle.source_tree.specs.State.{State, Outcome, in_turn, with_value}
use Rattle.source_tree.specs.Storage.{Storage}
use Rattle.source_tree.proofs.Subjects.{beside_zero}
use Rattle.declarations.specs.Resolved.{optional_choice, optional_condition}
use Rattle.declarations.proofs.Looking.{asked_is}
use Rattle.code_image.specs.declared.code.Code.{Code}
use Rattle.condition_codegen.specs.Fragments.{Fragment, append}
use Rattle.condition_codegen.specs.ConditionCode.{is_single, is_numeric_item, relation_fragment}
use Rattle.condition_codegen.specs.DataCode.{item_number}
use Rattle.statement_codegen.specs.SubjectCode.{zero_side, object_of_when, first_object, is_at_hand, is_faultless}
use Rattle.statement_codegen.specs.SubjectCode.{value_look, look, look_fragment, each_subject_fragment, asks_at_once}
use Rattle.statement_codegen.specs.SubjectCode.{is_asked_first, taken_from, subjects_fragment}
use Rattle.condition_codegen.proofs.Lists.{left_none}
use Rattle.condition_codegen.proofs.ConditionLayers.{relation_is, relation_kept}
use Rattle.condition_codegen.proofs.EvaluateKept as rules
use Rattle.condition_codegen.proofs.Kept.{both_kept}
use Rattle.condition_codegen.proofs.Fragments.{joined_nothing}
use Rattle.condition_codegen.proofs.Questions.{told_rules, from_rules}
use Rattle.condition_codegen.proofs.Sides.{right_kept}
use Rattle.statement_codegen.proofs.OperandOrder.{text_taken, single_place, at_hand}
use Rattle.statement_codegen.proofs.SubjectFaults.{told_fault, all_fault, any_fault, asked_fault}

-- ---- truths

-- both of two truths
first_true : (a b : Bool) → (a && b) ≡ true → a ≡ true
first_true true b e = refl
first_true false b e = absurd cc

second_true : (a b : Bool) → (a && b) ≡ true → b ≡ true
second_true true b e = e
second_true false b e = absurd cc

not_so : (a : Bool) → not a ≡ true → a ≡ false
not_so true e = absurd cc
not_so false e = refl

-- ---- what is done with a look

-- without a look nothing is a fault
abbrev pub look_value : List LocatedItem → Option Condition → Storage → Evaluation (Unit {0})
look_value items None storage = Ok tt
look_value items (Some one) storage = without_value (holds items one storage)

abbrev pub look_rules : List LocatedItem → Option Condition → List RuleBreach
look_rules items None = []
look_rules items (Some one) = condition_rules items one

-- what the looks before the first WHEN find
abbrev pub looks_value : List LocatedItem → Bool → List Subject → Storage → Evaluation (Unit {0})
looks_value items true subjects storage = Ok tt
looks_value items false subjects storage = take_subjects items subjects storage

module _ (items : List LocatedItem) where
  -- ---- a look keeps the rules

  zero_compared : (literal : Bool) (one : SideKind) (place : Place) → literal ≡ false
      → where_so ((literal && true) || not (may_compare one Either)) 52 place ≡ []
  zero_compared true one place e = absurd cc
  zero_compared false (Number digits) place e = refl
  zero_compared false Characters place e = refl
  zero_compared false Either place e = refl

  zero_kept : (value : Side) → is_literal_alone (alone_side value) ≡ false → side_rules items value ≡ []
      → condition_rules items (condition.Relation value relation.Equal zero_side) ≡ []
  zero_kept value literal e =
      relation_kept items value relation.Equal zero_side
      ∙ both_kept (side_rules items value ++ side_rules items zero_side)
      (where_so ((is_literal_alone (alone_side value) && true)
      || not (may_compare (compared_alone items (alone_side value)) Either)) 52 (side_place value))
      (both_kept (side_rules items value) (side_rules items zero_side) e refl)
      (zero_compared (is_literal_alone (alone_side value)) (compared_alone items (alone_side value)) (side_place value)
      literal)

  no_literal : (alone : Option Operand) → is_faultless items alone ≡ false → is_literal_alone alone ≡ false
  no_literal (Some (operand.Item one)) e = refl
  no_literal (Some (operand.Literal one)) e = absurd cc
  no_literal None e = refl

  value_kept : (value : Side) (faultless : Bool) → is_faultless items (alone_side value) ≡ faultless
      → side_rules items value ≡ []
      → look_rules items (if faultless then None else Some (condition.Relation value relation.Equal zero_side)) ≡ []
  value_kept value true is e = refl
  value_kept value false is e = zero_kept value (no_literal (alone_side value) is) e

  pub look_kept : (one : ResolvedOperand Side) → resolved_rules items one ≡ [] → look_rules items (look items one) ≡ []
  look_kept (Value one) e = value_kept one (is_faultless items (alone_side one)) refl e
  look_kept (Truth one) e = refl
  look_kept (Asking one) e = e

  -- ---- the code of a look

  pub zero_permitted : (value : Side) → is_faultless items (alone_side value) ≡ false → side_rules items value ≡ []
      → relation_rules items value zero_side ≡ []
  zero_permitted value is e =
      sym (relation_kept items value relation.Equal zero_side) ∙ zero_kept value (no_literal (alone_side value) is) e

  pub no_look : (value : Side) (before : Code) → is_faultless items (alone_side value) ≡ true
      → before ≡ append before (look_fragment items (value_look items value) before)
  no_look value before is =
      sym (joined_nothing before)
      ∙ sym (ap (λ (faultless : Bool). append before (look_fragment items
      (if faultless then None else Some (condition.Relation value relation.Equal zero_side)) before)) is)

  pub one_look : (value : Side) (before : Code) → is_faultless items (alone_side value) ≡ false
      → relation_fragment items value relation.Equal zero_side before
      ≡ look_fragment items (value_look items value) before
  one_look value before is =
      sym (ap (λ (p : Fragment). p before) (relation_is items value relation.Equal zero_side))
      ∙ sym (ap (λ (faultless : Bool). look_fragment items
      (if faultless then None else Some (condition.Relation value relation.Equal zero_side)) before) is)

  pub no_looks : (subjects : List Subject) (object : Option Object) (before : Code)
      → is_asked_first items subjects object ≡ true
      → before ≡ append before (subjects_fragment items subjects object before)
  no_looks subjects object before is =
      sym (joined_nothing before) ∙ sym (ap (λ (once : Bool). append before (taken_from items once subjects before)) is)

  pub all_looks : (subjects : List Subject) (object : Option Object) (before : Code)
      → is_asked_first items subjects object ≡ false
      → each_subject_fragment items subjects before ≡ subjects_fragment items subjects object before
  all_looks subjects object before is = sym (ap (λ (once : Bool). taken_from items once subjects before) is)

  -- ---- a look finds what the subject is taken with

  faultless_item : (one : Reference) (storage : Storage) → reference_rules items any_item one ≡ []
      → ((not (has_part one) && is_single (slice_get items (item_number items one.item)))
      && not (not (has_part one) && is_numeric_item (slice_get items (item_number items one.item)))) ≡ true
      → (place_of items one storage >>= take_item storage) ≡ Ok tt
  faultless_item one storage e is =
      let single = not (has_part one) && is_single (slice_get items (item_number items one.item)) in
      let item = is_numeric_item (slice_get items (item_number items one.item)) in
      let numeric = not (has_part one) && item in
      let hand = first_true single (not numeric) is in
      let place = single_place items one storage e hand in
      let whole = first_true (not (has_part one)) (is_single (slice_get items (item_number items one.item))) hand in
      let text = sym (ap is_numeric_item place.1) ∙ sym (ap (λ b. b && item) whole)
      ∙ not_so numeric (second_true single (not numeric) is) in
      ap (λ (found : Evaluation ItemPlace). found >>= take_item storage) place.2
      ∙ text_taken place.0.item.kind (part_of storage (place_after place.0 0)) text

  faultless_taken : (alone : Option Operand) (value : Side) (storage : Storage) → is_faultless items alone ≡ true
      → side_from items alone value ≡ []
      → take_value items alone value storage ≡ Ok tt
  faultless_taken (Some (operand.Item one)) value storage is e = faultless_item one storage e is
  faultless_taken (Some (operand.Literal one)) value storage is e = refl
  faultless_taken None value storage is e = absurd cc

  value_found : (value : Side) (storage : Storage) (faultless : Bool)
      → is_faultless items (alone_side value) ≡ faultless → side_rules items value ≡ []
      → look_value items (if faultless then None else Some (condition.Relation value relation.Equal zero_side)) storage
      ≡ take_value items (alone_side value) value storage
  value_found value storage true is e = sym (faultless_taken (alone_side value) value storage is e)
  value_found value storage false is e = beside_zero items value _ storage (no_literal (alone_side value) is)

  pub look_found : (one : ResolvedOperand Side) (storage : Storage) → resolved_rules items one ≡ []
      → look_value items (look items one) storage ≡ take_resolved items one storage
  look_found (Value one) storage e = value_found one storage (is_faultless items (alone_side one)) refl e
  look_found (Truth one) storage e = refl
  look_found (Asking one) storage e = refl

  -- ---- an object that asks at once

  first_kept : (value first_one : Side) (last : Option Side)
      → condition_rules items (value_within value first_one last) ≡ [] → relation_rules items value first_one ≡ []
  first_kept value first_one None e = sym (relation_kept items value relation.Equal first_one) ∙ e
  first_kept value first_one (Some last) e = from_rules items value first_one last e

  value_fault : (value : Side) (wanted : ObjectValues) (alone : Option Operand) (storage : Storage) (fault : Fault)
      → alone_side wanted.first ≡ alone
      → is_at_hand items alone ≡ true → side_from items alone wanted.first ≡ []
      → take_value items (alone_side value) value storage ≡ Err fault
      → holds items (value_condition value wanted) storage ≡ Err fault
  value_fault value wanted (Some one) storage fault is hand kept e =
      asked_fault items value wanted one storage fault is (at_hand items one storage hand kept) e
  value_fault value wanted None storage fault is hand kept e = absurd cc

  condition_fault : (found : Evaluation Bool) (fault : Fault) → without_value found ≡ Err fault → found ≡ Err fault
  condition_fault (Ok truth) fault e = absurd cc
  condition_fault (Err other) fault e = let is : ◌≡◌ {A = Evaluation (Unit {0})} (Err other) (Err fault) = e in cc

  looked_fault : (one : ResolvedOperand Side) (object : Option (ResolvedOperand ObjectValues)) (storage : Storage)
      (fault : Fault) → asks_at_once items one object ≡ true
      → condition_rules items (optional_condition one object) ≡ []
      → take_resolved items one storage ≡ Err fault → holds items (optional_condition one object) storage ≡ Err fault
  looked_fault (Value value) (Some (Value wanted)) storage fault once kept e =
      let within = value_within value wanted.first wanted.last in
      let relates =
      first_kept value wanted.first wanted.last (sym (told_rules items (not wanted.negated) within) ∙ kept) in
      value_fault value wanted (alone_side wanted.first) storage fault refl once
      (right_kept items value wanted.first relates) e
  looked_fault (Value value) (Some (Truth other)) storage fault once kept e = absurd cc
  looked_fault (Value value) (Some (Asking other)) storage fault once kept e = absurd cc
  looked_fault (Value value) None storage fault once kept e = absurd cc
  looked_fault (Truth one) object storage fault once kept e = absurd cc
  looked_fault (Asking one) (Some (Value other)) storage fault once kept e = absurd cc
  looked_fault (Asking one) (Some (Truth truth)) storage fault once kept e =
      told_fault items truth one storage fault (condition_fault (holds items one storage) fault e)
  looked_fault (Asking one) (Some (Asking other)) storage fault once kept e =
      any_fault items (condition.All (one ∷ other ∷ []))
      (condition.All (condition.Not one ∷ condition.Not other ∷ []) ∷ []) storage fault
      (all_fault items one (other ∷ []) storage fault (condition_fault (holds items one storage) fault e))
  looked_fault (Asking one) None storage fault once kept e = absurd cc

  -- of one subject alone
  alone_fault : (found : Evaluation (Unit {0})) (storage : Storage) (fault : Fault)
      → (found >>= (λ _. take_subjects items [] storage)) ≡ Err fault → found ≡ Err fault
  alone_fault (Ok value) storage fault e = absurd cc
  alone_fault (Err other) storage fault e = e

  object_fault : (one : Subject) (object : Object) (storage : Storage) (fault : Fault)
      → is_asked_first items (one ∷ []) (Some object) ≡ true
      → object_rules items one object ≡ [] → take_subjects items (one ∷ []) storage ≡ Err fault
      → holds items (selection_condition items one object.choice) storage ≡ Err fault
  object_fault one object storage fault once kept e =
      let l = resolved_subject items one in
      let o = optional_choice items object.choice in
      let is = asked_is items one object.choice in
      ap (λ (c : Condition). holds items c storage) is
      ∙ looked_fault l o storage fault once (sym (ap (condition_rules items) is)
      ∙ rules.asked_kept items one object kept) (alone_fault (take_resolved items l storage) storage fault e)

  when_fault : (one : Subject) (objects : List Object) (storage : Storage) (fault : Fault)
      → is_asked_first items (one ∷ []) (slice_get objects 0) ≡ true
      → objects_rules items (one ∷ []) objects ≡ [] → take_subjects items (one ∷ []) storage ≡ Err fault
      → holds items (condition.All (object_conditions items (one ∷ []) objects)) storage ≡ Err fault
  when_fault one [] storage fault once kept e = absurd cc
  when_fault one (object ∷ others) storage fault once kept e =
      all_fault items (selection_condition items one object.choice) (object_conditions items [] others) storage fault
      (object_fault one object storage fault once (rules.first_object items one [] object others kept) e)

  whens_fault : (one : Subject) (whens : List When) (storage : Storage) (fault : Fault)
      → is_asked_first items (one ∷ []) (object_of_when (slice_get whens 0)) ≡ true
      → each (when_rules items (one ∷ [])) whens ≡ [] → take_subjects items (one ∷ []) storage ≡ Err fault
      → holds items (condition.Any (when_conditions items (one ∷ []) whens)) storage ≡ Err fault
  whens_fault one [] storage fault once kept e = absurd cc
  whens_fault one (when ∷ more) storage fault once kept e =
      any_fault items (when_condition items (one ∷ []) when) (when_conditions items (one ∷ []) more) storage fault
      (when_fault one when.objects storage fault once
      (rules.objects_of items (one ∷ []) when
      (left_none (when_rules items (one ∷ []) when) (each (when_rules items (one ∷ [])) more) kept)) e)

  -- ---- EVALUATE, whether its subjects are looked at or the first object does it

  -- Where what follows has the same fault, it is the same with and without.
  fault_there : (found : Evaluation (Unit {0})) (e : Evaluation Bool) (s : State) (go : Bool → State → Outcome)
      → ((fault : Fault) → found ≡ Err fault → e ≡ Err fault)
      → with_value e s (λ truth. go truth s) ≡ with_value found s (λ _. with_value e s (λ truth. go truth s))
  fault_there (Ok value) e s go same = refl
  fault_there (Err fault) e s go same =
      ap (λ (x : Evaluation Bool). with_value x s (λ truth. go truth s)) (same fault refl)

  module _ {S : Type 0} (inside : S → List RuleBreach) (run : S → State → Outcome) (other : Option (List S)) where
    first_taken : (subjects : List Subject) (selected : List (Selected S)) (s : State)
        → is_asked_first items subjects (first_object selected) ≡ true
        → each (selected_rules items inside subjects) selected ≡ []
        → selection_outcome items run subjects selected other s ≡ with_value (take_subjects items subjects s.storage) s
        (λ _. selection_outcome items run subjects selected other s)
    first_taken [] selected s once kept = absurd cc
    first_taken (one ∷ two ∷ more) selected s once kept = absurd cc
    first_taken (one ∷ []) [] s once kept = absurd cc
    first_taken (one ∷ []) (group ∷ more) s once kept =
        fault_there (take_subjects items (one ∷ []) s.storage)
        (holds items (selected_condition items (one ∷ []) group) s.storage) s
        (one_of (in_turn run group.statements) (selection_outcome items run (one ∷ []) more other))
        (λ fault e. whens_fault one group.whens s.storage fault once
        (rules.whens_of items inside (one ∷ []) group (rules.first_group items inside (one ∷ []) group more kept)) e)

    pub looks_are : (subjects : List Subject) (selected : List (Selected S)) (s : State) (once : Bool)
        → is_asked_first items subjects (first_object selected) ≡ once
        → each (selected_rules items inside subjects) selected ≡ []
        → with_value (looks_value items once subjects s.storage) s
        (λ _. selection_outcome items run subjects selected other s)
        ≡ with_value (take_subjects items subjects s.storage) s
        (λ _. selection_outcome items run subjects selected other s)
    looks_are subjects selected s true is kept = first_taken subjects selected s is kept
    looks_are subjects selected s false is kept = refl
