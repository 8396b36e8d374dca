-- What the objects of EVALUATE ask keeps the rules of conditions, where the statement keeps its own.
use Rattle.std.proofs.Common.{◌≡◌, List, [], ◌∷◌, ◌++◌, length, map, refl, ◌∙◌}
use Rattle.std.specs.Prelude.{not, ◌==◌}
use Rattle.source_tree.specs.declared.evaluate_statement.Subject.{Subject}
use Rattle.source_tree.specs.declared.evaluate_statement.Object.{Object}
use Rattle.source_tree.specs.declared.evaluate_statement.When.{When}
use Rattle.source_tree.specs.declared.evaluate_statement.Selected.{Selected}
use Rattle.source_tree.specs.declared.evaluate_statement.Evaluate.{Evaluate}
use Rattle.source_tree.specs.Broken.{RuleBreach, where_so, each}
use Rattle.source_tree.specs.ConditionRules.{condition_rules}
use Rattle.source_tree.specs.Evaluate.{fits, selection_condition, object_conditions, when_condition, when_conditions}
use Rattle.source_tree.specs.Evaluate.{selected_condition}
use Rattle.source_tree.specs.EvaluateRules.{at_object, subject_rules, object_rules, objects_rules, when_rules}
use Rattle.source_tree.specs.EvaluateRules.{selected_rules}
use Rattle.source_tree.specs.Places.{LocatedItem}
use Rattle.source_tree.specs.Rules.{phrase_rules, evaluate_rules}
use Rattle.condition_codegen.proofs.Lists.{left_none, right_none}
use Rattle.condition_codegen.proofs.ConditionLayers.{all_rules, any_rules}

-- what is nothing elsewhere is nothing
none_mapped : {A B : Type 0} (f : A → B) (xs : List A) → map f xs ≡ [] → xs ≡ []
none_mapped f [] e = refl
none_mapped f (x ∷ xs) e = absurd cc

both_none : {A : Type 0} (xs ys : List A) → xs ≡ [] → ys ≡ [] → xs ++ ys ≡ []
both_none [] ys e f = f
both_none (x ∷ xs) ys e f = absurd cc

module _ (items : List LocatedItem) where
  -- ---- what an object asks of its subject

  pub asked_kept : (one : Subject) (object : Object) → object_rules items one object ≡ []
      → condition_rules items (selection_condition items one object.choice) ≡ []
  asked_kept one object e =
      let broken = condition_rules items (selection_condition items one object.choice) in
      none_mapped (at_object object.place) broken
      (right_none (where_so (not (fits items one object.choice)) 53 object.place) (map (at_object object.place) broken)
      e)

  -- the first object of a WHEN, and the others
  pub first_object : (one : Subject) (more : List Subject) (object : Object) (others : List Object)
      → objects_rules items (one ∷ more) (object ∷ others) ≡ []
      → object_rules items one object ≡ []
  first_object one more object others e = left_none (object_rules items one object) (objects_rules items more others) e

  pub other_objects : (one : Subject) (more : List Subject) (object : Object) (others : List Object)
      → objects_rules items (one ∷ more) (object ∷ others) ≡ []
      → objects_rules items more others ≡ []
  other_objects one more object others e =
      right_none (object_rules items one object) (objects_rules items more others) e

  pub objects_of : (subjects : List Subject) (one : When) → when_rules items subjects one ≡ []
      → objects_rules items subjects one.objects ≡ []
  objects_of subjects one e =
      right_none (where_so (not (length one.objects == length subjects)) 53 one.place)
      (objects_rules items subjects one.objects) e

  pub asked_each_kept : (subjects : List Subject) (objects : List Object) → objects_rules items subjects objects ≡ []
      → each (condition_rules items) (object_conditions items subjects objects) ≡ []
  asked_each_kept [] objects e = refl
  asked_each_kept (one ∷ more) [] e = refl
  asked_each_kept (one ∷ more) (object ∷ others) e =
      both_none (condition_rules items (selection_condition items one object.choice))
      (each (condition_rules items) (object_conditions items more others))
      (asked_kept one object (first_object one more object others e))
      (asked_each_kept more others (other_objects one more object others e))

  -- ---- WHENs

  pub when_kept : (subjects : List Subject) (one : When) → when_rules items subjects one ≡ []
      → condition_rules items (when_condition items subjects one) ≡ []
  when_kept subjects one e = all_rules items (object_conditions items subjects one.objects)
      ∙ asked_each_kept subjects one.objects (objects_of subjects one e)

  pub whens_kept : (subjects : List Subject) (whens : List When) → each (when_rules items subjects) whens ≡ []
      → each (condition_rules items) (when_conditions items subjects whens) ≡ []
  whens_kept subjects [] e = refl
  whens_kept subjects (one ∷ more) e =
      both_none (condition_rules items (when_condition items subjects one))
      (each (condition_rules items) (when_conditions items subjects more))
      (when_kept subjects one (left_none (when_rules items subjects one) (each (when_rules items subjects) more) e))
      (whens_kept subjects more (right_none (when_rules items subjects one) (each (when_rules items subjects) more) e))

  module _ {S : Type 0} (inside : S → List RuleBreach) where
    -- ---- a group of WHENs and its statements

    pub whens_of : (subjects : List Subject) (one : Selected S) → selected_rules items inside subjects one ≡ []
        → each (when_rules items subjects) one.whens ≡ []
    whens_of subjects one e = left_none (each (when_rules items subjects) one.whens) (each inside one.statements) e

    pub statements_of : (subjects : List Subject) (one : Selected S) → selected_rules items inside subjects one ≡ []
        → each inside one.statements ≡ []
    statements_of subjects one e =
        right_none (each (when_rules items subjects) one.whens) (each inside one.statements) e

    pub selected_kept : (subjects : List Subject) (one : Selected S) → selected_rules items inside subjects one ≡ []
        → condition_rules items (selected_condition items subjects one) ≡ []
    selected_kept subjects one e = any_rules items (when_conditions items subjects one.whens)
        ∙ whens_kept subjects one.whens (whens_of subjects one e)

    -- the first group, and the others
    pub first_group : (subjects : List Subject) (one : Selected S) (more : List (Selected S))
        → each (selected_rules items inside subjects) (one ∷ more) ≡ []
        → selected_rules items inside subjects one ≡ []
    first_group subjects one more e =
        left_none (selected_rules items inside subjects one) (each (selected_rules items inside subjects) more) e

    pub other_groups : (subjects : List Subject) (one : Selected S) (more : List (Selected S))
        → each (selected_rules items inside subjects) (one ∷ more) ≡ []
        → each (selected_rules items inside subjects) more ≡ []
    other_groups subjects one more e =
        right_none (selected_rules items inside subjects one) (each (selected_rules items inside subjects) more) e

    -- ---- the statement

    pub subjects_of : (one : Evaluate S) → evaluate_rules items inside one ≡ []
        → each (subject_rules items) one.subjects ≡ []
    subjects_of one e =
        let subjects = each (subject_rules items) one.subjects in
        let groups = each (selected_rules items inside one.subjects) one.selected in
        left_none subjects groups (left_none (subjects ++ groups) (phrase_rules inside one.other) e)

    pub groups_of : (one : Evaluate S) → evaluate_rules items inside one ≡ []
        → each (selected_rules items inside one.subjects) one.selected ≡ []
    groups_of one e =
        let subjects = each (subject_rules items) one.subjects in
        let groups = each (selected_rules items inside one.subjects) one.selected in
        right_none subjects groups (left_none (subjects ++ groups) (phrase_rules inside one.other) e)

    pub other_of : (one : Evaluate S) → evaluate_rules items inside one ≡ [] → phrase_rules inside one.other ≡ []
    other_of one e =
        right_none (each (subject_rules items) one.subjects
        ++ each (selected_rules items inside one.subjects) one.selected) (phrase_rules inside one.other) e
