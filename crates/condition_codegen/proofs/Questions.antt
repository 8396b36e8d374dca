-- The code and the rules of what the objects of EVALUATE ask of its subjects, by its parts.
use Rattle.std.proofs.Common.{◌≡◌, Bool, true, false, not, List, [], ◌∷◌, length, map, Some, refl, sym, ap, ◌∙◌, arith}
use Rattle.source_tree.specs.declared.condition.Relation.TheVariants.{GreaterOrEqual, LessOrEqual}
use Rattle.source_tree.specs.declared.condition.Side.{Side}
use Rattle.source_tree.specs.declared.condition.Condition.{Condition}
use Rattle.source_tree.specs.declared.condition.Condition.TheVariants as condition
use Rattle.source_tree.specs.declared.evaluate_statement.Subject.{Subject}
use Rattle.source_tree.specs.declared.evaluate_statement.Object.{Object}
use Rattle.source_tree.specs.declared.evaluate_statement.When.{When}
use Rattle.source_tree.specs.Broken.{each}
use Rattle.source_tree.specs.ConditionRules.{relation_rules, condition_rules}
use Rattle.source_tree.specs.Evaluate.{constant, condition_or_opposite, alike, value_within, selection_condition}
use Rattle.source_tree.specs.Evaluate.{object_conditions, when_condition, when_conditions}
use Rattle.source_tree.specs.EvaluateRules.{when_rules}
use Rattle.source_tree.specs.Places.{LocatedItem}
use Rattle.data_instructions.specs.ConditionCodes.{negation}
use Rattle.code_image.specs.declared.code.Code.{Code}
use Rattle.condition_codegen.specs.Fragments.{Fragment, append, sequence, in_order}
use Rattle.condition_codegen.specs.DataCode.{works_fragment}
use Rattle.condition_codegen.specs.ConditionCode.{relation_fragment, and_fragment, or_fragment, condition_fragment}
use Rattle.condition_codegen.specs.EvaluateCode.{constant_fragment}
use Rattle.condition_codegen.proofs.ConditionLayers.{relation_is, not_is, all_is, any_is, relation_kept, not_rules}
use Rattle.condition_codegen.proofs.ConditionLayers.{all_rules, any_rules}
use Rattle.condition_codegen.proofs.EvaluateKept.{objects_of, asked_each_kept}
use Rattle.condition_codegen.proofs.Kept.{front_kept, back_kept, both_kept}
use Rattle.condition_codegen.proofs.Fragments.{joined_assoc, joined_nothing}

module _ (items : List LocatedItem) where
  -- ---- the code

  pub constant_is : (truth : Bool) → condition_fragment items (constant truth) ≡ constant_fragment truth
  constant_is true = all_is items []
  constant_is false = any_is items []

  -- NOT after a condition that is to be false
  pub told_is : (one : Condition) (truth negated : Bool) (before : Code) → negated ≡ not truth
      → sequence (condition_fragment items one) (works_fragment (negation negated)) before
      ≡ condition_fragment items (condition_or_opposite truth one) before
  told_is one true false before e = joined_nothing (condition_fragment items one before)
  told_is one false true before e = sym (ap (λ (p : Fragment). p before) (not_is items one))
  told_is one true true before e = absurd cc
  told_is one false false before e = absurd cc

  pub unless_is : (one : Condition) (negated : Bool) (before : Code)
      → sequence (condition_fragment items one) (works_fragment (negation negated)) before
      ≡ condition_fragment items (condition_or_opposite (not negated) one) before
  unless_is one true before = told_is one false true before refl
  unless_is one false before = told_is one true false before refl

  -- two conditions with AND between, and with OR
  pub both_are : (one other : Condition) (before : Code)
      → sequence (condition_fragment items one) (and_fragment (condition_fragment items other)) before
      ≡ condition_fragment items (condition.All (one ∷ other ∷ [])) before
  both_are one other before =
      let first = condition_fragment items one before in
      ap (append first) (sym (joined_nothing (and_fragment (condition_fragment items other) (append before first))))
      ∙ sym (ap (λ (p : Fragment). p before) (all_is items (one ∷ other ∷ [])))

  pub either_is : (one other : Condition) (before : Code)
      → sequence (condition_fragment items one) (or_fragment (condition_fragment items other)) before
      ≡ condition_fragment items (condition.Any (one ∷ other ∷ [])) before
  either_is one other before =
      let first = condition_fragment items one before in
      ap (append first) (sym (joined_nothing (or_fragment (condition_fragment items other) (append before first))))
      ∙ sym (ap (λ (p : Fragment). p before) (any_is items (one ∷ other ∷ [])))

  pub between_is : (value from last : Side) (before : Code)
      → sequence (relation_fragment items value GreaterOrEqual from)
      (and_fragment (relation_fragment items value LessOrEqual last)) before
      ≡ condition_fragment items (value_within value from (Some last)) before
  between_is value from last before =
      let above = condition.Relation value GreaterOrEqual from in
      let below = condition.Relation value LessOrEqual last in
      ap (λ (p : Fragment). sequence p (and_fragment (relation_fragment items value LessOrEqual last)) before)
      (sym (relation_is items value GreaterOrEqual from))
      ∙ ap (λ (p : Fragment). sequence (condition_fragment items above) (and_fragment p) before)
      (sym (relation_is items value LessOrEqual last))
      ∙ both_are above below before

  -- ---- the objects of a WHEN, subject by subject

  abbrev pub further_piece : Condition → Fragment
  further_piece one = and_fragment (condition_fragment items one)

  -- what is there, and what is still to come, are the whole
  pub pairs_go_on :
      (subject : Subject) (subjects : List Subject) (object : Object) (objects : List Object) (code next : Code)
      → next ≡ append code (further_piece (selection_condition items subject object.choice) code)
      → append next (in_order further_piece (object_conditions items subjects objects) next)
      ≡ append code (in_order further_piece (object_conditions items (subject ∷ subjects) (object ∷ objects)) code)
  pairs_go_on subject subjects object objects code next is =
      let one = further_piece (selection_condition items subject object.choice) code in
      ap (λ (c : Code). append c (in_order further_piece (object_conditions items subjects objects) c)) is
      ∙ joined_assoc code one (in_order further_piece (object_conditions items subjects objects) (append code one))

  pub no_subjects : (subjects : List Subject) (objects : List Object) → length subjects ≡ 0
      → object_conditions items subjects objects ≡ []
  no_subjects [] objects e = refl
  no_subjects (one ∷ more) objects e = absurd (omega (arith, e))

  pub no_objects : (subjects : List Subject) (objects : List Object) → length objects ≡ 0
      → object_conditions items subjects objects ≡ []
  no_objects [] objects e = refl
  no_objects (one ∷ more) [] e = refl
  no_objects (one ∷ more) (object ∷ others) e = absurd (omega (arith, e))

  -- ---- the WHENs of a group

  pub no_whens : (subjects : List Subject) (whens : List When) → length whens ≡ 0
      → when_conditions items subjects whens ≡ []
  no_whens subjects [] e = refl
  no_whens subjects (one ∷ more) e = absurd (omega (arith, e))

  whens_map : (subjects : List Subject) (more : List When) (before : Code)
      → in_order (λ (one : When). or_fragment (condition_fragment items (when_condition items subjects one))) more
      before
      ≡ in_order or_fragment (map (condition_fragment items) (when_conditions items subjects more)) before
  whens_map subjects [] before = refl
  whens_map subjects (one ∷ more) before =
      let first = or_fragment (condition_fragment items (when_condition items subjects one)) before in
      ap (append first) (whens_map subjects more (append before first))

  pub whens_are : (subjects : List Subject) (first : When) (more : List When) (before : Code)
      → sequence (condition_fragment items (when_condition items subjects first)) (in_order
      (λ (one : When). or_fragment (condition_fragment items (when_condition items subjects one))) more) before
      ≡ condition_fragment items (condition.Any (when_conditions items subjects (first ∷ more))) before
  whens_are subjects first more before =
      let one = condition_fragment items (when_condition items subjects first) before in
      ap (append one) (whens_map subjects more (append before one))
      ∙ sym (ap (λ (p : Fragment). p before) (any_is items (when_conditions items subjects (first ∷ more))))

  -- ---- the rules

  pub told_rules : (truth : Bool) (one : Condition)
      → condition_rules items (condition_or_opposite truth one) ≡ condition_rules items one
  told_rules true one = refl
  told_rules false one = not_rules items one

  first_of_both : (one other : Condition) → condition_rules items (condition.All (one ∷ other ∷ [])) ≡ []
      → condition_rules items one ≡ []
  first_of_both one other e = front_kept (condition_rules items one) (each (condition_rules items) (other ∷ []))
      (sym (all_rules items (one ∷ other ∷ [])) ∙ e)

  other_of_both : (one other : Condition) → condition_rules items (condition.All (one ∷ other ∷ [])) ≡ []
      → condition_rules items other ≡ []
  other_of_both one other e =
      front_kept (condition_rules items other) []
      (back_kept (condition_rules items one) (each (condition_rules items) (other ∷ []))
      (sym (all_rules items (one ∷ other ∷ [])) ∙ e))

  pub from_rules : (value from last : Side) → condition_rules items (value_within value from (Some last)) ≡ []
      → relation_rules items value from ≡ []
  from_rules value from last e =
      sym (relation_kept items value GreaterOrEqual from)
      ∙ first_of_both (condition.Relation value GreaterOrEqual from) (condition.Relation value LessOrEqual last) e

  pub last_rules : (value from last : Side) → condition_rules items (value_within value from (Some last)) ≡ []
      → relation_rules items value last ≡ []
  last_rules value from last e =
      sym (relation_kept items value LessOrEqual last)
      ∙ other_of_both (condition.Relation value GreaterOrEqual from) (condition.Relation value LessOrEqual last) e

  true_both : (one other : Condition) → condition_rules items (alike one other) ≡ []
      → condition_rules items (condition.All (one ∷ other ∷ [])) ≡ []
  true_both one other e =
      let first = condition.All (one ∷ other ∷ []) in
      let second = condition.All (condition.Not one ∷ condition.Not other ∷ []) in
      front_kept (condition_rules items first) (each (condition_rules items) (second ∷ []))
      (sym (any_rules items (first ∷ second ∷ [])) ∙ e)

  pub one_alike : (one other : Condition) → condition_rules items (alike one other) ≡ []
      → condition_rules items one ≡ []
  one_alike one other e = first_of_both one other (true_both one other e)

  pub other_alike : (one other : Condition) → condition_rules items (alike one other) ≡ []
      → condition_rules items other ≡ []
  other_alike one other e = other_of_both one other (true_both one other e)

  -- the first pair, and the further ones
  pub pair_rules : (subject : Subject) (subjects : List Subject) (object : Object) (objects : List Object)
      → each (condition_rules items) (object_conditions items (subject ∷ subjects) (object ∷ objects)) ≡ []
      → condition_rules items (selection_condition items subject object.choice) ≡ []
  pair_rules subject subjects object objects e =
      front_kept (condition_rules items (selection_condition items subject object.choice))
      (each (condition_rules items) (object_conditions items subjects objects)) e

  pub pairs_rules : (subject : Subject) (subjects : List Subject) (object : Object) (objects : List Object)
      → each (condition_rules items) (object_conditions items (subject ∷ subjects) (object ∷ objects)) ≡ []
      → each (condition_rules items) (object_conditions items subjects objects) ≡ []
  pairs_rules subject subjects object objects e =
      back_kept (condition_rules items (selection_condition items subject object.choice))
      (each (condition_rules items) (object_conditions items subjects objects)) e

  -- what each WHEN asks
  pub whens_rules : (subjects : List Subject) (whens : List When) → each (when_rules items subjects) whens ≡ []
      → each (λ (one : When). each (condition_rules items) (object_conditions items subjects one.objects)) whens ≡ []
  whens_rules subjects [] e = refl
  whens_rules subjects (one ∷ more) e =
      let first = when_rules items subjects one in
      let others = each (when_rules items subjects) more in
      both_kept (each (condition_rules items) (object_conditions items subjects one.objects))
      (each (λ (w : When). each (condition_rules items) (object_conditions items subjects w.objects)) more)
      (asked_each_kept items subjects one.objects (objects_of items subjects one (front_kept first others e)))
      (whens_rules subjects more (back_kept first others e))
