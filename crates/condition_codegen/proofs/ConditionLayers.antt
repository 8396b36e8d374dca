-- The code and the rules of a condition by its form, and those of the conditions in it.
use Rattle.std.proofs.Common.{◌≡◌, List, [], ◌∷◌, ◌++◌, map, Bool, refl, sym, ap, ◌∙◌}
use Rattle.source_tree.specs.declared.reference.Reference.{Reference}
use Rattle.source_tree.specs.declared.expression.Expression.{Expression}
use Rattle.source_tree.specs.declared.condition.Relation.{Relation}
use Rattle.source_tree.specs.declared.condition.SignTest.{SignTest}
use Rattle.source_tree.specs.declared.condition.Class.{Class}
use Rattle.source_tree.specs.declared.condition.Side.{Side}
use Rattle.source_tree.specs.declared.condition.Condition.{Condition, roll-Condition}
use Rattle.source_tree.specs.declared.condition.Condition.TheVariants as condition
use Rattle.source_tree.specs.declared.condition.Condition.TheVariants.{rolls-Name, rolls-Relation, rolls-Sign}
use Rattle.source_tree.specs.declared.condition.Condition.TheVariants.{rolls-Class, rolls-Not, rolls-All, rolls-Any}
use Rattle.source_tree.specs.declared.condition.Condition.TheOpen.{Condition-F}
use Rattle.source_tree.specs.declared.condition.Condition.TheFolds.{map-Condition, fold-roll-Condition}
use Rattle.source_tree.specs.Broken.{RuleBreach, each}
use Rattle.source_tree.specs.NameRules.{any_item, reference_rules}
use Rattle.source_tree.specs.ArithmeticRules.{expression_rules}
use Rattle.source_tree.specs.ConditionRules.{broken_already, condition_name_rules, relation_rules}
use Rattle.source_tree.specs.ConditionRules.{condition_layer_rules, condition_rules}
use Rattle.source_tree.specs.Places.{LocatedItem}
use Rattle.data_instructions.specs.declared.instruction.DataInstruction.TheVariants as i
use Rattle.data_instructions.specs.declared.test.Test.TheVariants as t
use Rattle.code_image.specs.declared.code.Code.{Code}
use Rattle.condition_codegen.specs.Fragments.{Fragment, append, sequence, in_order}
use Rattle.condition_codegen.specs.DataCode.{work_fragment}
use Rattle.condition_codegen.specs.ConditionCode.{condition_name_fragment, relation_fragment, and_fragment, or_fragment}
use Rattle.condition_codegen.specs.ConditionCode.{all_fragment, any_fragment, condition_layer_fragment}
use Rattle.condition_codegen.specs.ConditionCode.{condition_fragment}

module _ (items : List LocatedItem) where
  pub rolled_is : (one : Condition-F Condition) → condition_fragment items (roll-Condition one)
      ≡ condition_layer_fragment items (map-Condition Condition Fragment (condition_fragment items) one)
  unfolding condition_fragment
  rolled_is one = fold-roll-Condition Fragment (condition_layer_fragment items) one

  pub rolled_rules : (one : Condition-F Condition) → condition_rules items (roll-Condition one) ≡ condition_layer_rules
      items (map-Condition Condition (List RuleBreach) (condition_rules items) one)
  unfolding condition_rules
  rolled_rules one = fold-roll-Condition (List RuleBreach) (condition_layer_rules items) one

  -- of a condition that is rolled up of a form
  form_is : (one : Condition) (form : Condition-F Condition) → roll-Condition form ≡ one
      → condition_fragment items one
      ≡ condition_layer_fragment items (map-Condition Condition Fragment (condition_fragment items) form)
  form_is one form e = ap (condition_fragment items) (sym e) ∙ rolled_is form

  form_rules : (one : Condition) (form : Condition-F Condition) → roll-Condition form ≡ one
      → condition_rules items one
      ≡ condition_layer_rules items (map-Condition Condition (List RuleBreach) (condition_rules items) form)
  form_rules one form e = ap (condition_rules items) (sym e) ∙ rolled_rules form

  pub name_is : (one : Reference) → condition_fragment items (condition.Name one) ≡ condition_name_fragment items one
  name_is one = form_is (condition.Name one) (Condition-F.Name one) (rolls-Name one)

  pub relation_is : (left : Side) (one : Relation) (right : Side)
      → condition_fragment items (condition.Relation left one right) ≡ relation_fragment items left one right
  relation_is left one right =
      form_is (condition.Relation left one right) (Condition-F.Relation left one right) (rolls-Relation left one right)

  pub sign_is : (value : Expression) (negated : Bool) (one : SignTest)
      → condition_fragment items (condition.Sign value negated one)
      ≡ condition_layer_fragment items (Condition-F.Sign value negated one)
  sign_is value negated one =
      form_is (condition.Sign value negated one) (Condition-F.Sign value negated one) (rolls-Sign value negated one)

  pub class_is : (reference : Reference) (negated : Bool) (one : Class)
      → condition_fragment items (condition.Class reference negated one)
      ≡ condition_layer_fragment items (Condition-F.Class reference negated one)
  class_is reference negated one = form_is (condition.Class reference negated one)
      (Condition-F.Class reference negated one) (rolls-Class reference negated one)

  pub not_is : (inner : Condition) → condition_fragment items (condition.Not inner) ≡ sequence
      (condition_fragment items inner) (work_fragment (i.Test t.Invert))
  not_is inner = form_is (condition.Not inner) (Condition-F.Not inner) (rolls-Not inner)

  pub all_is : (parts : List Condition)
      → condition_fragment items (condition.All parts) ≡ all_fragment (map (condition_fragment items) parts)
  all_is parts = form_is (condition.All parts) (Condition-F.All parts) (rolls-All parts)

  pub any_is : (parts : List Condition)
      → condition_fragment items (condition.Any parts) ≡ any_fragment (map (condition_fragment items) parts)
  any_is parts = form_is (condition.Any parts) (Condition-F.Any parts) (rolls-Any parts)

  -- ---- the rules

  pub name_rules : (one : Reference) → condition_rules items (condition.Name one) ≡ condition_name_rules items one
  name_rules one = form_rules (condition.Name one) (Condition-F.Name one) (rolls-Name one)

  pub relation_kept : (left : Side) (one : Relation) (right : Side)
      → condition_rules items (condition.Relation left one right) ≡ relation_rules items left right
  relation_kept left one right = form_rules (condition.Relation left one right) (Condition-F.Relation left one right)
      (rolls-Relation left one right)

  pub sign_rules : (value : Expression) (negated : Bool) (one : SignTest)
      → condition_rules items (condition.Sign value negated one) ≡ expression_rules items value
  sign_rules value negated one =
      form_rules (condition.Sign value negated one) (Condition-F.Sign value negated one) (rolls-Sign value negated one)

  pub class_rules : (reference : Reference) (negated : Bool) (one : Class)
      → condition_rules items (condition.Class reference negated one) ≡ reference_rules items any_item reference
  class_rules reference negated one = form_rules (condition.Class reference negated one)
      (Condition-F.Class reference negated one) (rolls-Class reference negated one)

  pub not_rules : (inner : Condition) → condition_rules items (condition.Not inner) ≡ condition_rules items inner
  not_rules inner = form_rules (condition.Not inner) (Condition-F.Not inner) (rolls-Not inner)

  each_map : (all : List Condition)
      → each broken_already (map (condition_rules items) all) ≡ each (condition_rules items) all
  each_map [] = refl
  each_map (one ∷ more) = ap (λ l. condition_rules items one ++ l) (each_map more)

  pub all_rules : (parts : List Condition)
      → condition_rules items (condition.All parts) ≡ each (condition_rules items) parts
  all_rules parts = form_rules (condition.All parts) (Condition-F.All parts) (rolls-All parts) ∙ each_map parts

  pub any_rules : (parts : List Condition)
      → condition_rules items (condition.Any parts) ≡ each (condition_rules items) parts
  any_rules parts = form_rules (condition.Any parts) (Condition-F.Any parts) (rolls-Any parts) ∙ each_map parts

  -- ---- further conditions after AND and OR

  ands_map : (more : List Condition) (before : Code)
      → in_order (λ (one : Condition). and_fragment (condition_fragment items one)) more before
      ≡ in_order and_fragment (map (condition_fragment items) more) before
  ands_map [] before = refl
  ands_map (one ∷ more) before = ap (append (and_fragment (condition_fragment items one) before))
      (ands_map more (append before (and_fragment (condition_fragment items one) before)))

  ors_map : (more : List Condition) (before : Code)
      → in_order (λ (one : Condition). or_fragment (condition_fragment items one)) more before
      ≡ in_order or_fragment (map (condition_fragment items) more) before
  ors_map [] before = refl
  ors_map (one ∷ more) before = ap (append (or_fragment (condition_fragment items one) before))
      (ors_map more (append before (or_fragment (condition_fragment items one) before)))

  -- the first condition, and the further ones
  pub all_parts : (first : Condition) (more : List Condition) (before : Code)
      → sequence (condition_fragment items first)
      (in_order (λ (one : Condition). and_fragment (condition_fragment items one)) more) before
      ≡ all_fragment (map (condition_fragment items) (first ∷ more)) before
  all_parts first more before = let one =
      condition_fragment items first before in ap (append one) (ands_map more (append before one))

  pub any_parts : (first : Condition) (more : List Condition) (before : Code)
      → sequence (condition_fragment items first)
      (in_order (λ (one : Condition). or_fragment (condition_fragment items one)) more) before
      ≡ any_fragment (map (condition_fragment items) (first ∷ more)) before
  any_parts first more before = let one =
      condition_fragment items first before in ap (append one) (ors_map more (append before one))
