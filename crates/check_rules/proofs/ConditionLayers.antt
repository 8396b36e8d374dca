-- The rules of a condition by its form, and by those of the conditions in it.
use Rattle.std.proofs.Common.{◌≡◌, Bool, List, sym, ap, ◌∙◌}
use Rattle.source_tree.specs.declared.reference.Reference.{Reference}
use Rattle.source_tree.specs.declared.expression.Expression.{Expression}
use Rattle.source_tree.specs.declared.condition.Relation.{Relation}
use Rattle.source_tree.specs.declared.condition.SignTest.{SignTest}
use Rattle.source_tree.specs.declared.condition.Class.{Class}
use Rattle.source_tree.specs.declared.condition.Side.{Side}
use Rattle.source_tree.specs.declared.condition.Condition.{Condition, roll-Condition}
use Rattle.source_tree.specs.declared.condition.Condition.TheVariants as condition
use Rattle.source_tree.specs.declared.condition.Condition.TheVariants.{rolls-Name, rolls-Relation, rolls-Sign}
use Rattle.source_tree.specs.declared.condition.Condition.TheVariants.{rolls-Class, rolls-Not, rolls-All, rolls-Any}
use Rattle.source_tree.specs.declared.condition.Condition.TheOpen.{Condition-F}
use Rattle.source_tree.specs.declared.condition.Condition.TheFolds.{map-Condition, fold-roll-Condition}
use Rattle.source_tree.specs.Places.{LocatedItem}
use Rattle.source_tree.specs.Broken.{RuleBreach, each}
use Rattle.source_tree.specs.NameRules.{reference_rules, any_item}
use Rattle.source_tree.specs.ArithmeticRules.{expression_rules}
use Rattle.source_tree.specs.ConditionRules.{condition_name_rules, relation_rules, broken_already}
use Rattle.source_tree.specs.ConditionRules.{condition_layer_rules, condition_rules}
use Rattle.declarations.proofs.RuleLayers.{each_map}

module _ (items : List LocatedItem) where
  pub rolled_is : (one : Condition-F Condition)
      → condition_rules items (roll-Condition one)
      ≡ condition_layer_rules items (map-Condition Condition (List RuleBreach) (condition_rules items) one)
  unfolding condition_rules
  rolled_is one = fold-roll-Condition (List RuleBreach) (condition_layer_rules items) one

  pub name_is : (one : Reference) → condition_rules items (condition.Name one) ≡ condition_name_rules items one
  name_is one = ap (condition_rules items) (sym (rolls-Name one)) ∙ rolled_is (Condition-F.Name one)

  pub relation_is : (left : Side) (one : Relation) (right : Side)
      → condition_rules items (condition.Relation left one right) ≡ relation_rules items left right
  relation_is left one right =
      ap (condition_rules items) (sym (rolls-Relation left one right)) ∙ rolled_is (Condition-F.Relation left one right)

  pub sign_is : (value : Expression) (negated : Bool) (one : SignTest)
      → condition_rules items (condition.Sign value negated one) ≡ expression_rules items value
  sign_is value negated one =
      ap (condition_rules items) (sym (rolls-Sign value negated one)) ∙ rolled_is (Condition-F.Sign value negated one)

  pub class_is : (one : Reference) (negated : Bool) (class : Class)
      → condition_rules items (condition.Class one negated class) ≡ reference_rules items any_item one
  class_is one negated class =
      ap (condition_rules items) (sym (rolls-Class one negated class)) ∙ rolled_is (Condition-F.Class one negated class)

  pub not_is : (inner : Condition) → condition_rules items (condition.Not inner) ≡ condition_rules items inner
  not_is inner = ap (condition_rules items) (sym (rolls-Not inner)) ∙ rolled_is (Condition-F.Not inner)

  pub all_is : (parts : List Condition)
      → condition_rules items (condition.All parts) ≡ each (condition_rules items) parts
  all_is parts = ap (condition_rules items) (sym (rolls-All parts)) ∙ rolled_is (Condition-F.All parts)
      ∙ each_map (condition_rules items) broken_already parts

  pub any_is : (parts : List Condition)
      → condition_rules items (condition.Any parts) ≡ each (condition_rules items) parts
  any_is parts = ap (condition_rules items) (sym (rolls-Any parts)) ∙ rolled_is (Condition-F.Any parts)
      ∙ each_map (condition_rules items) broken_already parts

-- each form
pub ruleset forms = (name_is, relation_is, sign_is, class_is, not_is, all_is, any_is)
