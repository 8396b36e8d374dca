-- What a condition tells of storage, and its rules, by its form; and the operand that a side is alone. Computing goes
-- through these where trees of conditions are folded.
use Rattle.std.proofs.Common.{◌≡◌, List, sym, ap, ◌∙◌}
use Rattle.std.specs.Prelude.{not, map, Some, Ok}
use Rattle.source_tree.specs.declared.reference.Reference.{Reference}
use Rattle.source_tree.specs.declared.expression.Operand.{Operand}
use Rattle.source_tree.specs.declared.expression.Expression.{Expression, out-roll-Expression}
use Rattle.source_tree.specs.declared.expression.Expression.TheVariants as expression
use Rattle.source_tree.specs.declared.expression.Expression.TheVariants.{rolls-Operand}
use Rattle.source_tree.specs.declared.expression.Expression.TheOpen.{Expression-F}
use Rattle.source_tree.specs.declared.condition.Relation.{Relation}
use Rattle.source_tree.specs.declared.condition.Side.{Side}
use Rattle.source_tree.specs.declared.condition.Side.TheVariants as side
use Rattle.source_tree.specs.declared.condition.Condition.{Condition, roll-Condition}
use Rattle.source_tree.specs.declared.condition.Condition.TheVariants as condition
use Rattle.source_tree.specs.declared.condition.Condition.TheVariants.{rolls-Name, rolls-Relation, rolls-Not, rolls-All}
use Rattle.source_tree.specs.declared.condition.Condition.TheVariants.{rolls-Any}
use Rattle.source_tree.specs.declared.condition.Condition.TheOpen.{Condition-F}
use Rattle.source_tree.specs.declared.condition.Condition.TheFolds.{map-Condition, fold-roll-Condition}
use Rattle.source_tree.specs.Places.{LocatedItem}
use Rattle.source_tree.specs.Storage.{Storage}
use Rattle.source_tree.specs.Broken.{RuleBreach, each}
use Rattle.source_tree.specs.Evaluated.{◌>>=◌}
use Rattle.source_tree.specs.Conditions.{ConditionValue, alone, alone_side, relation_holds, name_holds, all_hold}
use Rattle.source_tree.specs.Conditions.{any_holds, condition_layer, holds}
use Rattle.source_tree.specs.ConditionRules.{condition_name_rules, relation_rules, broken_already}
use Rattle.source_tree.specs.ConditionRules.{condition_layer_rules, condition_rules}

-- ---- a side that is an operand alone is that operand

pub alone_operand : (one : Operand) → alone_side (side.Expression (expression.Operand one)) ≡ Some one
alone_operand one =
    ap (λ (e : Expression). alone_side (side.Expression e)) (sym (rolls-Operand one))
    ∙ ap alone (out-roll-Expression (Expression-F.Operand one))

module _ (items : List LocatedItem) where
  -- ---- what it tells

  told : (one : Condition) (form : Condition-F Condition) → roll-Condition form ≡ one → (storage : Storage)
      → holds items one storage
      ≡ condition_layer items (map-Condition Condition ConditionValue (holds items) form) storage
  unfolding holds
  told one form e storage =
      ap (λ (c : Condition). holds items c storage) (sym e)
      ∙ ap (λ (t : ConditionValue). t storage) (fold-roll-Condition ConditionValue (condition_layer items) form)

  pub name_tells : (one : Reference) (storage : Storage)
      → holds items (condition.Name one) storage ≡ name_holds items one storage
  name_tells one = told (condition.Name one) (Condition-F.Name one) (rolls-Name one)

  pub relation_tells : (left : Side) (one : Relation) (right : Side) (storage : Storage)
      → holds items (condition.Relation left one right) storage ≡ relation_holds items left one right storage
  relation_tells left one right =
      told (condition.Relation left one right) (Condition-F.Relation left one right) (rolls-Relation left one right)

  pub not_tells : (inner : Condition) (storage : Storage)
      → holds items (condition.Not inner) storage ≡ (holds items inner storage >>= (λ truth. Ok (not truth)))
  not_tells inner = told (condition.Not inner) (Condition-F.Not inner) (rolls-Not inner)

  pub all_tell : (parts : List Condition) (storage : Storage)
      → holds items (condition.All parts) storage ≡ all_hold items (map (holds items) parts) storage
  all_tell parts = told (condition.All parts) (Condition-F.All parts) (rolls-All parts)

  pub any_tells : (parts : List Condition) (storage : Storage)
      → holds items (condition.Any parts) storage ≡ any_holds items (map (holds items) parts) storage
  any_tells parts = told (condition.Any parts) (Condition-F.Any parts) (rolls-Any parts)

  -- ---- its rules

  ruled : (one : Condition) (form : Condition-F Condition) → roll-Condition form ≡ one
      → condition_rules items one
      ≡ condition_layer_rules items (map-Condition Condition (List RuleBreach) (condition_rules items) form)
  unfolding condition_rules
  ruled one form e =
      ap (condition_rules items) (sym e) ∙ fold-roll-Condition (List RuleBreach) (condition_layer_rules items) form

  pub name_is : (one : Reference) → condition_rules items (condition.Name one) ≡ condition_name_rules items one
  name_is one = ruled (condition.Name one) (Condition-F.Name one) (rolls-Name one)

  pub relation_is : (left : Side) (one : Relation) (right : Side)
      → condition_rules items (condition.Relation left one right) ≡ relation_rules items left right
  relation_is left one right =
      ruled (condition.Relation left one right) (Condition-F.Relation left one right) (rolls-Relation left one right)

  pub not_is : (inner : Condition) → condition_rules items (condition.Not inner) ≡ condition_rules items inner
  not_is inner = ruled (condition.Not inner) (Condition-F.Not inner) (rolls-Not inner)

  pub all_is : (parts : List Condition)
      → condition_rules items (condition.All parts) ≡ each broken_already (map (condition_rules items) parts)
  all_is parts = ruled (condition.All parts) (Condition-F.All parts) (rolls-All parts)

  pub any_is : (parts : List Condition)
      → condition_rules items (condition.Any parts) ≡ each broken_already (map (condition_rules items) parts)
  any_is parts = ruled (condition.Any parts) (Condition-F.Any parts) (rolls-Any parts)

-- what conditions tell, and their rules
pub ruleset told_by_form = (alone_operand, name_tells, relation_tells, not_tells, all_tell, any_tells)

pub ruleset ruled_by_form = (alone_operand, name_is, relation_is, not_is, all_is, any_is)
