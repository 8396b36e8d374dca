-- A side of a relation that is an operand alone.
use Rattle.std.proofs.Common.{◌≡◌, List, [], ◌++◌, Option, Some, sym, ap, ◌∙◌}
use Rattle.std.proofs.lemmas.Option.{same_Some}
use Rattle.source_tree.specs.declared.expression.Operand.{Operand}
use Rattle.source_tree.specs.declared.expression.Operand.TheVariants as operand
use Rattle.source_tree.specs.declared.expression.Expression.{Expression, out-Expression, roll-Expression}
use Rattle.source_tree.specs.declared.expression.Expression.{roll-out-Expression}
use Rattle.source_tree.specs.declared.expression.Expression.TheVariants.{rolls-Operand}
use Rattle.source_tree.specs.declared.expression.Expression.TheOpen.{Expression-F}
use Rattle.source_tree.specs.declared.condition.Side.{Side}
use Rattle.source_tree.specs.declared.condition.Side.TheVariants as side
use Rattle.source_tree.specs.Conditions.{alone, alone_side}
use Rattle.source_tree.specs.ConditionRules.{side_from, side_rules, relation_rules}
use Rattle.source_tree.specs.NameRules.{operand_rules}
use Rattle.source_tree.specs.Places.{LocatedItem}
use Rattle.code_image.specs.declared.code.Code.{Code}
use Rattle.condition_codegen.specs.ArithmeticCode.{value_fragment, expression_fragment}
use Rattle.condition_codegen.specs.ConditionCode.{side_fragment}
use Rattle.condition_codegen.proofs.ExpressionForms.{operand_is}
use Rattle.condition_codegen.proofs.Kept.{front_kept, back_kept}

module _ (items : List LocatedItem) where
  pub left_kept : (left right : Side) → relation_rules items left right ≡ [] → side_rules items left ≡ []
  left_kept left right e = front_kept (side_rules items left) (side_rules items right)
      (front_kept (side_rules items left ++ side_rules items right) _ e)

  pub right_kept : (left right : Side) → relation_rules items left right ≡ [] → side_rules items right ≡ []
  right_kept left right e = back_kept (side_rules items left) (side_rules items right)
      (front_kept (side_rules items left ++ side_rules items right) _ e)

  pub side_kept : (one : Side) (o : Operand) → alone_side one ≡ Some o → side_rules items one ≡ []
      → operand_rules items o ≡ []
  side_kept one o e h = sym (ap (λ (a : Option Operand). side_from items a one) e) ∙ h

  of_layer : (w : Expression-F Expression) (o : Operand) (before : Code) → alone w ≡ Some o
      → expression_fragment items (roll-Expression w) before ≡ value_fragment items o before
  of_layer (Expression-F.Operand p) o before e =
      ap (λ (x : Expression). expression_fragment items x before) (rolls-Operand p) ∙ operand_is items p before
      ∙ ap (λ (x : Operand). value_fragment items x before) (same_Some p o e)
  of_layer (Expression-F.Negated inner) o before e = absurd cc
  of_layer (Expression-F.Chain first more) o before e = absurd cc

  -- An operand alone is a number as any expression.
  pub alone_piece : (one : Side) (o : Operand) (before : Code) → alone_side one ≡ Some o
      → side_fragment items one before ≡ value_fragment items o before
  alone_piece (side.Literal one) o before e =
      ap (λ (x : Operand). value_fragment items x before) (same_Some (operand.Literal one) o e)
  alone_piece (side.Expression one) o before e =
      ap (λ (x : Expression). expression_fragment items x before) (sym (roll-out-Expression one))
      ∙ of_layer (out-Expression one) o before e
