-- The code of an expression by its form, and that of the expressions in it.
use Rattle.std.proofs.Common.{◌≡◌, List, [], ◌∷◌, refl, sym, ap, ◌∙◌}
use Rattle.std.specs.Prelude.{map}
use Rattle.source_tree.specs.declared.expression.Operand.{Operand}
use Rattle.source_tree.specs.declared.expression.Operator.{Operator}
use Rattle.source_tree.specs.declared.expression.Expression.{Expression, roll-Expression}
use Rattle.source_tree.specs.declared.expression.Expression.TheVariants as expression
use Rattle.source_tree.specs.declared.expression.Expression.TheVariants.{rolls-Operand, rolls-Negated, rolls-Chain}
use Rattle.source_tree.specs.declared.expression.Expression.TheOpen.{Expression-F}
use Rattle.source_tree.specs.declared.expression.Expression.TheFolds.{map-Expression, fold-roll-Expression}
use Rattle.source_tree.specs.Places.{LocatedItem}
use Rattle.data_instructions.specs.declared.calculation.Calculation.TheVariants as c
use Rattle.data_instructions.specs.declared.instruction.DataInstruction.TheVariants as i
use Rattle.code_image.specs.declared.code.Code.{Code}
use Rattle.condition_codegen.specs.Fragments.{Fragment, append, sequence, in_order}
use Rattle.condition_codegen.specs.DataCode.{work_fragment}
use Rattle.condition_codegen.specs.ArithmeticCode.{value_fragment, chain_fragment, expression_layer_fragment}
use Rattle.condition_codegen.specs.ArithmeticCode.{expression_fragment}

module _ (items : List LocatedItem) where
  -- what follows the first operand of a chain
  abbrev pub link_piece : Operator × Expression → Fragment
  link_piece one = chain_fragment items (one.0, expression_fragment items one.1)

  links_map : (all : List (Operator × Expression)) (before : Code)
      → in_order (chain_fragment items) (map (λ (one : Operator × Expression). (one.0, expression_fragment items one.1))
      all) before ≡ in_order link_piece all before
  links_map [] before = refl
  links_map (one ∷ more) before =
      ap (append (link_piece one before)) (links_map more (append before (link_piece one before)))

  rolled_is : (one : Expression-F Expression) (before : Code)
      → expression_fragment items (roll-Expression one) before
      ≡ expression_layer_fragment items (map-Expression Expression Fragment (expression_fragment items) one) before
  unfolding expression_fragment
  rolled_is one before =
      ap (λ (p : Fragment). p before) (fold-roll-Expression Fragment (expression_layer_fragment items) one)

  pub operand_is : (one : Operand) (before : Code)
      → expression_fragment items (expression.Operand one) before ≡ value_fragment items one before
  operand_is one before = ap (λ (e : Expression). expression_fragment items e before) (sym (rolls-Operand one))
      ∙ rolled_is (Expression-F.Operand one) before

  pub negated_is : (inner : Expression) (before : Code)
      → expression_fragment items (expression.Negated inner) before
      ≡ sequence (expression_fragment items inner) (work_fragment (i.Calculate c.Negate)) before
  negated_is inner before = ap (λ (e : Expression). expression_fragment items e before) (sym (rolls-Negated inner))
      ∙ rolled_is (Expression-F.Negated inner) before

  pub chain_is : (one : Expression) (more : List (Operator × Expression)) (before : Code)
      → expression_fragment items (expression.Chain one more) before
      ≡ sequence (expression_fragment items one) (in_order link_piece more) before
  chain_is one more before =
      let first = expression_fragment items one before in
      ap (λ (e : Expression). expression_fragment items e before) (sym (rolls-Chain one more))
      ∙ rolled_is (Expression-F.Chain one more) before
      ∙ ap (append first) (links_map more (append before first))
