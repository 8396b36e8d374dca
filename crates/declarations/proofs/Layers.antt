-- The rules of an expression, by those of the expressions in it.
use Rattle.std.proofs.Common.{◌≡◌, List, ◌++◌, sym, ap, ◌∙◌}
use Rattle.source_tree.specs.declared.expression.Operand.{Operand}
use Rattle.source_tree.specs.declared.expression.Operator.{Operator}
use Rattle.source_tree.specs.declared.expression.Expression.{Expression, roll-Expression}
use Rattle.source_tree.specs.declared.expression.Expression.TheVariants as expression
use Rattle.source_tree.specs.declared.expression.Expression.TheVariants.{rolls-Operand, rolls-Negated, rolls-Chain}
use Rattle.source_tree.specs.declared.expression.Expression.TheOpen.{Expression-F}
use Rattle.source_tree.specs.declared.expression.Expression.TheFolds.{map-Expression, fold-roll-Expression}
use Rattle.source_tree.specs.Places.{LocatedItem}
use Rattle.source_tree.specs.Broken.{RuleBreach, each}
use Rattle.source_tree.specs.ArithmeticRules.{number_rules, operand_pair_rules, expression_layer_rules}
use Rattle.source_tree.specs.ArithmeticRules.{expression_rules}
use Rattle.declarations.specs.Chains.{further_rules}
use Rattle.declarations.proofs.RuleLayers.{each_map}

pub rolled_is : (items : List LocatedItem) (one : Expression-F Expression)
    → expression_rules items (roll-Expression one)
    ≡ expression_layer_rules items (map-Expression Expression (List RuleBreach) (expression_rules items) one)
unfolding expression_rules
rolled_is items one = fold-roll-Expression (List RuleBreach) (expression_layer_rules items) one

pub operand_is : (items : List LocatedItem) (one : Operand)
    → expression_rules items (expression.Operand one) ≡ number_rules items one
operand_is items one =
    ap (expression_rules items) (sym (rolls-Operand one)) ∙ rolled_is items (Expression-F.Operand one)

pub negated_is : (items : List LocatedItem) (inner : Expression)
    → expression_rules items (expression.Negated inner) ≡ expression_rules items inner
negated_is items inner =
    ap (expression_rules items) (sym (rolls-Negated inner)) ∙ rolled_is items (Expression-F.Negated inner)

pub chain_is : (items : List LocatedItem) (one : Expression) (more : List (Operator × Expression))
    → expression_rules items (expression.Chain one more) ≡ expression_rules items one ++ each (further_rules items) more
chain_is items one more =
    ap (expression_rules items) (sym (rolls-Chain one more))
    ∙ rolled_is items (Expression-F.Chain one more)
    ∙ ap (λ l. expression_rules items one ++ l)
    (each_map (λ (p : Operator × Expression). (p.0, expression_rules items p.1)) operand_pair_rules more)
