-- The operand that an expression is alone, by its form.
use Rattle.std.proofs.Common.{◌≡◌, List, None, Some, sym, ap, ◌∙◌}
use Rattle.source_tree.specs.declared.expression.Operand.{Operand}
use Rattle.source_tree.specs.declared.expression.Operator.{Operator}
use Rattle.source_tree.specs.declared.expression.Expression.{Expression, out-Expression, out-roll-Expression}
use Rattle.source_tree.specs.declared.expression.Expression.TheVariants as expression
use Rattle.source_tree.specs.declared.expression.Expression.TheVariants.{rolls-Operand, rolls-Negated, rolls-Chain}
use Rattle.source_tree.specs.declared.expression.Expression.TheOpen.{Expression-F}
use Rattle.source_tree.specs.Conditions.{alone}

pub alone_operand : (one : Operand) → alone (out-Expression (expression.Operand one)) ≡ Some one
alone_operand one = ap (λ (e : Expression). alone (out-Expression e)) (sym (rolls-Operand one))
    ∙ ap alone (out-roll-Expression (Expression-F.Operand one))

pub alone_negated : (inner : Expression) → alone (out-Expression (expression.Negated inner)) ≡ None
alone_negated inner = ap (λ (e : Expression). alone (out-Expression e)) (sym (rolls-Negated inner))
    ∙ ap alone (out-roll-Expression (Expression-F.Negated inner))

pub alone_chain : (one : Expression) (more : List (Operator × Expression))
    → alone (out-Expression (expression.Chain one more)) ≡ None
alone_chain one more = ap (λ (e : Expression). alone (out-Expression e)) (sym (rolls-Chain one more))
    ∙ ap alone (out-roll-Expression (Expression-F.Chain one more))
