-- The code, the rules and the value of an expression, by those of the expressions in it.
use Rattle.std.proofs.Common.{◌≡◌, List, [], ◌∷◌, refl, ap, ◌∙◌}
use Rattle.source_tree.specs.declared.expression.Operator.{Operator}
use Rattle.source_tree.specs.declared.expression.Expression.{Expression, roll-Expression}
use Rattle.source_tree.specs.declared.expression.Expression.TheOpen.{Expression-F}
use Rattle.source_tree.specs.declared.expression.Expression.TheFolds.{map-Expression, fold-roll-Expression}
use Rattle.source_tree.specs.ArithmeticRules.{expression_layer_rules, expression_rules}
use Rattle.source_tree.specs.Broken.{RuleBreach}
use Rattle.source_tree.specs.Computed.{ExpressionValue, expression_layer, expression_value}
use Rattle.source_tree.specs.Places.{LocatedItem}
use Rattle.condition_codegen.specs.Fragments.{Fragment}
use Rattle.condition_codegen.specs.ArithmeticCode.{expression_layer_fragment, expression_fragment}

module _ {A B C : Type 0} (f : A → B) (g : B → C) where
  -- Operands after their operators; the first is any.
  chain_twice : (first : A) (more : List (Operator × A))
      → map-Expression B C g (map-Expression A B f (Expression-F.Chain first more))
      ≡ map-Expression A C (λ a. g (f a)) (Expression-F.Chain first more)
  chain_twice first [] = refl
  chain_twice first (one ∷ more) = ap (with_one (one.0, g (f one.1))) (chain_twice first more)
    where
      with_one : Operator × C → Expression-F C → Expression-F C
      with_one other (Expression-F.Operand operand) = Expression-F.Operand operand
      with_one other (Expression-F.Negated inner) = Expression-F.Negated inner
      with_one other (Expression-F.Chain first others) = Expression-F.Chain first (other ∷ others)

  map_twice : (l : Expression-F A) → map-Expression B C g (map-Expression A B f l) ≡ map-Expression A C (λ a. g (f a)) l
  map_twice (Expression-F.Operand one) = refl
  map_twice (Expression-F.Negated inner) = refl
  map_twice (Expression-F.Chain first more) = chain_twice first more

module _ (items : List LocatedItem) {A : Type 0} (f : A → Expression) (l : Expression-F A) where
  pub mapped_piece : expression_fragment items (roll-Expression (map-Expression A Expression f l))
      ≡ expression_layer_fragment items (map-Expression A Fragment (λ a. expression_fragment items (f a)) l)
  unfolding expression_fragment
  mapped_piece =
      fold-roll-Expression Fragment (expression_layer_fragment items) (map-Expression A Expression f l)
      ∙ ap (expression_layer_fragment items) (map_twice f (expression_fragment items) l)

  pub mapped_rules : expression_rules items (roll-Expression (map-Expression A Expression f l))
      ≡ expression_layer_rules items (map-Expression A (List RuleBreach) (λ a. expression_rules items (f a)) l)
  unfolding expression_rules
  mapped_rules =
      fold-roll-Expression (List RuleBreach) (expression_layer_rules items) (map-Expression A Expression f l)
      ∙ ap (expression_layer_rules items) (map_twice f (expression_rules items) l)

  pub mapped_value : expression_value items (roll-Expression (map-Expression A Expression f l))
      ≡ expression_layer items (map-Expression A ExpressionValue (λ a. expression_value items (f a)) l)
  unfolding expression_value
  mapped_value =
      fold-roll-Expression ExpressionValue (expression_layer items) (map-Expression A Expression f l)
      ∙ ap (expression_layer items) (map_twice f (expression_value items) l)
