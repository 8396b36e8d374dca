-- A side of a relation, by the form of its expression.
use Rattle.std.proofs.Common.{◌≡◌, List, [], ◌∷◌, None, Some, refl, sym, ap, ◌∙◌}
use Rattle.std.specs.Prelude.{Option}
use Rattle.lexical.specs.declared.place.Place.{Place}
use Rattle.source_tree.specs.declared.expression.Operand.{Operand}
use Rattle.source_tree.specs.declared.expression.Operator.{Operator}
use Rattle.source_tree.specs.declared.expression.Expression.{Expression, roll-Expression}
use Rattle.source_tree.specs.declared.expression.Expression.TheVariants as expression
use Rattle.source_tree.specs.declared.expression.Expression.TheVariants.{rolls-Operand, rolls-Negated, rolls-Chain}
use Rattle.source_tree.specs.declared.expression.Expression.TheOpen.{Expression-F}
use Rattle.source_tree.specs.declared.expression.Expression.TheFolds.{map-Expression, fold-roll-Expression}
use Rattle.source_tree.specs.Places.{LocatedItem}
use Rattle.source_tree.specs.Broken.{RuleBreach}
use Rattle.source_tree.specs.LookUp.{first}
use Rattle.source_tree.specs.NameRules.{unique_name_rules}
use Rattle.source_tree.specs.ConditionRules.{Either, compared_only, operand_place, place_layer, expression_place}

-- ---- where it begins

place_rolled : (one : Expression-F Expression)
    → expression_place (roll-Expression one) ≡ place_layer (map-Expression Expression Place expression_place one)
unfolding expression_place
place_rolled one = fold-roll-Expression Place place_layer one

pub place_of_operand : (one : Operand) → expression_place (expression.Operand one) ≡ operand_place one
place_of_operand one = ap expression_place (sym (rolls-Operand one)) ∙ place_rolled (Expression-F.Operand one)

pub place_of_negated : (inner : Expression) → expression_place (expression.Negated inner) ≡ expression_place inner
place_of_negated inner = ap expression_place (sym (rolls-Negated inner)) ∙ place_rolled (Expression-F.Negated inner)

pub place_of_chain : (one : Expression) (more : List (Operator × Expression))
    → expression_place (expression.Chain one more) ≡ expression_place one
place_of_chain one more = ap expression_place (sym (rolls-Chain one more)) ∙ place_rolled (Expression-F.Chain one more)

-- ---- what it is beside another

-- What doesn't name one item is either.
pub either_unnamed : (place : Place) (found : List LocatedItem) (broken : RuleBreach)
    → ((rules : LocatedItem → List RuleBreach) → first (unique_name_rules place rules found) ≡ Some broken)
    → compared_only found ≡ Either
either_unnamed place [] broken h = refl
either_unnamed place (one ∷ []) broken h = let no : ◌≡◌ {A = Option RuleBreach} None (Some broken) =
    h (λ found. []) in cc
either_unnamed place (one ∷ other ∷ more) broken h = refl
