-- The rules of conditions (COBOL-85, Nucleus, "Relation condition"), and those of UNTIL and VARYING. Those of references and
-- literals; 40 and 41 of condition names; 51 of numbers; and 52 where two sides can't be compared.
use Rattle.std.specs.Prelude.{◌==◌, Bool, true, false, not, ◌&&◌, ◌||◌, List, [], ◌∷◌, ◌++◌, length, Option, Some, None}
use Rattle.items.specs.declared.usage.Usage.{Usage}
use Rattle.items.specs.declared.usage.Usage.TheVariants as usage
use Rattle.items.specs.declared.item.Kind.{Kind}
use Rattle.items.specs.declared.item.Kind.TheVariants as kind
use Rattle.lexical.specs.declared.place.Place.{Place}
use Rattle.source_tree.specs.declared.literal.Figurative.TheVariants as figurative
use Rattle.source_tree.specs.declared.literal.LiteralValue.{LiteralValue}
use Rattle.source_tree.specs.declared.literal.LiteralValue.TheVariants as literal
use Rattle.source_tree.specs.declared.reference.Reference.{Reference}
use Rattle.source_tree.specs.declared.expression.Operand.{Operand}
use Rattle.source_tree.specs.declared.expression.Operand.TheVariants as operand
use Rattle.source_tree.specs.declared.expression.Expression.{Expression}
use Rattle.source_tree.specs.declared.expression.Expression.TheOpen.{Expression-F}
use Rattle.source_tree.specs.declared.expression.Expression.TheFolds.{fold-Expression}
use Rattle.source_tree.specs.declared.condition.Side.{Side}
use Rattle.source_tree.specs.declared.condition.Side.TheVariants as side
use Rattle.source_tree.specs.declared.condition.Condition.{Condition}
use Rattle.source_tree.specs.declared.condition.Condition.TheOpen.{Condition-F}
use Rattle.source_tree.specs.declared.condition.Condition.TheFolds.{fold-Condition}
use Rattle.source_tree.specs.declared.until.Varying.{Varying}
use Rattle.source_tree.specs.declared.until.Until.{Until}
use Rattle.source_tree.specs.Places.{LocatedItem}
use Rattle.source_tree.specs.LookUp.{NamedCondition, conditions_named}
use Rattle.source_tree.specs.Parts.{items_referred}
use Rattle.source_tree.specs.Broken.{RuleBreach, where_so, each}
use Rattle.source_tree.specs.MoveRules.{move_rules}
use Rattle.source_tree.specs.NameRules.{unique_name_rules, no_part_rules, number_rules_of, literal_rules, operand_rules, reference_rules, any_item}
use Rattle.source_tree.specs.ArithmeticRules.{number_rules, expression_rules, operation_rules}
use Rattle.source_tree.specs.Until.{vary_operation}
use Rattle.source_tree.specs.Conditions.{alone_side}

-- What a side is beside another: a number, which may count as digits (an integer in DISPLAY usage) or not; characters; or ZERO, which
-- is either.
pub data SideKind : Type 0 where
  Number : Bool → SideKind
  Characters : SideKind
  Either : SideKind

abbrev pub is_display : Usage → Bool
is_display (usage.Display sign) = true
is_display _ = false

abbrev pub compared_kind : Kind → SideKind
compared_kind (kind.Numeric n) = Number (is_display n.usage && (n.scale == 0))
compared_kind _ = Characters

abbrev pub compared_literal : LiteralValue → SideKind
compared_literal (literal.Numeric one) = Number (length one.decimals == 0)
compared_literal (literal.Figurative figurative.Zero) = Either
compared_literal _ = Characters

-- a name that names nothing, or several things, is another rule's
abbrev pub compared_only : List LocatedItem → SideKind
compared_only (only ∷ []) = compared_kind only.item.kind
compared_only _ = Either

abbrev pub compared_alone : List LocatedItem → Option Operand → SideKind
compared_alone items (Some (operand.Item one)) = compared_only (items_referred items one)
compared_alone items (Some (operand.Literal one)) = compared_literal one.value
compared_alone items None = Number false

-- A number beside characters counts as its digits.
abbrev pub may_compare : SideKind → SideKind → Bool
may_compare (Number digits) Characters = digits
may_compare Characters (Number digits) = digits
may_compare _ _ = true

abbrev pub is_literal_alone : Option Operand → Bool
is_literal_alone (Some (operand.Literal one)) = true
is_literal_alone _ = false

-- where an expression begins
abbrev pub operand_place : Operand → Place
operand_place (operand.Item one) = one.item.name.place
operand_place (operand.Literal one) = one.place

abbrev pub place_layer : Expression-F Place → Place
place_layer (Expression-F.Operand one) = operand_place one
place_layer (Expression-F.Negated inner) = inner
place_layer (Expression-F.Chain first more) = first

unfoldable pub expression_place : Expression → Place
expression_place = fold-Expression Place place_layer

abbrev pub side_place : Side → Place
side_place (side.Expression one) = expression_place one
side_place (side.Literal one) = one.place

-- A condition name has as many subscripts as its item has dimensions, and no parts.
abbrev pub condition_subscripts : Reference → NamedCondition → List RuleBreach
condition_subscripts one found = where_so (not (length one.subscripts == length found.item.dimensions)) 50 one.item.name.place ++ no_part_rules one

abbrev pub condition_name_rules : List LocatedItem → Reference → List RuleBreach
condition_name_rules items one =
    unique_name_rules one.item.name.place (condition_subscripts one) (conditions_named items one.item) ++ number_rules_of items one

-- a side by itself: an operand alone of any kind, or numbers
abbrev pub side_from : List LocatedItem → Option Operand → Side → List RuleBreach
side_from items (Some one) side = operand_rules items one
side_from items None (side.Expression one) = expression_rules items one
side_from items None (side.Literal one) = literal_rules one

abbrev pub side_rules : List LocatedItem → Side → List RuleBreach
side_rules items one = side_from items (alone_side one) one

-- Two sides, which can be compared: not two literals, not a number with decimals or in another usage beside characters.
abbrev pub relation_rules : List LocatedItem → Side → Side → List RuleBreach
relation_rules items left right =
    side_rules items left ++ side_rules items right
    ++ where_so ((is_literal_alone (alone_side left) && is_literal_alone (alone_side right))
    || not (may_compare (compared_alone items (alone_side left)) (compared_alone items (alone_side right)))) 52 (side_place left)

abbrev pub broken_already : List RuleBreach → List RuleBreach
broken_already rules = rules

abbrev pub condition_layer_rules : List LocatedItem → Condition-F (List RuleBreach) → List RuleBreach
condition_layer_rules items (Condition-F.Name one) = condition_name_rules items one
condition_layer_rules items (Condition-F.Relation left one right) = relation_rules items left right
condition_layer_rules items (Condition-F.Sign value negated one) = expression_rules items value
condition_layer_rules items (Condition-F.Class one negated tested) = reference_rules items any_item one
condition_layer_rules items (Condition-F.Not inner) = inner
condition_layer_rules items (Condition-F.All parts) = each broken_already parts
condition_layer_rules items (Condition-F.Any parts) = each broken_already parts

unfoldable pub condition_rules : List LocatedItem → Condition → List RuleBreach
condition_rules items = fold-Condition (List RuleBreach) (condition_layer_rules items)

-- FROM is a number that is moved, and BY one that is added.
abbrev pub varying_rules : List LocatedItem → Option Varying → List RuleBreach
varying_rules items None = []
varying_rules items (Some one) =
    move_rules items one.from (one.item ∷ []) ++ number_rules items one.from ++ operation_rules items (vary_operation one)

abbrev pub until_rules : List LocatedItem → Until → List RuleBreach
until_rules items one = varying_rules items one.varying ++ condition_rules items one.condition
