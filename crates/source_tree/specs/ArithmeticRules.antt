-- The rules of arithmetic statements: those of references and literals, and 51 where an operand is no number, or a receiver takes
-- none (COBOL-85, Nucleus, "Arithmetic statements").
use Rattle.std.specs.Prelude.{Bool, true, false, not, List, ◌++◌}
use Rattle.items.specs.declared.item.Kind.{Kind}
use Rattle.items.specs.declared.item.Kind.TheVariants as kind
use Rattle.edited_move.specs.Moves.{needs_number}
use Rattle.lexical.specs.declared.place.Place.{Place}
use Rattle.source_tree.specs.declared.literal.Figurative.TheVariants as figurative
use Rattle.source_tree.specs.declared.literal.LiteralValue.{LiteralValue}
use Rattle.source_tree.specs.declared.literal.LiteralValue.TheVariants as literal
use Rattle.source_tree.specs.declared.expression.Operand.{Operand}
use Rattle.source_tree.specs.declared.expression.Operand.TheVariants as operand
use Rattle.source_tree.specs.declared.expression.Operator.{Operator}
use Rattle.source_tree.specs.declared.expression.Expression.{Expression}
use Rattle.source_tree.specs.declared.expression.Expression.TheOpen.{Expression-F}
use Rattle.source_tree.specs.declared.expression.Expression.TheFolds.{fold-Expression}
use Rattle.source_tree.specs.declared.arithmetic.Receiver.{Receiver}
use Rattle.source_tree.specs.declared.arithmetic.Operation.{Operation}
use Rattle.source_tree.specs.declared.arithmetic.Operation.TheVariants.{Add, AddGiving, Subtract, SubtractGiving, Multiply, MultiplyGiving, Divide, DivideGiving, DivideRemainder, Compute}
use Rattle.source_tree.specs.Places.{LocatedItem}
use Rattle.source_tree.specs.Broken.{RuleBreach, where_so, each}
use Rattle.source_tree.specs.NameRules.{reference_rules, literal_rules}

abbrev pub is_numeric_kind : Kind → Bool
is_numeric_kind (kind.Numeric numeric) = true
is_numeric_kind _ = false

-- an item that holds a number
abbrev pub numeric_item : Place → LocatedItem → List RuleBreach
numeric_item place one = where_so (not (is_numeric_kind one.item.kind)) 51 place

-- an item that a number can be stored in: numeric, or numeric edited
abbrev pub number_receiver : Place → LocatedItem → List RuleBreach
number_receiver place one = where_so (not (needs_number one.item.kind)) 51 place

-- a numeric literal, or ZERO
abbrev pub is_number_literal : LiteralValue → Bool
is_number_literal (literal.Numeric one) = true
is_number_literal (literal.Figurative figurative.Zero) = true
is_number_literal _ = false

abbrev pub number_rules : List LocatedItem → Operand → List RuleBreach
number_rules items (operand.Item one) = reference_rules items numeric_item one
number_rules items (operand.Literal one) = where_so (not (is_number_literal one.value)) 51 one.place ++ literal_rules one

-- receivers whose own number has a part in the result
abbrev pub updated_rules : List LocatedItem → List Receiver → List RuleBreach
updated_rules items receivers = each (λ (one : Receiver). reference_rules items numeric_item one.item) receivers

-- receivers after GIVING, REMAINDER and COMPUTE
abbrev pub given_rules : List LocatedItem → List Receiver → List RuleBreach
given_rules items receivers = each (λ (one : Receiver). reference_rules items number_receiver one.item) receivers

abbrev pub operand_pair_rules : Operator × List RuleBreach → List RuleBreach
operand_pair_rules one = one.1

abbrev pub expression_layer_rules : List LocatedItem → Expression-F (List RuleBreach) → List RuleBreach
expression_layer_rules items (Expression-F.Operand one) = number_rules items one
expression_layer_rules items (Expression-F.Negated inner) = inner
expression_layer_rules items (Expression-F.Chain first more) = first ++ each operand_pair_rules more

unfoldable pub expression_rules : List LocatedItem → Expression → List RuleBreach
expression_rules items = fold-Expression (List RuleBreach) (expression_layer_rules items)

-- in the order of writing
abbrev pub operation_rules : List LocatedItem → Operation → List RuleBreach
operation_rules items (Add operands receivers) = each (number_rules items) operands ++ updated_rules items receivers
operation_rules items (AddGiving operands receivers) = each (number_rules items) operands ++ given_rules items receivers
operation_rules items (Subtract operands receivers) = each (number_rules items) operands ++ updated_rules items receivers
operation_rules items (SubtractGiving operands minuend receivers) =
    each (number_rules items) operands ++ number_rules items minuend ++ given_rules items receivers
operation_rules items (Multiply factor receivers) = number_rules items factor ++ updated_rules items receivers
operation_rules items (MultiplyGiving factor by receivers) = number_rules items factor ++ number_rules items by ++ given_rules items receivers
operation_rules items (Divide divisor receivers) = number_rules items divisor ++ updated_rules items receivers
operation_rules items (DivideGiving first order second receivers) = number_rules items first ++ number_rules items second ++ given_rules items receivers
operation_rules items (DivideRemainder first order second quotient remainder) =
    number_rules items first ++ number_rules items second ++ reference_rules items number_receiver quotient.item ++ reference_rules items number_receiver remainder
operation_rules items (Compute receivers value) = given_rules items receivers ++ expression_rules items value
