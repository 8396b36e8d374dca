-- What operands and expressions give (COBOL-85, Nucleus, "Arithmetic expressions").
use Rattle.std.specs.Prelude.{pos, List, [], ◌∷◌, Option, Some, None, Result, Ok, Err}
use Rattle.decimal18.specs.Fraction.{Fraction}
use Rattle.decimal18.specs.Arithmetic.{sum, difference, product, opposite_of}
use Rattle.decimal18.specs.Quotient.{quotient}
use Rattle.decimal18.specs.declared.size_error.Size.{Size}
use Rattle.items.specs.Items.{number_in}
use Rattle.source_tree.specs.declared.literal.Figurative.TheVariants as figurative
use Rattle.source_tree.specs.declared.literal.LiteralValue.{LiteralValue}
use Rattle.source_tree.specs.declared.literal.LiteralValue.TheVariants as literal
use Rattle.source_tree.specs.declared.expression.Operand.{Operand}
use Rattle.source_tree.specs.declared.expression.Operand.TheVariants as operand
use Rattle.source_tree.specs.declared.expression.Operator.{Operator}
use Rattle.source_tree.specs.declared.expression.Operator.TheVariants as operator
use Rattle.source_tree.specs.declared.expression.Expression.{Expression}
use Rattle.source_tree.specs.declared.expression.Expression.TheOpen.{Expression-F}
use Rattle.source_tree.specs.declared.expression.Expression.TheFolds.{fold-Expression}
use Rattle.source_tree.specs.Places.{LocatedItem}
use Rattle.source_tree.specs.Literals.{literal_number}
use Rattle.source_tree.specs.Storage.{Storage}
use Rattle.source_tree.specs.Evaluated.{Evaluation, ◌>>=◌, evaluation_of}
use Rattle.source_tree.specs.References.{ItemPlace, part_of, place_of}

-- A number; none after a size error.
abbrev pub ArithmeticValue : Type 0
ArithmeticValue = Option Fraction

abbrev pub number_or_none : Result Fraction Size → ArithmeticValue
number_or_none (Ok x) = Some x
number_or_none (Err size) = None

-- A size error is no number, and neither is what is computed with one.
abbrev pub value_of_operation : (Fraction → Fraction → Result Fraction Size) → ArithmeticValue → ArithmeticValue → ArithmeticValue
value_of_operation operation (Some x) (Some y) = number_or_none (operation x y)
value_of_operation operation (Some x) None = None
value_of_operation operation None y = None

abbrev pub by_operator : Operator → Fraction → Fraction → Result Fraction Size
by_operator operator.Add = sum
by_operator operator.Subtract = difference
by_operator operator.Multiply = product
by_operator operator.Divide = quotient

abbrev pub operate : Operator → ArithmeticValue → ArithmeticValue → ArithmeticValue
operate one = value_of_operation (by_operator one)

abbrev pub negate : ArithmeticValue → ArithmeticValue
negate (Some x) = Some (opposite_of x)
negate None = None

-- a literal that is a number: a numeric one, or ZERO
abbrev pub number_of_literal : LiteralValue → Option Fraction
number_of_literal (literal.Numeric one) = Some (literal_number one)
number_of_literal (literal.Figurative figurative.Zero) = Some (record { coefficient = pos 0; scale = 0 })
number_of_literal _ = None

-- The number in an item; bytes that are none are a fault.
abbrev pub number_at : Storage → ItemPlace → Evaluation Fraction
number_at storage place = evaluation_of (number_in place.item.kind (part_of storage place))

-- the number of an operand
abbrev pub number_of_operand : List LocatedItem → Operand → Storage → Evaluation Fraction
number_of_operand items (operand.Item one) storage = place_of items one storage >>= number_at storage
number_of_operand items (operand.Literal one) storage = evaluation_of (number_of_literal one.value)

-- what an expression gives of storage
abbrev pub ExpressionValue : Type 0
ExpressionValue = Storage → Evaluation ArithmeticValue

abbrev pub operand_value : List LocatedItem → Operand → ExpressionValue
operand_value items one storage = number_of_operand items one storage >>= (λ x. Ok (Some x))

abbrev pub value_of_rest : List (Operator × ExpressionValue) → ArithmeticValue → ExpressionValue
value_of_rest [] x storage = Ok x
value_of_rest (one ∷ more) x storage = one.1 storage >>= (λ y. value_of_rest more (operate one.0 x y) storage)

-- All operands are evaluated, from the left; a size error goes on to the end.
abbrev pub expression_layer : List LocatedItem → Expression-F ExpressionValue → ExpressionValue
expression_layer items (Expression-F.Operand one) storage = operand_value items one storage
expression_layer items (Expression-F.Negated inner) storage = inner storage >>= (λ x. Ok (negate x))
expression_layer items (Expression-F.Chain first more) storage = first storage >>= (λ x. value_of_rest more x storage)

unfoldable pub expression_value : List LocatedItem → Expression → ExpressionValue
expression_value items = fold-Expression ExpressionValue (expression_layer items)
