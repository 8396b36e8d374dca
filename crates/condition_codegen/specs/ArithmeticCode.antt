-- The code of arithmetic statements, without their phrases (own choice).
use Rattle.std.specs.Prelude.{ℕ, Bool, true, false, pos, List, [], ◌∷◌, Option, Some, None, slice_get}
use Rattle.decimal18.specs.Fraction.{Fraction}
use Rattle.source_tree.specs.declared.reference.Reference.{Reference}
use Rattle.source_tree.specs.declared.expression.Operand.{Operand}
use Rattle.source_tree.specs.declared.expression.Operand.TheVariants as operand
use Rattle.source_tree.specs.declared.expression.Operator.{Operator}
use Rattle.source_tree.specs.declared.expression.Operator.TheVariants as operator
use Rattle.source_tree.specs.declared.expression.Expression.{Expression}
use Rattle.source_tree.specs.declared.expression.Expression.TheOpen.{Expression-F}
use Rattle.source_tree.specs.declared.expression.Expression.TheFolds.{fold-Expression}
use Rattle.source_tree.specs.declared.arithmetic.Receiver.{Receiver}
use Rattle.source_tree.specs.declared.arithmetic.DivisionOrder.{DivisionOrder}
use Rattle.source_tree.specs.declared.arithmetic.DivisionOrder.TheVariants.{Into, By}
use Rattle.source_tree.specs.declared.arithmetic.Operation.{Operation}
use Rattle.source_tree.specs.declared.arithmetic.Operation.TheVariants.{Add, AddGiving, Subtract, SubtractGiving, Multiply, MultiplyGiving, Divide, DivideGiving, DivideRemainder, Compute}
use Rattle.source_tree.specs.Places.{LocatedItem}
use Rattle.source_tree.specs.Computed.{number_of_literal}
use Rattle.source_tree.specs.Arithmetic.{NumberReceiver, receiver_of}
use Rattle.data_instructions.specs.declared.calculation.Calculation.TheVariants as c
use Rattle.data_instructions.specs.declared.instruction.DataInstruction.{DataInstruction}
use Rattle.data_instructions.specs.declared.instruction.DataInstruction.TheVariants as i
use Rattle.data_instructions.specs.ArithmeticCodes.{operator_code, duplicate, discard}
use Rattle.condition_codegen.specs.Fragments.{Fragment, sequence, in_order}
use Rattle.condition_codegen.specs.DataCode.{item_number, work_fragment, works_fragment, number_fragment, take_fragment}

abbrev pub zero_number : Fraction
zero_number = record { coefficient = pos 0; scale = 0 }

-- Where the rules are kept, a literal is a number.
abbrev pub or_zero : Option Fraction → Fraction
or_zero None = zero_number
or_zero (Some x) = x

-- the decimals that a receiver keeps
abbrev pub receiver_scale : Option NumberReceiver → ℕ
receiver_scale None = 0
receiver_scale (Some to) = to.scale

abbrev pub scale_of_item : Option LocatedItem → ℕ
scale_of_item None = 0
scale_of_item (Some one) = receiver_scale (receiver_of one.item.kind one.editing)

-- The dividend below the divisor, in whatever order they were written; nothing of them is left.
abbrev pub division_fragment : DivisionOrder → Fragment → Fragment
division_fragment By inner = inner
division_fragment Into inner = sequence (works_fragment (duplicate 1 ∷ [])) (sequence inner (works_fragment (discard ∷ [])))

-- Where the quotient was kept there is no remainder.
abbrev pub void_code : Bool → List DataInstruction
void_code true = i.VoidIfTrue ∷ []
void_code false = []

-- `items` are those of the table of items, in order.
module _ (items : List LocatedItem) where
  -- the number of an operand
  abbrev pub value_fragment : Operand → Fragment
  value_fragment (operand.Item one) = take_fragment items i.Push one
  value_fragment (operand.Literal one) = number_fragment (or_zero (number_of_literal one.value))

  -- the number of an operand, added to the newest
  abbrev pub added_fragment : Operand → Fragment
  added_fragment one = sequence (value_fragment one) (work_fragment (i.Calculate c.Add))

  abbrev pub total_fragment : List Operand → Fragment
  total_fragment [] = number_fragment zero_number
  total_fragment (one ∷ more) = sequence (value_fragment one) (in_order added_fragment more)

  -- what stands on the right of an operator, and the operator
  abbrev pub chain_fragment : Operator × Fragment → Fragment
  chain_fragment one = sequence one.1 (work_fragment (operator_code one.0))

  abbrev pub expression_layer_fragment : Expression-F Fragment → Fragment
  expression_layer_fragment (Expression-F.Operand one) = value_fragment one
  expression_layer_fragment (Expression-F.Negated inner) = sequence inner (work_fragment (i.Calculate c.Negate))
  expression_layer_fragment (Expression-F.Chain first more) = sequence first (in_order chain_fragment more)

  unfoldable pub expression_fragment : Expression → Fragment
  expression_fragment = fold-Expression Fragment expression_layer_fragment

  -- the scale of a quotient
  abbrev pub quotient_scale : Reference → ℕ
  quotient_scale one = scale_of_item (slice_get items (item_number items one.item))

  -- `keep`: there is an ON SIZE ERROR phrase.
  module _ (keep : Bool) where
    abbrev pub store_fragment : Receiver → Fragment
    store_fragment receiver = take_fragment items (i.Store receiver.rounded keep) receiver.item

    abbrev pub update_fragment : Operator → Receiver → Fragment
    update_fragment one receiver = sequence (take_fragment items i.Push receiver.item) (sequence (works_fragment (duplicate 1 ∷ operator_code one ∷ [])) (store_fragment receiver))

    abbrev pub updates_fragment : Operator → List Receiver → Fragment
    updates_fragment one = in_order (update_fragment one)

    abbrev pub give_fragment : Receiver → Fragment
    give_fragment receiver = sequence (work_fragment (duplicate 0)) (store_fragment receiver)

    abbrev pub gives_fragment : List Receiver → Fragment
    gives_fragment = in_order give_fragment

    abbrev pub remainder_fragment : Receiver → Reference → Fragment
    remainder_fragment quotient remainder =
        sequence (works_fragment (duplicate 1 ∷ duplicate 1 ∷ i.Calculate c.Divide ∷ []))
        (sequence (give_fragment quotient)
        (sequence (works_fragment (i.Calculate (c.Truncate (quotient_scale quotient.item)) ∷ i.Calculate c.Multiply ∷ i.Calculate c.Subtract ∷ void_code keep))
        (take_fragment items (i.Store false keep) remainder)))

    abbrev pub discard_fragment : Fragment
    discard_fragment = works_fragment (discard ∷ [])

    abbrev pub operation_fragment : Operation → Fragment
    operation_fragment (Add operands receivers) = sequence (total_fragment operands) (sequence (updates_fragment operator.Add receivers) discard_fragment)
    operation_fragment (AddGiving operands receivers) = sequence (total_fragment operands) (sequence (gives_fragment receivers) discard_fragment)
    operation_fragment (Subtract operands receivers) = sequence (total_fragment operands) (sequence (updates_fragment operator.Subtract receivers) discard_fragment)
    operation_fragment (SubtractGiving operands minuend receivers) =
        sequence (total_fragment operands) (sequence (value_fragment minuend)
        (sequence (works_fragment (duplicate 1 ∷ i.Calculate c.Subtract ∷ [])) (sequence (gives_fragment receivers) (works_fragment (discard ∷ discard ∷ [])))))
    operation_fragment (Multiply factor receivers) = sequence (value_fragment factor) (sequence (updates_fragment operator.Multiply receivers) discard_fragment)
    operation_fragment (MultiplyGiving factor by receivers) =
        sequence (value_fragment factor) (sequence (value_fragment by) (sequence (work_fragment (i.Calculate c.Multiply)) (sequence (gives_fragment receivers) discard_fragment)))
    operation_fragment (Divide divisor receivers) = sequence (value_fragment divisor) (sequence (updates_fragment operator.Divide receivers) discard_fragment)
    operation_fragment (DivideGiving first order second receivers) =
        sequence (value_fragment first) (sequence (value_fragment second)
        (division_fragment order (sequence (work_fragment (i.Calculate c.Divide)) (sequence (gives_fragment receivers) discard_fragment))))
    operation_fragment (DivideRemainder first order second quotient remainder) =
        sequence (value_fragment first) (sequence (value_fragment second) (division_fragment order (remainder_fragment quotient remainder)))
    operation_fragment (Compute receivers value) = sequence (expression_fragment value) (sequence (gives_fragment receivers) discard_fragment)

    -- an arithmetic statement, after its `tick` and before its phrases
    abbrev pub arithmetic_fragment : Operation → Fragment
    arithmetic_fragment one = sequence (work_fragment i.ClearTruth) (operation_fragment one)
