-- The code of arithmetic statements without their phrases is straight: it counts nothing and leads nowhere.
use Rattle.std.proofs.Common.{Bool, false, List, [], ◌∷◌, map, sym, subst}
use Rattle.source_tree.specs.declared.reference.Reference.{Reference}
use Rattle.source_tree.specs.declared.expression.Operand.{Operand}
use Rattle.source_tree.specs.declared.expression.Operand.TheVariants as operand
use Rattle.source_tree.specs.declared.expression.Operator.{Operator}
use Rattle.source_tree.specs.declared.expression.Operator.TheVariants as operator
use Rattle.source_tree.specs.declared.expression.Expression.{Expression, roll-Expression}
use Rattle.source_tree.specs.declared.expression.Expression.TheOpen.{Expression-F}
use Rattle.source_tree.specs.declared.expression.Expression.TheFolds.{map-Expression, ind-Expression}
use Rattle.source_tree.specs.declared.arithmetic.Receiver.{Receiver}
use Rattle.source_tree.specs.declared.arithmetic.DivisionOrder.{DivisionOrder}
use Rattle.source_tree.specs.declared.arithmetic.DivisionOrder.TheVariants.{Into, By}
use Rattle.source_tree.specs.declared.arithmetic.Operation.{Operation}
use Rattle.source_tree.specs.declared.arithmetic.Operation.TheVariants.{Add, AddGiving, Subtract, SubtractGiving}
use Rattle.source_tree.specs.declared.arithmetic.Operation.TheVariants.{Multiply, MultiplyGiving, Divide, DivideGiving}
use Rattle.source_tree.specs.declared.arithmetic.Operation.TheVariants.{DivideRemainder, Compute}
use Rattle.source_tree.specs.Computed.{number_of_literal}
use Rattle.source_tree.specs.Places.{LocatedItem}
use Rattle.data_instructions.specs.declared.calculation.Calculation.TheVariants as c
use Rattle.data_instructions.specs.declared.instruction.DataInstruction.{DataInstruction}
use Rattle.data_instructions.specs.declared.instruction.DataInstruction.TheVariants as i
use Rattle.data_instructions.specs.ArithmeticCodes.{operator_code, duplicate, discard}
use Rattle.condition_codegen.specs.Fragments.{Fragment, sequence, in_order}
use Rattle.condition_codegen.specs.DataCode.{work_fragment, works_fragment, take_fragment}
use Rattle.condition_codegen.specs.ArithmeticCode.{zero_number, or_zero, division_fragment, void_code, value_fragment}
use Rattle.condition_codegen.specs.ArithmeticCode.{added_fragment, total_fragment, chain_fragment}
use Rattle.condition_codegen.specs.ArithmeticCode.{expression_layer_fragment, expression_fragment, quotient_scale}
use Rattle.condition_codegen.specs.ArithmeticCode.{store_fragment, update_fragment, updates_fragment, give_fragment}
use Rattle.condition_codegen.specs.ArithmeticCode.{gives_fragment, remainder_fragment, operation_fragment}
use Rattle.condition_codegen.specs.ArithmeticCode.{arithmetic_fragment}
use Rattle.codegen.proofs.ExpressionLayers.{mapped_piece}
use Rattle.codegen.proofs.Straight.{AlwaysStraight, both_straight, in_order_straight, nothing_straight, works_straight}
use Rattle.codegen.proofs.Straight.{work_straight, number_straight, taking_straight}

module _ (items : List LocatedItem) where
  pub value_straight : (one : Operand) → AlwaysStraight items (value_fragment items one)
  value_straight (operand.Item one) = taking_straight items i.Push one
  value_straight (operand.Literal one) = number_straight (or_zero (number_of_literal one.value))

  added_straight : (one : Operand) → AlwaysStraight items (added_fragment items one)
  added_straight one = both_straight (value_fragment items one) (work_fragment (i.Calculate c.Add)) (value_straight one)
      (work_straight (i.Calculate c.Add))

  total_straight : (all : List Operand) → AlwaysStraight items (total_fragment items all)
  total_straight [] = number_straight zero_number
  total_straight (one ∷ more) = both_straight (value_fragment items one) (in_order (added_fragment items) more)
      (value_straight one) (in_order_straight (added_fragment items) added_straight more)

  -- ---- expressions

  record IsStraightly (one : Expression) : Type 0 where
    by : AlwaysStraight items (expression_fragment items one)

  abbrev Known : Type 0
  Known = (one : Expression) × IsStraightly one

  abbrev piece_of : Known → Fragment
  piece_of m = expression_fragment items m.0

  abbrev pair_of : Operator × Known → Operator × Fragment
  pair_of one = (one.0, piece_of one.1)

  more_straight : (more : List (Operator × Known))
      → AlwaysStraight items (in_order (chain_fragment items) (map pair_of more))
  more_straight [] before = nothing_straight
  more_straight (one ∷ more) before =
      both_straight (chain_fragment items (pair_of one)) (in_order (chain_fragment items) (map pair_of more))
      (both_straight (piece_of one.1) (work_fragment (operator_code one.0)) one.1.1.by
      (work_straight (operator_code one.0))) (more_straight more) before

  layer_straight : (l : Expression-F Known)
      → AlwaysStraight items (expression_layer_fragment items (map-Expression Known Fragment piece_of l))
  layer_straight (Expression-F.Operand one) = value_straight one
  layer_straight (Expression-F.Negated inner) = both_straight (piece_of inner) (work_fragment (i.Calculate c.Negate))
      inner.1.by (work_straight (i.Calculate c.Negate))
  layer_straight (Expression-F.Chain first more) = both_straight (piece_of first)
      (in_order (chain_fragment items) (map pair_of more)) first.1.by (more_straight more)

  straight_inside : (l : Expression-F Known)
      → IsStraightly (roll-Expression (map-Expression Known Expression (λ m. m.0) l))
  straight_inside l =
      record { by = subst (AlwaysStraight items) (sym (mapped_piece items (λ (m : Known). m.0) l)) (layer_straight l) }

  straightly : (one : Expression) → IsStraightly one
  straightly =
      ind-Expression IsStraightly (λ one l is. subst (λ k. IsStraightly (roll-Expression k)) is (straight_inside l))

  pub expression_straight : (one : Expression) → AlwaysStraight items (expression_fragment items one)
  expression_straight one = (straightly one).by

  -- ---- receivers

  module _ (keep : Bool) where
    store_straight : (one : Receiver) → AlwaysStraight items (store_fragment items keep one)
    store_straight one = taking_straight items (i.Store one.rounded keep) one.item

    update_straight : (by : Operator) (one : Receiver) → AlwaysStraight items (update_fragment items keep by one)
    update_straight by one =
        let calculating = duplicate 1 ∷ operator_code by ∷ [] in
        both_straight (take_fragment items i.Push one.item)
        (sequence (works_fragment calculating) (store_fragment items keep one)) (taking_straight items i.Push one.item)
        (both_straight (works_fragment calculating) (store_fragment items keep one) (works_straight calculating)
        (store_straight one))

    give_straight : (one : Receiver) → AlwaysStraight items (give_fragment items keep one)
    give_straight one = both_straight (work_fragment (duplicate 0)) (store_fragment items keep one)
        (work_straight (duplicate 0)) (store_straight one)

    gives_straight : (all : List Receiver) → AlwaysStraight items (gives_fragment items keep all)
    gives_straight = in_order_straight (give_fragment items keep) give_straight

    -- a piece between instructions
    between_straight : (all : List DataInstruction) (piece : Fragment) (last : List DataInstruction)
        → AlwaysStraight items piece
        → AlwaysStraight items (sequence (works_fragment all) (sequence piece (works_fragment last)))
    between_straight all piece last straight = both_straight (works_fragment all) (sequence piece (works_fragment last))
        (works_straight all) (both_straight piece (works_fragment last) straight (works_straight last))

    remainder_straight : (quotient : Receiver) (remainder : Reference)
        → AlwaysStraight items (remainder_fragment items keep quotient remainder)
    remainder_straight quotient remainder =
        let first = duplicate 1 ∷ duplicate 1 ∷ i.Calculate c.Divide ∷ [] in
        let second = i.Calculate (c.Truncate (quotient_scale items quotient.item)) ∷ i.Calculate c.Multiply
        ∷ i.Calculate c.Subtract ∷ void_code keep in
        let last = take_fragment items (i.Store false keep) remainder in
        both_straight (works_fragment first)
        (sequence (give_fragment items keep quotient) (sequence (works_fragment second) last)) (works_straight first)
        (both_straight (give_fragment items keep quotient) (sequence (works_fragment second) last)
        (give_straight quotient)
        (both_straight (works_fragment second) last (works_straight second)
        (taking_straight items (i.Store false keep) remainder)))

    division_straight : (one : DivisionOrder) (piece : Fragment) → AlwaysStraight items piece
        → AlwaysStraight items (division_fragment one piece)
    division_straight By piece straight = straight
    division_straight Into piece straight = between_straight (duplicate 1 ∷ []) piece (discard ∷ []) straight

    -- ---- operations

    -- a value, what is done with it, and instructions
    done_straight : (value piece : Fragment) (last : List DataInstruction) → AlwaysStraight items value
        → AlwaysStraight items piece
        → AlwaysStraight items (sequence value (sequence piece (works_fragment last)))
    done_straight value piece last first straight = both_straight value (sequence piece (works_fragment last)) first
        (both_straight piece (works_fragment last) straight (works_straight last))

    two_straight : (value other piece : Fragment) → AlwaysStraight items value → AlwaysStraight items other
        → AlwaysStraight items piece
        → AlwaysStraight items (sequence value (sequence other piece))
    two_straight value other piece first second straight =
        both_straight value (sequence other piece) first (both_straight other piece second straight)

    updated_straight : (value : Fragment) (by : Operator) (receivers : List Receiver) → AlwaysStraight items value
        → AlwaysStraight items
        (sequence value (sequence (updates_fragment items keep by receivers) (works_fragment (discard ∷ []))))
    updated_straight value by receivers straight = done_straight value (updates_fragment items keep by receivers)
        (discard ∷ []) straight (in_order_straight (update_fragment items keep by) (update_straight by) receivers)

    operation_straight : (one : Operation) → AlwaysStraight items (operation_fragment items keep one)
    operation_straight (Add operands receivers) =
        updated_straight (total_fragment items operands) operator.Add receivers (total_straight operands)
    operation_straight (AddGiving operands receivers) = done_straight (total_fragment items operands)
        (gives_fragment items keep receivers) (discard ∷ []) (total_straight operands) (gives_straight receivers)
    operation_straight (Subtract operands receivers) =
        updated_straight (total_fragment items operands) operator.Subtract receivers (total_straight operands)
    operation_straight (SubtractGiving operands minuend receivers) =
        let all = duplicate 1 ∷ i.Calculate c.Subtract ∷ [] in
        let last = discard ∷ discard ∷ [] in
        two_straight (total_fragment items operands) (value_fragment items minuend)
        (sequence (works_fragment all) (sequence (gives_fragment items keep receivers) (works_fragment last)))
        (total_straight operands) (value_straight minuend)
        (between_straight all (gives_fragment items keep receivers) last (gives_straight receivers))
    operation_straight (Multiply factor receivers) =
        updated_straight (value_fragment items factor) operator.Multiply receivers (value_straight factor)
    operation_straight (MultiplyGiving factor by receivers) =
        let all = i.Calculate c.Multiply ∷ [] in
        let last = discard ∷ [] in
        two_straight (value_fragment items factor) (value_fragment items by)
        (sequence (works_fragment all) (sequence (gives_fragment items keep receivers) (works_fragment last)))
        (value_straight factor) (value_straight by)
        (between_straight all (gives_fragment items keep receivers) last (gives_straight receivers))
    operation_straight (Divide divisor receivers) =
        updated_straight (value_fragment items divisor) operator.Divide receivers (value_straight divisor)
    operation_straight (DivideGiving one way two receivers) =
        let all = i.Calculate c.Divide ∷ [] in
        let last = discard ∷ [] in
        let inner =
        sequence (works_fragment all) (sequence (gives_fragment items keep receivers) (works_fragment last)) in
        two_straight (value_fragment items one) (value_fragment items two) (division_fragment way inner)
        (value_straight one) (value_straight two)
        (division_straight way inner
        (between_straight all (gives_fragment items keep receivers) last (gives_straight receivers)))
    operation_straight (DivideRemainder one way two quotient remainder) =
        let inner = remainder_fragment items keep quotient remainder in
        two_straight (value_fragment items one) (value_fragment items two) (division_fragment way inner)
        (value_straight one) (value_straight two) (division_straight way inner (remainder_straight quotient remainder))
    operation_straight (Compute receivers value) = done_straight (expression_fragment items value)
        (gives_fragment items keep receivers) (discard ∷ []) (expression_straight value) (gives_straight receivers)

    pub arithmetic_straight : (one : Operation) → AlwaysStraight items (arithmetic_fragment items keep one)
    arithmetic_straight one = both_straight (work_fragment i.ClearTruth) (operation_fragment items keep one)
        (work_straight i.ClearTruth) (operation_straight one)
