-- The code of arithmetic doesn't depend on the instructions before it, but on how many there are.
use Rattle.std.proofs.Common.{Bool, false, List, [], ◌∷◌, map, refl, subst}
use Rattle.source_tree.specs.declared.reference.Reference.{Reference}
use Rattle.source_tree.specs.declared.expression.Operand.{Operand}
use Rattle.source_tree.specs.declared.expression.Operand.TheVariants as operand
use Rattle.source_tree.specs.declared.expression.Operator.{Operator}
use Rattle.source_tree.specs.declared.expression.Operator.TheVariants as operator
use Rattle.source_tree.specs.declared.expression.Expression.{Expression, roll-Expression}
use Rattle.source_tree.specs.declared.expression.Expression.TheOpen.{Expression-F}
use Rattle.source_tree.specs.declared.expression.Expression.TheFolds.{map-Expression, fold-roll-Expression}
use Rattle.source_tree.specs.declared.expression.Expression.TheFolds.{ind-Expression}
use Rattle.source_tree.specs.declared.arithmetic.Receiver.{Receiver}
use Rattle.source_tree.specs.declared.arithmetic.DivisionOrder.{DivisionOrder}
use Rattle.source_tree.specs.declared.arithmetic.DivisionOrder.TheVariants.{Into, By}
use Rattle.source_tree.specs.declared.arithmetic.Operation.{Operation}
use Rattle.source_tree.specs.declared.arithmetic.Operation.TheVariants.{Add, AddGiving, Subtract, SubtractGiving}
use Rattle.source_tree.specs.declared.arithmetic.Operation.TheVariants.{Multiply, MultiplyGiving, Divide, DivideGiving}
use Rattle.source_tree.specs.declared.arithmetic.Operation.TheVariants.{DivideRemainder, Compute}
use Rattle.source_tree.specs.Computed.{number_of_literal}
use Rattle.source_tree.specs.Places.{LocatedItem}
use Rattle.data_instructions.specs.declared.calculation.Calculation.TheVariants as c
use Rattle.data_instructions.specs.declared.instruction.DataInstruction.{DataInstruction}
use Rattle.data_instructions.specs.declared.instruction.DataInstruction.TheVariants as i
use Rattle.data_instructions.specs.ArithmeticCodes.{operator_code, duplicate, discard}
use Rattle.condition_codegen.specs.Fragments.{Fragment, sequence, in_order}
use Rattle.condition_codegen.specs.DataCode.{work_fragment, works_fragment, take_fragment}
use Rattle.condition_codegen.specs.ArithmeticCode.{zero_number, or_zero, division_fragment, void_code, value_fragment}
use Rattle.condition_codegen.specs.ArithmeticCode.{added_fragment, total_fragment, chain_fragment}
use Rattle.condition_codegen.specs.ArithmeticCode.{expression_layer_fragment, expression_fragment, quotient_scale}
use Rattle.condition_codegen.specs.ArithmeticCode.{store_fragment, update_fragment, updates_fragment, give_fragment}
use Rattle.condition_codegen.specs.ArithmeticCode.{gives_fragment, remainder_fragment, discard_fragment}
use Rattle.condition_codegen.specs.ArithmeticCode.{operation_fragment, arithmetic_fragment}
use Rattle.codegen.proofs.Blind.{Blind, both_blind, in_order_blind, work_blind, works_blind, number_blind, taking_blind}

division_blind : (order : DivisionOrder) (inner : Fragment) → Blind inner → Blind (division_fragment order inner)
division_blind By inner f = f
division_blind Into inner f =
    both_blind (works_fragment (duplicate 1 ∷ [])) (sequence inner (works_fragment (discard ∷ [])))
    (works_blind (duplicate 1 ∷ []))
    (both_blind inner (works_fragment (discard ∷ [])) f (works_blind (discard ∷ [])))

module _ (items : List LocatedItem) where
  pub value_blind : (one : Operand) → Blind (value_fragment items one)
  value_blind (operand.Item one) = taking_blind items i.Push one
  value_blind (operand.Literal one) = number_blind (or_zero (number_of_literal one.value))

  added_blind : (one : Operand) → Blind (added_fragment items one)
  added_blind one = both_blind (value_fragment items one) (work_fragment (i.Calculate c.Add)) (value_blind one)
      (work_blind (i.Calculate c.Add))

  total_blind : (all : List Operand) → Blind (total_fragment items all)
  total_blind [] = number_blind zero_number
  total_blind (one ∷ more) = both_blind (value_fragment items one) (in_order (added_fragment items) more)
      (value_blind one) (in_order_blind (added_fragment items) added_blind more)

  -- ---- expressions

  -- an expression whose code is so
  abbrev Seen : Type 0
  Seen = (one : Expression) × Blind (expression_fragment items one)

  chain_blind : (more : List (Operator × Seen))
      → Blind (in_order (chain_fragment items) (map (λ (p : Operator × Expression).
      (p.0, expression_fragment items p.1)) (map (λ (p : Operator × Seen). (p.0, p.1.0)) more)))
  chain_blind [] = record { by = λ a b alike. refl }
  chain_blind (one ∷ more) =
      both_blind (chain_fragment items (one.0, expression_fragment items one.1.0))
      (in_order (chain_fragment items) (map (λ (p : Operator × Expression). (p.0, expression_fragment items p.1))
      (map (λ (p : Operator × Seen). (p.0, p.1.0)) more)))
      (both_blind (expression_fragment items one.1.0) (work_fragment (operator_code one.0)) one.1.1
      (work_blind (operator_code one.0))) (chain_blind more)

  layer_blind : (l : Expression-F Seen) → Blind (expression_layer_fragment items
      (map-Expression Expression Fragment (expression_fragment items) (map-Expression Seen Expression (λ m. m.0) l)))
  layer_blind (Expression-F.Operand one) = value_blind one
  layer_blind (Expression-F.Negated inner) = both_blind (expression_fragment items inner.0)
      (work_fragment (i.Calculate c.Negate)) inner.1 (work_blind (i.Calculate c.Negate))
  layer_blind (Expression-F.Chain first more) =
      both_blind (expression_fragment items first.0) (in_order (chain_fragment items) (map (λ (p : Operator
      × Expression). (p.0, expression_fragment items p.1)) (map (λ (p : Operator × Seen). (p.0, p.1.0)) more)))
      first.1 (chain_blind more)

  rolled_blind : (l : Expression-F Seen)
      → Blind (expression_fragment items (roll-Expression (map-Expression Seen Expression (λ m. m.0) l)))
  unfolding expression_fragment
  rolled_blind l =
      rw (fold-roll-Expression Fragment (expression_layer_fragment items) (map-Expression Seen Expression (λ m. m.0) l))
      (layer_blind l)

  pub expression_blind : (one : Expression) → Blind (expression_fragment items one)
  expression_blind = ind-Expression (λ one. Blind (expression_fragment items one))
      (λ one l is. subst (λ k. Blind (expression_fragment items (roll-Expression k))) is (rolled_blind l))

  -- ---- operations

  module _ (keep : Bool) where
    store_blind : (one : Receiver) → Blind (store_fragment items keep one)
    store_blind one = taking_blind items (i.Store one.rounded keep) one.item

    update_blind : (by : Operator) (one : Receiver) → Blind (update_fragment items keep by one)
    update_blind by one =
        both_blind (take_fragment items i.Push one.item)
        (sequence (works_fragment (duplicate 1 ∷ operator_code by ∷ [])) (store_fragment items keep one))
        (taking_blind items i.Push one.item)
        (both_blind (works_fragment (duplicate 1 ∷ operator_code by ∷ [])) (store_fragment items keep one)
        (works_blind (duplicate 1 ∷ operator_code by ∷ [])) (store_blind one))

    give_blind : (one : Receiver) → Blind (give_fragment items keep one)
    give_blind one = both_blind (work_fragment (duplicate 0)) (store_fragment items keep one) (work_blind (duplicate 0))
        (store_blind one)

    -- updates, and gives, of what stands on the stack, which is taken away then
    updated_blind : (by : Operator) (all : List Receiver)
        → Blind (sequence (updates_fragment items keep by all) (discard_fragment items keep))
    updated_blind by all = both_blind (updates_fragment items keep by all) (discard_fragment items keep)
        (in_order_blind (update_fragment items keep by) (update_blind by) all) (works_blind (discard ∷ []))

    given_blind : (last : List DataInstruction) (all : List Receiver)
        → Blind (sequence (gives_fragment items keep all) (works_fragment last))
    given_blind last all = both_blind (gives_fragment items keep all) (works_fragment last)
        (in_order_blind (give_fragment items keep) give_blind all) (works_blind last)

    remainder_blind : (quotient : Receiver) (remainder : Reference)
        → Blind (remainder_fragment items keep quotient remainder)
    remainder_blind quotient remainder =
        let front = duplicate 1 ∷ duplicate 1 ∷ i.Calculate c.Divide ∷ [] in
        let middle = i.Calculate (c.Truncate (quotient_scale items quotient.item)) ∷ i.Calculate c.Multiply
        ∷ i.Calculate c.Subtract ∷ void_code keep in
        let last = take_fragment items (i.Store false keep) remainder in
        both_blind (works_fragment front)
        (sequence (give_fragment items keep quotient) (sequence (works_fragment middle) last)) (works_blind front)
        (both_blind (give_fragment items keep quotient) (sequence (works_fragment middle) last) (give_blind quotient)
        (both_blind (works_fragment middle) last (works_blind middle)
        (taking_blind items (i.Store false keep) remainder)))

    -- two operands, and what follows them
    operands_blind : (first second : Operand) (inner : Fragment) → Blind inner
        → Blind (sequence (value_fragment items first) (sequence (value_fragment items second) inner))
    operands_blind first second inner f =
        both_blind (value_fragment items first) (sequence (value_fragment items second) inner) (value_blind first)
        (both_blind (value_fragment items second) inner (value_blind second) f)

    operation_blind : (one : Operation) → Blind (operation_fragment items keep one)
    operation_blind (Add operands receivers) =
        both_blind (total_fragment items operands) (sequence (updates_fragment items keep operator.Add receivers)
        (discard_fragment items keep)) (total_blind operands) (updated_blind operator.Add receivers)
    operation_blind (AddGiving operands receivers) =
        both_blind (total_fragment items operands) (sequence (gives_fragment items keep receivers)
        (discard_fragment items keep)) (total_blind operands) (given_blind (discard ∷ []) receivers)
    operation_blind (Subtract operands receivers) =
        both_blind (total_fragment items operands) (sequence (updates_fragment items keep operator.Subtract receivers)
        (discard_fragment items keep)) (total_blind operands)
        (updated_blind operator.Subtract receivers)
    operation_blind (SubtractGiving operands minuend receivers) =
        let works = works_fragment (duplicate 1 ∷ i.Calculate c.Subtract ∷ []) in
        let gives = sequence (gives_fragment items keep receivers) (works_fragment (discard ∷ discard ∷ [])) in
        both_blind (total_fragment items operands) (sequence (value_fragment items minuend) (sequence works gives))
        (total_blind operands)
        (both_blind (value_fragment items minuend) (sequence works gives) (value_blind minuend)
        (both_blind works gives (works_blind (duplicate 1 ∷ i.Calculate c.Subtract ∷ []))
        (given_blind (discard ∷ discard ∷ []) receivers)))
    operation_blind (Multiply factor receivers) =
        both_blind (value_fragment items factor) (sequence (updates_fragment items keep operator.Multiply receivers)
        (discard_fragment items keep)) (value_blind factor)
        (updated_blind operator.Multiply receivers)
    operation_blind (MultiplyGiving factor by receivers) =
        let gives = sequence (gives_fragment items keep receivers) (discard_fragment items keep) in
        operands_blind factor by (sequence (work_fragment (i.Calculate c.Multiply)) gives)
        (both_blind (work_fragment (i.Calculate c.Multiply)) gives (work_blind (i.Calculate c.Multiply))
        (given_blind (discard ∷ []) receivers))
    operation_blind (Divide divisor receivers) =
        both_blind (value_fragment items divisor) (sequence (updates_fragment items keep operator.Divide receivers)
        (discard_fragment items keep)) (value_blind divisor)
        (updated_blind operator.Divide receivers)
    operation_blind (DivideGiving first order second receivers) =
        let gives = sequence (gives_fragment items keep receivers) (discard_fragment items keep) in
        let inner = sequence (work_fragment (i.Calculate c.Divide)) gives in
        operands_blind first second (division_fragment order inner)
        (division_blind order inner (both_blind (work_fragment (i.Calculate c.Divide)) gives
        (work_blind (i.Calculate c.Divide)) (given_blind (discard ∷ []) receivers)))
    operation_blind (DivideRemainder first order second quotient remainder) =
        operands_blind first second (division_fragment order (remainder_fragment items keep quotient remainder))
        (division_blind order (remainder_fragment items keep quotient remainder) (remainder_blind quotient remainder))
    operation_blind (Compute receivers value) =
        both_blind (expression_fragment items value) (sequence (gives_fragment items keep receivers)
        (discard_fragment items keep)) (expression_blind value) (given_blind (discard ∷ []) receivers)

    pub arithmetic_blind : (one : Operation) → Blind (arithmetic_fragment items keep one)
    arithmetic_blind one = both_blind (work_fragment i.ClearTruth) (operation_fragment items keep one)
        (work_blind i.ClearTruth) (operation_blind one)
