-- The code of arithmetic statements finds what it needs.
use Rattle.std.proofs.Common.{◌≡◌, ℕ, ◌+◌, ◌-◌, ◌≤◌, List, [], ◌∷◌, ◌++◌, refl, ◌∙◌, ap, arith, Some, None}
use Rattle.std.specs.Prelude.{Bool, true, false, if◌then◌else◌}
use Rattle.source_tree.specs.declared.reference.Reference.{Reference}
use Rattle.source_tree.specs.declared.expression.Operand.{Operand}
use Rattle.source_tree.specs.declared.expression.Operand.TheVariants as operand
use Rattle.source_tree.specs.declared.expression.Operator.{Operator}
use Rattle.source_tree.specs.declared.expression.Operator.TheVariants as operator
use Rattle.source_tree.specs.declared.arithmetic.Receiver.{Receiver}
use Rattle.source_tree.specs.declared.arithmetic.DivisionOrder.{DivisionOrder}
use Rattle.source_tree.specs.declared.arithmetic.DivisionOrder.TheVariants.{Into, By}
use Rattle.source_tree.specs.declared.arithmetic.Operation.{Operation}
use Rattle.source_tree.specs.declared.arithmetic.Operation.TheVariants as o
use Rattle.source_tree.specs.Places.{LocatedItem}
use Rattle.data_instructions.specs.declared.tables.DataTables.{DataTables}
use Rattle.data_instructions.specs.declared.shape.Shape.{Shape}
use Rattle.data_instructions.specs.declared.calculation.Calculation.TheVariants as calculation
use Rattle.data_instructions.specs.declared.instruction.DataInstruction.{DataInstruction}
use Rattle.data_instructions.specs.declared.instruction.DataInstruction.TheVariants as i
use Rattle.data_instructions.specs.Shapes.{and_then, and_one, without_place, shape_with}
use Rattle.data_instructions.specs.Codes.{IsTakingCode}
use Rattle.data_instructions.specs.Chains.{effects, last_begin, LiesAll}
use Rattle.data_instructions.specs.ArithmeticCodes.{operator_code, duplicate, discard, PushesNumber, StaysOver}
use Rattle.data_instructions.specs.ArithmeticCodes.{AreAddedCode, IsTotalCode, IsUpdateCode, AreUpdatesCode, IsGiveCode}
use Rattle.data_instructions.specs.ArithmeticCodes.{AreGivesCode, kept_code, IsRemainderCode, IsDivisionCode}
use Rattle.data_instructions.specs.ArithmeticCodes.{IsOperationCode, IsArithmeticCode, LieOperands, LieReceivers}
use Rattle.data_instructions.specs.ArithmeticCodes.{LiesOperation, KnowsArithmetic}
use Rattle.data_instructions.proofs.Chains.{effects_append, within, taking_known}
use Rattle.data_instructions.proofs.Expressions.{counting, calculated_known, operator_known, first_known, further_known}
use Rattle.data_instructions.proofs.Expressions.{number_known, value_known}

-- with one number more all is as before then
abbrev Takes : DataTables → List DataInstruction → Type 0
Takes tables code = (s : Shape) → effects tables code (counting (s.stacks.numbers + 1) s) ≡ Some s

-- the same with two more
abbrev pub TakesTwo : DataTables → List DataInstruction → Type 0
TakesTwo tables code = (s : Shape) → effects tables code (counting (s.stacks.numbers + 1 + 1) s) ≡ Some s

module _ (tables : DataTables) where
  duplicate_known : (depth : ℕ) (more : List DataInstruction) (n : ℕ) (s : Shape) → depth + 1 ≤ n
      → effects tables (duplicate depth ∷ more) (counting n s) ≡ effects tables more (counting (n + 1) s)
  duplicate_known depth more n s enough =
      calculated_known tables (calculation.Duplicate depth) more n (n + 1) s enough (omega (arith, enough))

  discard_known : (more : List DataInstruction) (s : Shape)
      → effects tables (discard ∷ more) (counting (s.stacks.numbers + 1) s) ≡ effects tables more s
  discard_known more s = calculated_known tables calculation.Discard more (s.stacks.numbers + 1) s.stacks.numbers s
      (omega arith) (omega arith)

  stays_then : (front back : List DataInstruction) → StaysOver tables front → StaysOver tables back
      → StaysOver tables (front ++ back)
  stays_then front back one other s some =
      effects_append tables front back s ∙ ap (λ r. and_then r (effects tables back)) (one s some) ∙ other s some

  dropped_known : (code : List DataInstruction) → StaysOver tables code → Takes tables (code ++ (discard ∷ []))
  dropped_known code stays s =
      effects_append tables code (discard ∷ []) (counting (s.stacks.numbers + 1) s)
      ∙ ap (λ r. and_then r (effects tables (discard ∷ []))) (stays (counting (s.stacks.numbers + 1) s) (omega arith))
      ∙ discard_known [] s

  valued_known : (front back : List DataInstruction) → PushesNumber tables front → Takes tables back
      → KnowsArithmetic tables (front ++ back)
  valued_known front back adds takes s =
      effects_append tables front back s ∙ ap (λ r. and_then r (effects tables back)) (adds s) ∙ takes s

  pub valued_two_known : (front middle back : List DataInstruction) → PushesNumber tables front
      → PushesNumber tables middle → TakesTwo tables back → KnowsArithmetic tables (front ++ (middle ++ back))
  valued_two_known front middle back adds adds_other takes =
      valued_known front (middle ++ back) adds (λ s.
      effects_append tables middle back (counting (s.stacks.numbers + 1) s)
      ∙ ap (λ r. and_then r (effects tables back)) (adds_other (counting (s.stacks.numbers + 1) s))
      ∙ takes s)

  combined_known : (one : Operator) (code : List DataInstruction) → Takes tables code
      → TakesTwo tables (operator_code one ∷ code)
  combined_known one code takes s =
      operator_known tables one code (counting (s.stacks.numbers + 1) s) (omega arith) ∙ takes s

module _ (items : List LocatedItem) (tables : DataTables) where
  added_known : (operands : List Operand) (code : List DataInstruction) → AreAddedCode items tables operands code
      → LieOperands items tables operands → StaysOver tables code
  added_known [] code is lie s some = ap (λ code. effects tables code s) is
  added_known (one ∷ more) code (front, is_front, back, is_back, is) lie s some =
      ap (λ code. effects tables code s) is
      ∙ further_known tables operator.Add front back (value_known items tables one front is_front lie.0)
      (added_known more back is_back lie.1) s some

  total_known : (operands : List Operand) (code : List DataInstruction) → IsTotalCode items tables operands code
      → LieOperands items tables operands → PushesNumber tables code
  total_known [] code is lie s = number_known items tables _ code is s
  total_known (one ∷ more) code (front, is_front, back, is_back, is) lie s =
      ap (λ code. effects tables code s) is
      ∙ first_known tables front back (value_known items tables one front is_front lie.0)
      (added_known more back is_back lie.1) s

  store_known : (rounded keep : Bool) (reference : Reference) (code : List DataInstruction)
      → IsTakingCode items tables (i.Store rounded keep) reference code → LiesAll items tables reference
      → Takes tables code
  store_known rounded keep reference code is lies s =
      let n : ℕ = s.stacks.numbers in
      taking_known items tables (i.Store rounded keep) reference code is lies (counting (n + 1) s)
      ∙ ap (λ b. and_then (shape_with (and_then (if b then Some (record {
        numbers = n + 1 - 1;
        places =
            record { item = is.1.index; reach = last_begin is.1.found reference.part } ∷ s.stacks.places;
      }) else None) without_place) (Some s.line) (Some s.sender)) (effects tables [])) (within 1 (n + 1) (omega arith))
      ∙ ap (λ m. Some (counting m s)) (omega arith)

  give_known : (keep : Bool) (receiver : Receiver) (code : List DataInstruction)
      → IsGiveCode items tables keep receiver code → LiesAll items tables receiver.item → StaysOver tables code
  give_known keep receiver code (back, is_back, is) lies s some =
      ap (λ code. effects tables code s) is
      ∙ duplicate_known tables 0 back s.stacks.numbers s some
      ∙ store_known receiver.rounded keep receiver.item back is_back lies s

  gives_known : (keep : Bool) (receivers : List Receiver) (code : List DataInstruction)
      → AreGivesCode items tables keep receivers code → LieReceivers items tables receivers → StaysOver tables code
  gives_known keep [] code is lie s some = ap (λ code. effects tables code s) is
  gives_known keep (one ∷ more) code (front, is_front, back, is_back, is) lie s some =
      ap (λ code. effects tables code s) is
      ∙ stays_then tables front back (give_known keep one front is_front lie.0)
      (gives_known keep more back is_back lie.1) s some

  update_known : (keep : Bool) (one : Operator) (receiver : Receiver) (code : List DataInstruction)
      → IsUpdateCode items tables keep one receiver code → LiesAll items tables receiver.item → StaysOver tables code
  update_known keep one receiver code (front, is_front, back, is_back, is) lies s some =
      let t : Shape = counting (s.stacks.numbers + 1) s in
      let later : List DataInstruction = duplicate 1 ∷ operator_code one ∷ back in
      ap (λ code. effects tables code s) is
      ∙ effects_append tables front later s
      ∙ ap (λ r. and_then r (effects tables later))
      (value_known items tables (operand.Item receiver.item) front is_front lies s)
      ∙ duplicate_known tables 1 (operator_code one ∷ back) (s.stacks.numbers + 1) s (omega (arith, some))
      ∙ operator_known tables one back t (omega arith)
      ∙ store_known receiver.rounded keep receiver.item back is_back lies s

  updates_known : (keep : Bool) (one : Operator) (receivers : List Receiver) (code : List DataInstruction)
      → AreUpdatesCode items tables keep one receivers code → LieReceivers items tables receivers
      → StaysOver tables code
  updates_known keep one [] code is lie s some = ap (λ code. effects tables code s) is
  updates_known keep one (receiver ∷ more) code (front, is_front, back, is_back, is) lie s some =
      ap (λ code. effects tables code s) is
      ∙ stays_then tables front back (update_known keep one receiver front is_front lie.0)
      (updates_known keep one more back is_back lie.1) s some

  kept_known : (keep b : Bool) (more : List DataInstruction) (s : Shape) → effects tables (kept_code items tables keep b
      ++ more) (counting (s.stacks.numbers + 1) s) ≡ effects tables more (counting (s.stacks.numbers + 1) s)
  kept_known keep true more s =
      let n : ℕ = s.stacks.numbers in
      ap (λ b. and_then (shape_with (and_then (if b then Some (record s.stacks { numbers = n + 1 - 1 }) else None)
      and_one) (Some s.line) (Some s.sender)) (effects tables more)) (within 1 (n + 1) (omega arith))
      ∙ ap (λ m. effects tables more (counting m s)) (omega arith)
  kept_known keep false more s = refl

  remainder_known : (keep : Bool) (quotient : Receiver) (remainder : Reference) (code : List DataInstruction)
      → IsRemainderCode items tables keep quotient remainder code → LiesAll items tables quotient.item
      → LiesAll items tables remainder → TakesTwo tables code
  remainder_known keep quotient remainder code (give_code, is_give, scale, has, back, is_back, is) lies lies_rest s =
      ap (λ code. effects tables code (counting (n + 1 + 1) s)) is
      ∙ effects_append tables (duplicate 1 ∷ duplicate 1 ∷ i.Calculate calculation.Divide ∷ give_code) later
      (counting (n + 1 + 1) s)
      ∙ ap (λ r. and_then r (effects tables later)) quotient_known
      ∙ calculated_known tables (calculation.Truncate scale) (i.Calculate calculation.Multiply
      ∷ i.Calculate calculation.Subtract ∷ last) (n + 1 + 1 + 1) (n + 1 + 1 + 1) s (omega arith) (omega arith)
      ∙ operator_known tables operator.Multiply (i.Calculate calculation.Subtract ∷ last) (counting (n + 1 + 1) s)
      (omega arith)
      ∙ operator_known tables operator.Subtract last (counting (n + 1) s) (omega arith)
      ∙ kept_known keep keep back s
      ∙ store_known false keep remainder back is_back lies_rest s
    where
      n : ℕ
      n = s.stacks.numbers

      last : List DataInstruction
      last = kept_code items tables keep keep ++ back

      later : List DataInstruction
      later = i.Calculate (calculation.Truncate scale) ∷ i.Calculate calculation.Multiply
          ∷ i.Calculate calculation.Subtract ∷ last

      quotient_known : effects tables (duplicate 1 ∷ duplicate 1 ∷ i.Calculate calculation.Divide ∷ give_code)
          (counting (n + 1 + 1) s) ≡ Some (counting (n + 1 + 1 + 1) s)
      quotient_known =
          duplicate_known tables 1 (duplicate 1 ∷ i.Calculate calculation.Divide ∷ give_code) (n + 1 + 1) s
          (omega arith)
          ∙ duplicate_known tables 1 (i.Calculate calculation.Divide ∷ give_code) (n + 1 + 1 + 1) s (omega arith)
          ∙ operator_known tables operator.Divide give_code (counting (n + 1 + 1 + 1) s) (omega arith)
          ∙ give_known keep quotient give_code is_give lies (counting (n + 1 + 1 + 1) s) (omega arith)

  division_known : (keep : Bool) (written : DivisionOrder) (inner code : List DataInstruction) → TakesTwo tables inner
      → IsDivisionCode items tables keep written inner code → TakesTwo tables code
  division_known keep By inner code takes is s =
      ap (λ code. effects tables code (counting (s.stacks.numbers + 1 + 1) s)) is ∙ takes s
  division_known keep Into inner code takes is s =
      let n : ℕ = s.stacks.numbers in
      ap (λ code. effects tables code (counting (n + 1 + 1) s)) is
      ∙ duplicate_known tables 1 (inner ++ (discard ∷ [])) (n + 1 + 1) s (omega arith)
      ∙ effects_append tables inner (discard ∷ []) (counting (n + 1 + 1 + 1) s)
      ∙ ap (λ r. and_then r (effects tables (discard ∷ []))) (takes (counting (n + 1) s))
      ∙ discard_known tables [] s

  less_total_known : (code : List DataInstruction) → StaysOver tables code
      → TakesTwo tables (duplicate 1 ∷ i.Calculate calculation.Subtract ∷ (code ++ (discard ∷ discard ∷ [])))
  less_total_known code stays s =
      let n : ℕ = s.stacks.numbers in
      duplicate_known tables 1 (i.Calculate calculation.Subtract ∷ (code ++ (discard ∷ discard ∷ []))) (n + 1 + 1) s
      (omega arith)
      ∙ operator_known tables operator.Subtract (code ++ (discard ∷ discard ∷ [])) (counting (n + 1 + 1) s)
      (omega arith)
      ∙ effects_append tables code (discard ∷ discard ∷ []) (counting (n + 1 + 1) s)
      ∙ ap (λ r. and_then r (effects tables (discard ∷ discard ∷ []))) (stays (counting (n + 1 + 1) s) (omega arith))
      ∙ discard_known tables (discard ∷ []) (counting (n + 1) s)
      ∙ discard_known tables [] s

  given_known : (keep : Bool) (receivers : List Receiver) (code : List DataInstruction)
      → AreGivesCode items tables keep receivers code → LieReceivers items tables receivers
      → Takes tables (code ++ (discard ∷ []))
  given_known keep receivers code is lie = dropped_known tables code (gives_known keep receivers code is lie)

  updated_known : (keep : Bool) (one : Operator) (receivers : List Receiver) (code : List DataInstruction)
      → AreUpdatesCode items tables keep one receivers code → LieReceivers items tables receivers
      → Takes tables (code ++ (discard ∷ []))
  updated_known keep one receivers code is lie =
      dropped_known tables code (updates_known keep one receivers code is lie)

  operation_known : (keep : Bool) (one : Operation) (code : List DataInstruction)
      → IsOperationCode items tables keep one code → LiesOperation items tables one → KnowsArithmetic tables code
  operation_known keep (o.Add operands receivers) code (front, is_front, back, is_back, is) lies s =
      ap (λ code. effects tables code s) is
      ∙ valued_known tables front (back ++ (discard ∷ [])) (total_known operands front is_front lies.0)
      (updated_known keep operator.Add receivers back is_back lies.1) s
  operation_known keep (o.AddGiving operands receivers) code (front, is_front, back, is_back, is) lies s =
      ap (λ code. effects tables code s) is
      ∙ valued_known tables front (back ++ (discard ∷ [])) (total_known operands front is_front lies.0)
      (given_known keep receivers back is_back lies.1) s
  operation_known keep (o.Subtract operands receivers) code (front, is_front, back, is_back, is) lies s =
      ap (λ code. effects tables code s) is
      ∙ valued_known tables front (back ++ (discard ∷ [])) (total_known operands front is_front lies.0)
      (updated_known keep operator.Subtract receivers back is_back lies.1) s
  operation_known keep (o.SubtractGiving operands minuend receivers) code
      (front, is_front, other, is_other, back, is_back, is) lies s =
      ap (λ code. effects tables code s) is
      ∙ valued_two_known tables front other
      (duplicate 1 ∷ i.Calculate calculation.Subtract ∷ (back ++ (discard ∷ discard ∷ [])))
      (total_known operands front is_front lies.0) (value_known items tables minuend other is_other lies.1)
      (less_total_known back (gives_known keep receivers back is_back lies.2)) s
  operation_known keep (o.Multiply factor receivers) code (front, is_front, back, is_back, is) lies s =
      ap (λ code. effects tables code s) is
      ∙ valued_known tables front (back ++ (discard ∷ [])) (value_known items tables factor front is_front lies.0)
      (updated_known keep operator.Multiply receivers back is_back lies.1) s
  operation_known keep (o.MultiplyGiving factor by receivers) code (front, is_front, other, is_other, back, is_back, is)
      lies s =
      ap (λ code. effects tables code s) is
      ∙ valued_two_known tables front other (i.Calculate calculation.Multiply ∷ (back ++ (discard ∷ [])))
      (value_known items tables factor front is_front lies.0) (value_known items tables by other is_other lies.1)
      (combined_known tables operator.Multiply (back ++ (discard ∷ []))
      (given_known keep receivers back is_back lies.2)) s
  operation_known keep (o.Divide divisor receivers) code (front, is_front, back, is_back, is) lies s =
      ap (λ code. effects tables code s) is
      ∙ valued_known tables front (back ++ (discard ∷ [])) (value_known items tables divisor front is_front lies.0)
      (updated_known keep operator.Divide receivers back is_back lies.1) s
  operation_known keep (o.DivideGiving first written second receivers) code
      (front, is_front, other, is_other, back, is_back, last, is_last, is) lies s =
      ap (λ code. effects tables code s) is
      ∙ valued_two_known tables front other last (value_known items tables first front is_front lies.0)
      (value_known items tables second other is_other lies.1)
      (division_known keep written (i.Calculate calculation.Divide ∷ (back ++ (discard ∷ []))) last (combined_known
      tables operator.Divide (back ++ (discard ∷ [])) (given_known keep receivers back is_back lies.2)) is_last) s
  operation_known keep (o.DivideRemainder first written second quotient remainder) code
      (front, is_front, other, is_other, back, is_back, last, is_last, is) lies s =
      ap (λ code. effects tables code s) is
      ∙ valued_two_known tables front other last (value_known items tables first front is_front lies.0)
      (value_known items tables second other is_other lies.1)
      (division_known keep written back last (remainder_known keep quotient remainder back is_back lies.2 lies.3)
      is_last) s
  operation_known keep (o.Compute receivers value) code (front, computes, adds, back, is_back, is) lies s =
      ap (λ code. effects tables code s) is
      ∙ valued_known tables front (back ++ (discard ∷ [])) adds (given_known keep receivers back is_back lies) s

  pub arithmetic_known : (keep : Bool) (one : Operation) (code : List DataInstruction)
      → IsArithmeticCode items tables keep one code → LiesOperation items tables one → KnowsArithmetic tables code
  arithmetic_known keep one code (body, is_body, is) lies s =
      ap (λ code. effects tables code s) is ∙ operation_known keep one body is_body lies s
