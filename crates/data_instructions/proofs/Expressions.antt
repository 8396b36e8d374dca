-- The code of expressions, by its parts: what it does, and what is known after it.
use Rattle.std.proofs.Common.{◌≡◌, ℕ, ◌+◌, ◌-◌, ◌≤◌, List, [], ◌∷◌, ◌++◌, refl, sym, ◌∙◌, ap, arith, Some, None}
use Rattle.std.specs.Prelude.{if◌then◌else◌, Ok}
use Rattle.decimal18.specs.Fraction.{Fraction}
use Rattle.source_tree.specs.declared.expression.Operand.{Operand}
use Rattle.source_tree.specs.declared.expression.Operand.TheVariants as operand
use Rattle.source_tree.specs.declared.expression.Operator.{Operator}
use Rattle.source_tree.specs.declared.expression.Operator.TheVariants as operator
use Rattle.source_tree.specs.Places.{LocatedItem}
use Rattle.source_tree.specs.References.{place_of}
use Rattle.source_tree.specs.Evaluated.{◌>>=◌, evaluation_of}
use Rattle.source_tree.specs.Computed.{ArithmeticValue, ExpressionValue, operate, negate, number_at, operand_value}
use Rattle.data_instructions.specs.declared.tables.DataTables.{DataTables}
use Rattle.data_instructions.specs.declared.shape.Shape.{Shape}
use Rattle.data_instructions.specs.declared.calculation.Calculation.{Calculation}
use Rattle.data_instructions.specs.declared.calculation.Calculation.TheVariants as calculation
use Rattle.data_instructions.specs.declared.instruction.DataInstruction.{DataInstruction}
use Rattle.data_instructions.specs.declared.instruction.DataInstruction.TheVariants as i
use Rattle.data_instructions.specs.Tables.{IsTables}
use Rattle.data_instructions.specs.Scratch.{Scratch, step_with, step_at}
use Rattle.data_instructions.specs.Table.{push_step, read_step}
use Rattle.data_instructions.specs.Shapes.{and_then, and_more, and_one, taken_by, put_by, shape_with}
use Rattle.data_instructions.specs.Codes.{go_on, works}
use Rattle.data_instructions.specs.Chains.{effects}
use Rattle.data_instructions.specs.ArithmeticCodes.{operator_code, negated_value, value_and_then, operation_and_then}
use Rattle.data_instructions.specs.ArithmeticCodes.{Computes, ComputesOn, PushesNumber, StaysOver, IsNumberCode}
use Rattle.data_instructions.specs.ArithmeticCodes.{IsValueCode, LiesOperand}
use Rattle.data_instructions.proofs.Subscripts.{go_with, with_same, with_bind, works_append}
use Rattle.data_instructions.proofs.Codes.{taking_works}
use Rattle.data_instructions.proofs.Chains.{effects_append, within, taking_known}

-- with so many numbers
abbrev pub counting : ℕ → Shape → Shape
counting n s = record s { stacks = record s.stacks { numbers = n } }

module _ (tables : DataTables) where
  -- the newest number is the right operand
  pub operator_works : (one : Operator) (x y : ArithmeticValue) (more : List DataInstruction) (s : Scratch)
      → works tables (operator_code one ∷ more) (record s { numbers = y ∷ x ∷ s.numbers })
      ≡ works tables more (record s { numbers = operate one x y ∷ s.numbers })
  operator_works operator.Add x y more s = refl
  operator_works operator.Subtract x y more s = refl
  operator_works operator.Multiply x y more s = refl
  operator_works operator.Divide x y more s = refl

  pub negated_works : (value : ExpressionValue) (code : List DataInstruction) → Computes tables value code
      → Computes tables (negated_value value) (code ++ (i.Calculate calculation.Negate ∷ []))
  negated_works value code computes s =
      works_append tables code (i.Calculate calculation.Negate ∷ []) s
      ∙ ap (λ step. go_on step (works tables (i.Calculate calculation.Negate ∷ []))) (computes s)
      ∙ go_with (value s.storage) (λ x. push_step x s) (works tables (i.Calculate calculation.Negate ∷ []))
      ∙ sym (with_bind (value s.storage) (λ x. Ok (negate x)) (λ y. push_step y s))

  pub first_works : (value : ExpressionValue) (next : ArithmeticValue → ExpressionValue)
      (front back : List DataInstruction) → Computes tables value front → ComputesOn tables next back
      → Computes tables (value_and_then value next) (front ++ back)
  first_works value next front back computes goes_on s =
      works_append tables front back s
      ∙ ap (λ step. go_on step (works tables back)) (computes s)
      ∙ go_with (value s.storage) (λ x. push_step x s) (works tables back)
      ∙ with_same (value s.storage) _ _ (λ x. goes_on x s)
      ∙ sym (with_bind (value s.storage) (λ x. next x s.storage) (λ y. push_step y s))

  pub further_works : (one : Operator) (value : ExpressionValue) (next : ArithmeticValue → ExpressionValue)
      (front back : List DataInstruction) → Computes tables value front → ComputesOn tables next back
      → ComputesOn tables (operation_and_then one value next) (front ++ (operator_code one ∷ back))
  further_works one value next front back computes goes_on x s =
      let t : Scratch = record s { numbers = x ∷ s.numbers } in
      works_append tables front (operator_code one ∷ back) t
      ∙ ap (λ step. go_on step (works tables (operator_code one ∷ back))) (computes t)
      ∙ go_with (value s.storage) (λ y. push_step y t) (works tables (operator_code one ∷ back))
      ∙ with_same (value s.storage) _ _ (λ y. operator_works one x y back s ∙ goes_on (operate one x y) s)
      ∙ sym (with_bind (value s.storage) (λ y. next (operate one x y) s.storage) (λ z. push_step z s))

  -- a calculation, where there are as many numbers as it takes
  pub calculated_known : (one : Calculation) (more : List DataInstruction) (n m : ℕ) (s : Shape) → taken_by one ≤ n
      → n - taken_by one + put_by one ≡ m
      → effects tables (i.Calculate one ∷ more) (counting n s) ≡ effects tables more (counting m s)
  calculated_known one more n m s enough left =
      ap
      (λ b. and_then (shape_with (and_then (if b then Some (record s.stacks { numbers = n - taken_by one }) else None)
      (and_more (put_by one))) (Some s.line) (Some s.sender)) (effects tables more)) (within (taken_by one) n enough)
      ∙ ap (λ k. effects tables more (counting k s)) left

  -- two numbers become one
  pub operator_known : (one : Operator) (more : List DataInstruction) (s : Shape) → 1 ≤ s.stacks.numbers
      → effects tables (operator_code one ∷ more) (counting (s.stacks.numbers + 1) s) ≡ effects tables more s
  operator_known operator.Add more s some = calculated_known calculation.Add more (s.stacks.numbers + 1)
      s.stacks.numbers s (omega (arith, some)) (omega (arith, some))
  operator_known operator.Subtract more s some = calculated_known calculation.Subtract more (s.stacks.numbers + 1)
      s.stacks.numbers s (omega (arith, some)) (omega (arith, some))
  operator_known operator.Multiply more s some = calculated_known calculation.Multiply more (s.stacks.numbers + 1)
      s.stacks.numbers s (omega (arith, some)) (omega (arith, some))
  operator_known operator.Divide more s some = calculated_known calculation.Divide more (s.stacks.numbers + 1)
      s.stacks.numbers s (omega (arith, some)) (omega (arith, some))

  pub negated_known : (code : List DataInstruction) → PushesNumber tables code
      → PushesNumber tables (code ++ (i.Calculate calculation.Negate ∷ []))
  negated_known code adds s =
      effects_append tables code (i.Calculate calculation.Negate ∷ []) s
      ∙ ap (λ o. and_then o (effects tables (i.Calculate calculation.Negate ∷ []))) (adds s)
      ∙ calculated_known calculation.Negate [] (s.stacks.numbers + 1) (s.stacks.numbers + 1) s (omega arith)
      (omega arith)

  pub first_known : (front back : List DataInstruction) → PushesNumber tables front → StaysOver tables back
      → PushesNumber tables (front ++ back)
  first_known front back adds stays s =
      effects_append tables front back s
      ∙ ap (λ o. and_then o (effects tables back)) (adds s)
      ∙ stays (counting (s.stacks.numbers + 1) s) (omega arith)

  pub further_known : (one : Operator) (front back : List DataInstruction) → PushesNumber tables front
      → StaysOver tables back → StaysOver tables (front ++ (operator_code one ∷ back))
  further_known one front back adds stays s some =
      effects_append tables front (operator_code one ∷ back) s
      ∙ ap (λ o. and_then o (effects tables (operator_code one ∷ back))) (adds s)
      ∙ operator_known one back s some
      ∙ stays s some

module _ (items : List LocatedItem) (tables : DataTables) where
  pub number_works : (x : Fraction) (code : List DataInstruction) → IsNumberCode items tables x code → (s : Scratch)
      → works tables code s ≡ push_step (Some x) s
  number_works x code (index, here, is) s =
      ap (λ code. works tables code s) is
      ∙ ap (λ o. go_on (step_at o (λ y. push_step (Some y) s)) (works tables [])) here

  pub number_known : (x : Fraction) (code : List DataInstruction) → IsNumberCode items tables x code
      → PushesNumber tables code
  number_known x code (index, here, is) s =
      ap (λ code. effects tables code s) is ∙ ap (λ o.
      and_then (shape_with (and_then o (λ y. and_one s.stacks)) (Some s.line) (Some s.sender)) (effects tables [])) here

  pub value_works : IsTables tables → (one : Operand) (code : List DataInstruction) → IsValueCode items tables one code
      → Computes tables (operand_value items one) code
  value_works order (operand.Item reference) code is s =
      taking_works items tables order i.Push read_step (λ t. refl) reference code is s
      ∙ sym (with_bind (place_of items reference s.storage) (number_at s.storage) (λ x. push_step (Some x) s))
      ∙ sym
      (with_bind (place_of items reference s.storage >>= number_at s.storage) (λ x. Ok (Some x)) (λ y. push_step y s))
  value_works order (operand.Literal one) code is s =
      number_works is.0 code is.2 s
      ∙ sym (ap (λ o. step_with (evaluation_of o >>= (λ x. Ok (Some x))) (λ y. push_step y s)) is.1)

  pub value_known : (one : Operand) (code : List DataInstruction) → IsValueCode items tables one code
      → LiesOperand items tables one → PushesNumber tables code
  value_known (operand.Item reference) code is lies s = taking_known items tables i.Push reference code is lies s
  value_known (operand.Literal one) code is lies s = number_known is.0 code is.2 s
