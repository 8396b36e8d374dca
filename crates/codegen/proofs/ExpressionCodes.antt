-- The code of operands and expressions is what the laws of instructions on data speak of, where the rules are kept.
use Rattle.std.proofs.Common.{◌≡◌, ℕ, true, List, [], ◌∷◌, ◌++◌, length, map, Some, refl, sym, ap, subst, ◌∙◌}
use Rattle.std.proofs.Common.{append_assoc}
use Rattle.std.specs.Prelude.{slice_get, not}
use Rattle.decimal18.specs.Fraction.{Fraction}
use Rattle.lexical.specs.declared.place.Place.{Place}
use Rattle.source_tree.specs.declared.literal.Figurative.TheVariants as figurative
use Rattle.source_tree.specs.declared.literal.LiteralValue.{LiteralValue}
use Rattle.source_tree.specs.declared.literal.LiteralValue.TheVariants as literal
use Rattle.source_tree.specs.declared.reference.Reference.{Reference}
use Rattle.source_tree.specs.declared.expression.Operand.{Operand}
use Rattle.source_tree.specs.declared.expression.Operand.TheVariants as operand
use Rattle.source_tree.specs.declared.expression.Operator.{Operator}
use Rattle.source_tree.specs.declared.expression.Expression.{Expression, roll-Expression}
use Rattle.source_tree.specs.declared.expression.Expression.TheOpen.{Expression-F}
use Rattle.source_tree.specs.declared.expression.Expression.TheFolds.{map-Expression, ind-Expression}
use Rattle.source_tree.specs.ArithmeticRules.{numeric_item, is_number_literal, number_rules, operand_pair_rules}
use Rattle.source_tree.specs.ArithmeticRules.{expression_layer_rules, expression_rules}
use Rattle.source_tree.specs.Broken.{RuleBreach, where_so, each}
use Rattle.source_tree.specs.Computed.{ArithmeticValue, ExpressionValue, number_of_literal, value_of_rest}
use Rattle.source_tree.specs.Computed.{expression_layer, expression_value}
use Rattle.source_tree.specs.NameRules.{reference_rules, literal_rules}
use Rattle.source_tree.specs.Places.{LocatedItem}
use Rattle.data_instructions.specs.declared.calculation.Calculation.TheVariants as c
use Rattle.data_instructions.specs.declared.instruction.DataInstruction.{DataInstruction}
use Rattle.data_instructions.specs.declared.instruction.DataInstruction.TheVariants as i
use Rattle.data_instructions.specs.Tables.{IsTables}
use Rattle.data_instructions.specs.Codes.{data_item, IsTakingCode}
use Rattle.data_instructions.specs.Chains.{LiesWhole}
use Rattle.data_instructions.specs.ArithmeticCodes.{operator_code, Computes, ComputesOn, PushesNumber, StaysOver}
use Rattle.data_instructions.specs.ArithmeticCodes.{IsNumberCode, IsValueCode}
use Rattle.data_instructions.proofs.Expressions.{negated_works, first_works, further_works, negated_known, first_known}
use Rattle.data_instructions.proofs.Expressions.{further_known, value_works, value_known}
use Rattle.code_image.specs.declared.code.Code.{Code}
use Rattle.condition_codegen.specs.Fragments.{Fragment, in_order}
use Rattle.condition_codegen.specs.DataCode.{number_fragment, take_fragment}
use Rattle.condition_codegen.specs.ArithmeticCode.{or_zero, value_fragment, chain_fragment, expression_layer_fragment}
use Rattle.condition_codegen.specs.ArithmeticCode.{expression_fragment}
use Rattle.condition_codegen.proofs.Lists.{left_none, right_none}
use Rattle.codegen.proofs.Codes.{taking_coded}
use Rattle.codegen.proofs.CodedPieces.{CodedBy, weaker_by, both_by, behind_by}
use Rattle.codegen.proofs.ExpressionLayers.{mapped_piece, mapped_rules, mapped_value}
use Rattle.condition_codegen.proofs.Integers.{kept, not_false}
use Rattle.codegen.proofs.Lying.{lies_operand}
use Rattle.codegen.proofs.Standing.{number_stands}

-- a literal that is a number
number_there : (value : LiteralValue) → is_number_literal value ≡ true
    → number_of_literal value ≡ Some (or_zero (number_of_literal value))
number_there (literal.Numeric one) e = refl
number_there (literal.Nonnumeric bytes) e = absurd cc
number_there (literal.Figurative figurative.Zero) e = refl
number_there (literal.Figurative figurative.Space) e = absurd cc
number_there (literal.Figurative figurative.HighValue) e = absurd cc
number_there (literal.Figurative figurative.LowValue) e = absurd cc
number_there (literal.Figurative figurative.Quote) e = absurd cc
number_there (literal.All bytes) e = absurd cc

module _ (items : List LocatedItem) (whole : Code) (entries : (n : ℕ) (one : LocatedItem) → slice_get items n ≡ Some one
    → slice_get whole.tables.items n ≡ Some (data_item one)) where
  pub number_codes : (x : Fraction) → CodedBy whole (IsNumberCode items whole.tables x) (number_fragment x)
  number_codes x = record {
    by = λ before st. record {
      code = i.Literal (record { number = length before.tables.numbers }) ∷ [];
      is = refl;
      holds = (_, number_stands whole before (number_fragment x before) _ [] refl st, refl);
    };
  }

  pub taking_codes : (taking : DataInstruction) (asked : Place → LocatedItem → List RuleBreach) (one : Reference)
      → reference_rules items asked one ≡ []
      → CodedBy whole (IsTakingCode items whole.tables taking one) (take_fragment items taking one)
  taking_codes taking asked one e =
      record { by = λ before st. taking_coded items whole entries taking asked one before e st }

  pub value_codes : (one : Operand) → number_rules items one ≡ []
      → CodedBy whole (IsValueCode items whole.tables one) (value_fragment items one)
  value_codes (operand.Item one) e = taking_codes i.Push numeric_item one e
  value_codes (operand.Literal one) e =
      let x = or_zero (number_of_literal one.value) in
      let test = where_so (not (is_number_literal one.value)) 51 one.place in
      let there = number_there one.value (not_false (is_number_literal one.value)
      (kept (not (is_number_literal one.value)) 51 one.place (left_none test (literal_rules one) e))) in
      weaker_by whole (IsNumberCode items whole.tables x) (IsValueCode items whole.tables (operand.Literal one))
      (number_fragment x) (λ code is. (x, there, is)) (number_codes x)

  -- ---- expressions

  module _ (order : IsTables whole.tables) (lie : (n : ℕ) (one : LocatedItem) → slice_get items n ≡ Some one
      → LiesWhole whole.tables one) where
    -- what is known of the code of an expression
    abbrev IsValued : ExpressionValue → List DataInstruction → Type 0
    IsValued value code = Computes whole.tables value code × PushesNumber whole.tables code

    -- the same of operands after their operators
    abbrev GoesOn : (ArithmeticValue → ExpressionValue) → List DataInstruction → Type 0
    GoesOn next code = ComputesOn whole.tables next code × StaysOver whole.tables code

    record IsCoded (one : Expression) : Type 0 where
      by : expression_rules items one ≡ []
          → CodedBy whole (IsValued (expression_value items one)) (expression_fragment items one)

    abbrev Known : Type 0
    Known = (one : Expression) × IsCoded one

    abbrev rules_of : Known → List RuleBreach
    rules_of m = expression_rules items m.0

    abbrev piece_of : Known → Fragment
    piece_of m = expression_fragment items m.0

    abbrev value_of : Known → ExpressionValue
    value_of m = expression_value items m.0

    abbrev pair_of : {A : Type 0} → (Known → A) → Operator × Known → Operator × A
    pair_of f one = (one.0, f one.1)

    operand_valued : (one : Operand) → number_rules items one ≡ []
        → CodedBy whole (IsValued (expression_layer items (Expression-F.Operand one))) (value_fragment items one)
    operand_valued one e =
        weaker_by whole (IsValueCode items whole.tables one)
        (IsValued (expression_layer items (Expression-F.Operand one))) (value_fragment items one)
        (λ code is. (
          value_works items whole.tables order one code is,
          value_known items whole.tables one code is (lies_operand items whole entries lie one e),
        )) (value_codes one e)

    negated_valued : (m : Known) → rules_of m ≡ []
        → CodedBy whole (IsValued (expression_layer items (Expression-F.Negated (value_of m))))
        (expression_layer_fragment items (Expression-F.Negated (piece_of m)))
    negated_valued m e =
        behind_by whole (IsValued (value_of m)) (IsValued (expression_layer items (Expression-F.Negated (value_of m))))
        (piece_of m) (i.Calculate c.Negate ∷ []) (m.1.by e)
        (λ code is. (negated_works whole.tables (value_of m) code is.0, negated_known whole.tables code is.1))

    -- what stands on the right of an operator, and the operator
    abbrev IsOperation : Operator × Known → List DataInstruction → Type 0
    IsOperation one code =
        (front : List DataInstruction) × IsValued (value_of one.1) front × (code ≡ front ++ (operator_code one.0 ∷ []))

    more_codes : (more : List (Operator × Known)) → each operand_pair_rules (map (pair_of rules_of) more) ≡ []
        → CodedBy whole (GoesOn (value_of_rest (map (pair_of value_of) more)))
        (in_order (chain_fragment items) (map (pair_of piece_of) more))
    more_codes [] e =
        record { by = λ before st. record { code = []; is = refl; holds = (λ x s. refl, λ s some. refl) } }
    more_codes (one ∷ more) e =
        let rest = map (pair_of rules_of) more in
        let next = value_of_rest (map (pair_of value_of) more) in
        both_by whole (IsOperation one) (GoesOn next) (GoesOn (value_of_rest (map (pair_of value_of) (one ∷ more))))
        (chain_fragment items (pair_of piece_of one)) (in_order (chain_fragment items) (map (pair_of piece_of) more))
        (behind_by whole (IsValued (value_of one.1)) (IsOperation one) (piece_of one.1) (operator_code one.0 ∷ [])
        (one.1.1.by (left_none (rules_of one.1) (each operand_pair_rules rest) e)) (λ code is. (code, is, refl)))
        (more_codes more (right_none (rules_of one.1) (each operand_pair_rules rest) e))
        (λ front back is goes.
        let same : is.0 ++ (operator_code one.0 ∷ back) ≡ front ++ back =
        sym (ap (λ l. l ++ back) is.2 ∙ append_assoc is.0 (operator_code one.0 ∷ []) back) in
        subst (GoesOn (value_of_rest (map (pair_of value_of) (one ∷ more)))) same (
          further_works whole.tables one.0 (value_of one.1) next is.0 back is.1.0 goes.0,
          further_known whole.tables one.0 is.0 back is.1.1 goes.1,
        ))

    chain_valued : (first : Known) (more : List (Operator × Known))
        → expression_layer_rules items (Expression-F.Chain (rules_of first) (map (pair_of rules_of) more)) ≡ []
        → CodedBy whole
        (IsValued (expression_layer items (Expression-F.Chain (value_of first) (map (pair_of value_of) more))))
        (expression_layer_fragment items (Expression-F.Chain (piece_of first) (map (pair_of piece_of) more)))
    chain_valued first more e =
        let others = each operand_pair_rules (map (pair_of rules_of) more) in
        let next = value_of_rest (map (pair_of value_of) more) in
        both_by whole (IsValued (value_of first)) (GoesOn next) (IsValued
        (expression_layer items (Expression-F.Chain (value_of first) (map (pair_of value_of) more)))) (piece_of first)
        (in_order (chain_fragment items) (map (pair_of piece_of) more))
        (first.1.by (left_none (rules_of first) others e)) (more_codes more (right_none (rules_of first) others e))
        (λ front back is goes. (
          first_works whole.tables (value_of first) next front back is.0 goes.0,
          first_known whole.tables front back is.1 goes.1,
        ))

    layer_valued : (l : Expression-F Known)
        → expression_layer_rules items (map-Expression Known (List RuleBreach) rules_of l) ≡ []
        → CodedBy whole (IsValued (expression_layer items (map-Expression Known ExpressionValue value_of l)))
        (expression_layer_fragment items (map-Expression Known Fragment piece_of l))
    layer_valued (Expression-F.Operand one) e = operand_valued one e
    layer_valued (Expression-F.Negated inner) e = negated_valued inner e
    layer_valued (Expression-F.Chain first more) e = chain_valued first more e

    coded_inside : (l : Expression-F Known) → IsCoded (roll-Expression (map-Expression Known Expression (λ m. m.0) l))
    coded_inside l = record {
      by = λ e.
          let one = roll-Expression (map-Expression Known Expression (λ (m : Known). m.0) l) in
          let piece = expression_layer_fragment items (map-Expression Known Fragment piece_of l) in
          let layer = layer_valued l (sym (mapped_rules items (λ (m : Known). m.0) l) ∙ e) in
          let valued = subst (λ (value : ExpressionValue). CodedBy whole (IsValued value) piece)
          (sym (mapped_value items (λ (m : Known). m.0) l)) layer in
          subst (λ (p : Fragment). CodedBy whole (IsValued (expression_value items one)) p)
          (sym (mapped_piece items (λ (m : Known). m.0) l)) valued;
    }

    expression_coded : (one : Expression) → IsCoded one
    expression_coded = ind-Expression IsCoded (λ one l is. subst (λ k. IsCoded (roll-Expression k)) is (coded_inside l))

    -- The code of an expression computes its value, and one number more is known after it.
    pub expression_codes : (one : Expression) → expression_rules items one ≡ []
        → CodedBy whole (λ code. Computes whole.tables (expression_value items one) code
        × PushesNumber whole.tables code) (expression_fragment items one)
    expression_codes one e = (expression_coded one).by e
