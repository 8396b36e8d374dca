-- Arithmetic expressions: what is read is spelled, and what is spelled is read.
use Rattle.std.proofs.Common.{◌≡◌, ◌<◌, ℕ, zero, suc, ◌-◌, Bool, true, false, List, length, Option, inl, inr, refl, sym}
use Rattle.std.proofs.Common.{ap, ◌∙◌, subst, arith}
use Rattle.std.specs.Prelude.{◌||◌, if◌then◌else◌, Ok, Err}
use Rattle.tokens.specs.declared.token.Token.{Token}
use Rattle.source_tree.specs.declared.expression.Operator.{Operator}
use Rattle.source_tree.specs.declared.expression.Expression.{Expression}
use Rattle.grammar.specs.declared.fault.Halt.{Halt}
use Rattle.grammar.specs.declared.fault.Halt.TheVariants.{TooDeep}
use Rattle.grammar.specs.Parts.{Part, ◌or◌, lookahead, begins_telling}
use Rattle.grammar.specs.Reading as read
use Rattle.grammar.specs.Reading.{Outcome, Parser, one_token}
use Rattle.grammar.proofs.Outcomes.{Answers, Reached, Halts, Deeper, allow, one_deeper, step, unstep, value, last}
use Rattle.grammar.proofs.Looking.{tests_tested}
use Rattle.grammar.proofs.Turns.{deeper}
use Rattle.grammar.proofs.Lists as lists
use Rattle.grammar.proofs.Lists.{Sound, Complete, Shrinks, Starts}
use Rattle.grammar.proofs.Parts.{one_token_sound, one_token_complete, telling_shrinks, telling_starts}
use Rattle.expressions.specs.Marks.{left_in, right_in, begins_left, sign_in, begins_sign, sum_in, product_in}
use Rattle.expressions.specs.Operands.{number_operand_reader}
use Rattle.expressions.specs.Expressions as g
use Rattle.expressions.proofs.Exact.Marks.{begins_not, sign_left, either, neither}
use Rattle.expressions.proofs.Exact.Operands.{number_operand_sound, number_operand_complete, number_operand_shrinks}
use Rattle.expressions.proofs.Exact.Operands.{number_operand_no_left, number_operand_no_sign}

-- ---- levels

module _ (tells : Token → Option Operator) (lower : Expression → Part) where
  further_shrinks : Shrinks lower → Shrinks (g.further_operand tells lower)
  further_shrinks each x i rest (i1, by, one) =
      let a = telling_shrinks tells x.0 i i1 by in let b = each x.1 i1 rest one in omega arith

  further_starts : Starts (begins_telling tells) (g.further_operand tells lower)
  further_starts x i rest (i1, by, one) = telling_starts tells x.0 i i1 by

  level_shrinks : Shrinks lower → Shrinks (g.level tells lower)
  level_shrinks each x i rest (first, more, is, (i1, one, others)) =
      let a = each first i i1 one in
      let b = lists.any_shrinks (g.further_operand tells lower) (lookahead (begins_telling tells))
      (further_shrinks each) more i1 rest others in omega arith

  module _ (reader : Parser Expression) where
    further_sound : Sound lower reader → Sound (g.further_operand tells lower) (g.further_operand_reader tells reader)
    unfolding g.further_operand_reader
    further_sound each x i rest e =
        unstep (one_token tells i) _ e (λ by i1 is1 e1.
        unstep (reader i1) _ e1 (λ one i2 is2 e2.
        subst (λ y. g.further_operand tells lower y i rest) (value e2)
        (i1, one_token_sound tells by i i1 is1, each one i1 rest (last is2 e2))))

    level_sound : Sound lower reader → Sound (g.level tells lower) (g.level_reader tells reader)
    unfolding g.level_reader
    level_sound each x i rest e =
        unstep (reader i) _ e (λ first i1 is1 e1.
        unstep (read.any (g.further_operand_reader tells reader) (begins_telling tells) i1) _ e1 (λ more i2 is2 e2. (
          first,
          more,
          sym (value e2),
          (
            i1,
            each first i i1 is1,
            lists.any_sound (g.further_operand tells lower) (g.further_operand_reader tells reader)
                (lookahead (begins_telling tells)) (begins_telling tells) (tests_tested (begins_telling tells))
                (further_sound each) more i1 rest (last is2 e2),
          ),
        )))

    module _ (Allowed : Halt → Type 0) (each : Complete Allowed lower reader) (fewer : Shrinks lower) where
      further_complete : Complete Allowed (g.further_operand tells lower) (g.further_operand_reader tells reader)
      unfolding g.further_operand_reader
      further_complete x i rest (i1, by, one) =
          step (one_token tells i) _ (one_token_complete tells x.0 i i1 by)
          (step (reader i1) _ (each x.1 i1 rest one) (Reached refl))

      level_complete : Complete Allowed (g.level tells lower) (g.level_reader tells reader)
      unfolding g.level_reader
      level_complete x i rest (first, more, is, (i1, one, others)) =
          subst (λ y. Answers Allowed (g.level_reader tells reader i) y rest) (sym is)
          (step (reader i) _ (each first i i1 one)
          (step (read.any (g.further_operand_reader tells reader) (begins_telling tells) i1) _
          (lists.any_complete (g.further_operand tells lower) (g.further_operand_reader tells reader)
          (lookahead (begins_telling tells)) (begins_telling tells) (tests_tested (begins_telling tells)) Allowed
          further_complete (further_shrinks fewer) further_starts more i1 rest others)
          (Reached refl)))

-- ---- sums of products of factors

module _ (factor : Expression → Part) where
  sum_shrinks : Shrinks factor → Shrinks (g.sum factor)
  sum_shrinks fewer = level_shrinks sum_in (g.product factor) (level_shrinks product_in factor fewer)

  module _ (reader : Parser Expression) where
    product_sound : Sound factor reader → Sound (g.product factor) (g.product_reader reader)
    unfolding g.product_reader
    product_sound each = level_sound product_in factor reader each

    sum_sound : Sound factor reader → Sound (g.sum factor) (g.sum_reader reader)
    unfolding g.sum_reader
    sum_sound each = level_sound sum_in (g.product factor) (g.product_reader reader) (product_sound each)

    module _ (Allowed : Halt → Type 0) (each : Complete Allowed factor reader) (fewer : Shrinks factor) where
      product_complete : Complete Allowed (g.product factor) (g.product_reader reader)
      unfolding g.product_reader
      product_complete = level_complete product_in factor reader Allowed each fewer

      sum_complete : Complete Allowed (g.sum factor) (g.sum_reader reader)
      unfolding g.sum_reader
      sum_complete = level_complete sum_in (g.product factor) (g.product_reader reader) Allowed product_complete
          (level_shrinks product_in factor fewer)

-- ---- signs and parentheses

module _ (factor : Expression → Part) where
  signed_shrinks : Shrinks factor → Shrinks (g.signed_expression factor)
  signed_shrinks fewer x i rest (sign, inner, is, (i1, told, one)) =
      let a = telling_shrinks sign_in sign i i1 told in let b = fewer inner i1 rest one in omega arith

  enclosed_shrinks : Shrinks factor → Shrinks (g.parenthesized_expression factor)
  enclosed_shrinks fewer x i rest (i1, left, (i2, inner, right)) =
      let a = telling_shrinks left_in tt i i1 left in
      let b = sum_shrinks factor fewer x i1 i2 inner in
      let c = telling_shrinks right_in tt i2 rest right in omega arith

  signed_begins : (x : Expression) (i rest : List Token) → g.signed_expression factor x i rest → begins_sign i ≡ true
  signed_begins x i rest (sign, inner, is, (i1, told, one)) = telling_starts sign_in sign i i1 told

  signed_no_left : (x : Expression) (i rest : List Token) → g.signed_expression factor x i rest → begins_left i ≡ false
  signed_no_left x i rest (sign, inner, is, (i1, told, one)) = begins_not sign_in left_in sign_left sign i i1 told

  enclosed_begins : (x : Expression) (i rest : List Token) → g.parenthesized_expression factor x i rest
      → begins_left i ≡ true
  enclosed_begins x i rest (i1, left, inner) = telling_starts left_in tt i i1 left

  module _ (reader : Parser Expression) where
    signed_sound : Sound factor reader → Sound (g.signed_expression factor) (g.signed_reader reader)
    unfolding g.signed_reader
    signed_sound each x i rest e =
        unstep (one_token sign_in i) _ e (λ sign i1 is1 e1.
        unstep (reader i1) _ e1 (λ inner i2 is2 e2.
        (sign, inner, sym (value e2), (i1, one_token_sound sign_in sign i i1 is1, each inner i1 rest (last is2 e2)))))

    enclosed_sound : Sound factor reader → Sound (g.parenthesized_expression factor) (g.enclosed_reader reader)
    unfolding g.enclosed_reader
    enclosed_sound each x i rest e =
        unstep (one_token left_in i) _ e (λ u i1 is1 e1.
        unstep (g.sum_reader reader i1) _ e1 (λ inner i2 is2 e2.
        unstep (one_token right_in i2) _ e2 (λ v i3 is3 e3.
        subst (λ y. g.parenthesized_expression factor y i rest) (value e3) (
          i1,
          one_token_sound left_in u i i1 is1,
          (i2, sum_sound factor reader each inner i1 i2 is2, one_token_sound right_in v i2 rest (last is3 e3)),
        ))))

    nested_sound : Sound factor reader → (x : Expression) (i rest : List Token)
        → g.nested_reader reader i ≡ Ok (x, rest)
        → (g.signed_expression factor x or g.parenthesized_expression factor x) i rest
    unfolding g.nested_reader
    nested_sound each x i rest e = go (begins_left i) e
      where
        go : (b : Bool) → (if b then g.enclosed_reader reader i else g.signed_reader reader i) ≡ Ok (x, rest)
            → (g.signed_expression factor x or g.parenthesized_expression factor x) i rest
        go true e = inr (enclosed_sound each x i rest e)
        go false e = inl (signed_sound each x i rest e)

    module _ (Allowed : Halt → Type 0) (each : Complete Allowed factor reader) (fewer : Shrinks factor) where
      signed_complete : Complete Allowed (g.signed_expression factor) (g.signed_reader reader)
      unfolding g.signed_reader
      signed_complete x i rest (sign, inner, is, (i1, told, one)) =
          subst (λ y. Answers Allowed (g.signed_reader reader i) y rest) (sym is)
          (step (one_token sign_in i) _ (one_token_complete sign_in sign i i1 told)
          (step (reader i1) _ (each inner i1 rest one) (Reached refl)))

      enclosed_complete : Complete Allowed (g.parenthesized_expression factor) (g.enclosed_reader reader)
      unfolding g.enclosed_reader
      enclosed_complete x i rest (i1, left, (i2, inner, right)) =
          step (one_token left_in i) _ (one_token_complete left_in tt i i1 left)
          (step (g.sum_reader reader i1) _ (sum_complete factor reader Allowed each fewer x i1 i2 inner)
          (step (one_token right_in i2) _ (one_token_complete right_in tt i2 rest right) (Reached refl)))

      nested_complete : (x : Expression) (i rest : List Token)
          → (g.signed_expression factor x or g.parenthesized_expression factor x) i rest
          → Answers Allowed (g.nested_reader reader i) x rest
      unfolding g.nested_reader
      nested_complete x i rest (inl s) = rw (signed_no_left x i rest s) (signed_complete x i rest s)
      nested_complete x i rest (inr s) = rw (enclosed_begins x i rest s) (enclosed_complete x i rest s)

  nested_begins : (x : Expression) (i rest : List Token)
      → (g.signed_expression factor x or g.parenthesized_expression factor x) i rest → g.begins_nested i ≡ true
  nested_begins x i rest (inl s) = either (begins_left i) (begins_sign i) (signed_begins x i rest s)
  nested_begins x i rest (inr s) = ap (λ b. b || begins_sign i) (enclosed_begins x i rest s)

-- ---- operands as factors

plain_sound : Sound g.primary g.plain_reader
unfolding g.plain_reader
plain_sound x i rest e =
    unstep (number_operand_reader i) _ e
    (λ one i1 is1 e1. (one, sym (value e1), number_operand_sound one i rest (last is1 e1)))

plain_complete : {Allowed : Halt → Type 0} → Complete Allowed g.primary g.plain_reader
unfolding g.plain_reader
plain_complete {Allowed = Allowed} x i rest (one, is, s) =
    subst (λ y. Answers Allowed (g.plain_reader i) y rest) (sym is)
    (step (number_operand_reader i) _ (number_operand_complete one i rest s) (Reached refl))

plain_shrinks : Shrinks g.primary
plain_shrinks x i rest (one, is, s) = number_operand_shrinks one i rest s

plain_begins : (x : Expression) (i rest : List Token) → g.primary x i rest → g.begins_nested i ≡ false
plain_begins x i rest (one, is, s) =
    neither (begins_left i) (begins_sign i) (number_operand_no_left one i rest s) (number_operand_no_sign one i rest s)

-- ---- factors

factor_shrinks : (depth : ℕ) → Shrinks (g.factor depth)
factor_shrinks zero x i rest s = plain_shrinks x i rest s
factor_shrinks (suc depth) x i rest (inl s) = plain_shrinks x i rest s
factor_shrinks (suc depth) x i rest (inr (inl s)) = signed_shrinks (g.factor depth) (factor_shrinks depth) x i rest s
factor_shrinks (suc depth) x i rest (inr (inr s)) = enclosed_shrinks (g.factor depth) (factor_shrinks depth) x i rest s

factor_sound : (depth : ℕ) → Sound (g.factor depth) (g.factor_reader depth)
unfolding g.factor_reader
factor_sound zero x i rest e = go (g.begins_nested i) e
  where
    go : (b : Bool) → (if b then Err (TooDeep (length i)) else g.plain_reader i) ≡ Ok (x, rest) → g.primary x i rest
    go true e = cc
    go false e = plain_sound x i rest e
factor_sound (suc depth) x i rest e = go (λ inner.
    nested_sound (g.factor depth) (g.factor_reader depth) (factor_sound depth) x i rest inner) (g.begins_nested i) e
  where
    go : (g.nested_reader (g.factor_reader depth) i ≡ Ok (x, rest)
        → (g.signed_expression (g.factor depth) x or g.parenthesized_expression (g.factor depth) x) i rest)
        → (b : Bool) → (if b then g.nested_reader (g.factor_reader depth) i else g.plain_reader i) ≡ Ok (x, rest)
        → g.factor (suc depth) x i rest
    go nested true e = inr (nested e)
    go nested false e = inl (plain_sound x i rest e)

-- Reading to a depth answers what is spelled to a greater one, or that it nests too deep.
factor_complete : (depth depth' : ℕ) → Complete (Deeper depth depth') (g.factor depth') (g.factor_reader depth)
unfolding g.factor_reader
factor_complete zero zero x i rest s = rw (plain_begins x i rest s) (plain_complete x i rest s)
factor_complete (suc depth) zero x i rest s = rw (plain_begins x i rest s) (plain_complete x i rest s)
factor_complete zero (suc n) x i rest (inl s) = rw (plain_begins x i rest s) (plain_complete x i rest s)
factor_complete (suc depth) (suc n) x i rest (inl s) = rw (plain_begins x i rest s) (plain_complete x i rest s)
factor_complete zero (suc n) x i rest (inr s) =
    rw (nested_begins (g.factor n) x i rest s) (Halts (TooDeep (length i)) (omega arith) refl)
factor_complete (suc depth) (suc n) x i rest (inr s) =
    rw (nested_begins (g.factor n) x i rest s)
    (nested_complete (g.factor n) (g.factor_reader depth) (Deeper (suc depth) (suc n))
    (λ y j k t. allow (one_deeper depth n) (factor_complete depth n y j k t)) (factor_shrinks n) x i rest s)

-- ---- expressions

pub expression_sound : (depth : ℕ) → Sound (g.expression depth) (g.expression_reader depth)
unfolding g.expression_reader
expression_sound depth = sum_sound (g.factor depth) (g.factor_reader depth) (factor_sound depth)

pub expression_complete : (depth depth' : ℕ)
    → Complete (Deeper depth depth') (g.expression depth') (g.expression_reader depth)
unfolding g.expression_reader
expression_complete depth depth' =
    sum_complete (g.factor depth') (g.factor_reader depth) (Deeper depth depth') (factor_complete depth depth')
    (factor_shrinks depth')

pub expression_shrinks : (depth : ℕ) → Shrinks (g.expression depth)
expression_shrinks depth = sum_shrinks (g.factor depth) (factor_shrinks depth)

-- ---- reading a factor, by its first token and the depth

pub reads_plain : (depth : ℕ) (i : List Token) → g.begins_nested i ≡ false → g.factor_reader depth i ≡ g.plain_reader i
unfolding g.factor_reader
reads_plain zero i e = ap (λ b. if b then Err (TooDeep (length i)) else g.plain_reader i) e
reads_plain (suc depth) i e = ap (λ b. if b then g.nested_reader (g.factor_reader depth) i else g.plain_reader i) e

pub reads_too_deep : (depth : ℕ) (i : List Token) → depth ≡ 0 → g.begins_nested i ≡ true
    → g.factor_reader depth i ≡ Err (TooDeep (length i))
unfolding g.factor_reader
reads_too_deep zero i none e = ap (λ b. if b then Err (TooDeep (length i)) else g.plain_reader i) e
reads_too_deep (suc depth) i none e = absurd (omega arith)

pub reads_nested : (depth : ℕ) (i : List Token) → 0 < depth → g.begins_nested i ≡ true
    → g.factor_reader depth i ≡ g.nested_reader (g.factor_reader (depth - 1)) i
unfolding g.factor_reader
reads_nested depth i some e =
    deeper (λ n. g.factor_reader n i) depth some
    ∙ ap (λ b. if b then g.nested_reader (g.factor_reader (depth - 1)) i else g.plain_reader i) e
