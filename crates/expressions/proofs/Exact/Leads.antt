-- What stands first in an expression, and what follows it.
use Rattle.std.proofs.Common.{◌≡◌, ℕ, zero, suc, Bool, true, false, List, [], ◌∷◌, Option, Some, None, inl, inr, refl}
use Rattle.std.proofs.Common.{ap, ◌∙◌}
use Rattle.std.specs.Prelude.{◌⊎◌, ◌||◌}
use Rattle.tokens.specs.declared.token.Kind.{Kind}
use Rattle.tokens.specs.declared.token.Kind.TheVariants as k
use Rattle.tokens.specs.declared.token.Token.{Token}
use Rattle.lexical.specs.declared.place.Place.{Place}
use Rattle.source_tree.specs.declared.expression.Operand.TheVariants as operand_as
use Rattle.source_tree.specs.declared.expression.Operator.{Operator}
use Rattle.source_tree.specs.declared.expression.Expression.{Expression}
use Rattle.grammar.specs.Parts as parts
use Rattle.grammar.specs.Parts.{Part, ◌then◌, some_of, lookahead, token_with, begins_telling, named_by, name_in}
use Rattle.grammar.specs.Parts.{begins_name}
use Rattle.grammar.proofs.Lists.{Starts}
use Rattle.grammar.proofs.Looking.{Finds, true_not_false, finds_also}
use Rattle.grammar.proofs.Parts.{telling_starts}
use Rattle.grammar.proofs.Past.{finds_past_reader}
use Rattle.tokens.specs.declared.reserved.Reserved.{Reserved}
use Rattle.source_tree.specs.declared.reference.Reference.{Reference}
use Rattle.expressions.specs.declared.marks.PlusOrMinus.{PlusOrMinus}
use Rattle.expressions.specs.Marks.{left_of, left_in, begins_left, sign_by, sign_in, begins_sign, sum_in, product_in}
use Rattle.expressions.specs.References.{reference, reference_reader}
use Rattle.expressions.specs.Literals.{number_literal_in}
use Rattle.expressions.specs.Expressions as e
use Rattle.expressions.specs.Looking as g
use Rattle.expressions.specs.Looking.{begins_operator, begins_expression, past_reference, past_parentheses}
use Rattle.expressions.proofs.Exact.Marks.{Apart, begins_not, sign_left, either}
use Rattle.expressions.proofs.Exact.References.{reference_sound, reference_complete, reference_starts}
use Rattle.expressions.proofs.Exact.Operands.{number_name, number_operand_no_left}
use Rattle.expressions.proofs.Exact.Balance.{parentheses_passed, expression_even}
use Rattle.expressions.proofs.Exact.Laws.{Never, only}

-- ---- references are passed

pub reference_found : Finds (some_of reference) past_reference
reference_found = finds_past_reader reference reference_reader reference_sound
    (only reference reference_reader (reference_complete {Allowed = Never}))

pub reference_before_found : (one : Reserved) → Finds (g.reference_before one) (g.after_reference_before one)
reference_before_found one = finds_also (some_of reference) past_reference one reference_found

pub reference_passed : (one : Reference) (i rest : List Token) → reference one i rest → past_reference i ≡ Some rest
reference_passed one i rest s = reference_found.stands i rest (one, s)

-- ---- first tokens

sign_no_name : (kind : Kind) (place : Place) (sign : PlusOrMinus) → sign_by kind ≡ Some sign
    → named_by kind place ≡ None
sign_no_name (k.Reserved _) place sign e = refl
sign_no_name (k.Word characters) place sign e = cc
sign_no_name (k.Numeric number) place sign e = refl
sign_no_name (k.Nonnumeric bytes) place sign e = refl
sign_no_name (k.Picture characters) place sign e = refl
sign_no_name k.Period place sign e = refl
sign_no_name k.LeftParenthesis place sign e = refl
sign_no_name k.RightParenthesis place sign e = refl
sign_no_name k.Colon place sign e = refl
sign_no_name (k.Operator operator) place sign e = refl

sign_name : Apart sign_in name_in
sign_name first a e = sign_no_name first.kind first.place a e

left_no_name : (kind : Kind) (place : Place) (u : Unit {0}) → left_of kind ≡ Some u → named_by kind place ≡ None
left_no_name (k.Reserved _) place u e = refl
left_no_name (k.Word characters) place u e = cc
left_no_name (k.Numeric number) place u e = refl
left_no_name (k.Nonnumeric bytes) place u e = refl
left_no_name (k.Picture characters) place u e = refl
left_no_name k.Period place u e = refl
left_no_name k.LeftParenthesis place u e = refl
left_no_name k.RightParenthesis place u e = refl
left_no_name k.Colon place u e = refl
left_no_name (k.Operator operator) place u e = refl

pub left_name : Apart left_in name_in
left_name first a e = left_no_name first.kind first.place a e

-- ---- what follows

-- where `passed` ends, the expression ends, or an operator follows
abbrev pub GoesOn : Option (List Token) → List Token → Type 0
GoesOn passed rest =
    (middle : List Token) × (passed ≡ Some middle) × ((middle ≡ rest) ⊎ (begins_operator middle ≡ true))

-- a reference or a parenthesis that stands first goes on so
abbrev pub Leads : (Expression → Part) → Type 0
Leads p = (x : Expression) (i rest : List Token) → p x i rest
    → (begins_name i ≡ true → GoesOn (past_reference i) rest)
    × (begins_left i ≡ true → GoesOn (past_parentheses i) rest)

further : (passed : Option (List Token)) (middle rest : List Token) → GoesOn passed middle
    → (middle ≡ rest) ⊎ (begins_operator middle ≡ true) → GoesOn passed rest
further passed middle rest (m, is, inl e) (inl f) = (m, is, inl (e ∙ f))
further passed middle rest (m, is, inl e) (inr operator) = (m, is, inr (ap begins_operator e ∙ operator))
further passed middle rest (m, is, inr operator) f = (m, is, inr operator)

never : {A : Type 0} (b : Bool) → b ≡ false → b ≡ true → A
never b is_false is_true = absurd (true_not_false b is_false is_true)

module _ (tells : Token → Option Operator) (operator : (i : List Token) → begins_telling tells i ≡ true
    → begins_operator i ≡ true) (lower : Expression → Part) where
  more_follows : (more : List (Operator × Expression)) (i rest : List Token)
      → parts.any (e.further_operand tells lower) (lookahead (begins_telling tells)) more i rest
      → (i ≡ rest) ⊎ (begins_operator i ≡ true)
  more_follows [] i rest s = inl s.0
  more_follows (one ∷ more) i rest s = inr (operator i (telling_starts tells one.0 i s.1.0 s.1.1))

  level_leads : Leads lower → Leads (e.level tells lower)
  level_leads each x i rest (first, more, is, (i1, one, others)) =
      let l = each first i i1 one in
      let f = more_follows more i1 rest others in
      (λ b. further (past_reference i) i1 rest (l.0 b) f, λ b. further (past_parentheses i) i1 rest (l.1 b) f)

  level_starts : Starts begins_expression lower → Starts begins_expression (e.level tells lower)
  level_starts each x i rest (first, more, is, (i1, one, others)) = each first i i1 one

product_operator : (i : List Token) → begins_telling product_in i ≡ true → begins_operator i ≡ true
product_operator i e = ap (λ b. b || begins_telling sum_in i) e

sum_operator : (i : List Token) → begins_telling sum_in i ≡ true → begins_operator i ≡ true
sum_operator i e = either (begins_telling product_in i) (begins_telling sum_in i) e

-- ---- factors

plain_leads : Leads e.primary
plain_leads x i rest (operand_as.Item one, is, s) = (
  λ b. (rest, reference_passed one i rest s, inl refl),
  λ b. never (begins_left i) (number_operand_no_left (operand_as.Item one) i rest s) b,
)
plain_leads x i rest (operand_as.Literal one, is, s) = (
  λ b. never (begins_name i) (begins_not number_literal_in name_in number_name one i rest s) b,
  λ b. never (begins_left i) (number_operand_no_left (operand_as.Literal one) i rest s) b,
)

factor_leads : (depth : ℕ) → Leads (e.factor depth)
factor_leads zero x i rest s = plain_leads x i rest s
factor_leads (suc depth) x i rest (inl s) = plain_leads x i rest s
factor_leads (suc depth) x i rest (inr (inl (sign, inner, is, (i1, told, one)))) = (
  λ b. never (begins_name i) (begins_not sign_in name_in sign_name sign i i1 told) b,
  λ b. never (begins_left i) (begins_not sign_in left_in sign_left sign i i1 told) b,
)
factor_leads (suc depth) x i rest (inr (inr s)) = (
  λ b. never (begins_name i) (begins_not left_in name_in left_name tt i s.0 s.1) b,
  λ b. (rest, parentheses_passed {p = e.expression depth x} (expression_even depth x) i rest s, inl refl),
)

factor_starts : (depth : ℕ) → Starts begins_expression (e.factor depth)
factor_starts zero x i rest (one, is, s) = plain_starts one i rest s
  where
    plain_starts : (one : Rattle.source_tree.specs.declared.expression.Operand.Operand) (i rest : List Token)
        → Rattle.expressions.specs.Operands.number_operand one i rest → begins_expression i ≡ true
    plain_starts (operand_as.Item one) i rest s =
        ap (λ b. b || (e.begins_nested i || begins_telling number_literal_in i)) (reference_starts one i rest s)
    plain_starts (operand_as.Literal one) i rest s =
        either (begins_name i) (e.begins_nested i || begins_telling number_literal_in i) (either (e.begins_nested i)
        (begins_telling number_literal_in i) (telling_starts number_literal_in one i rest s))
factor_starts (suc depth) x i rest (inl s) = factor_starts depth x i rest (plain_below depth x i rest s)
  where
    plain_below : (depth : ℕ) (x : Expression) (i rest : List Token) → e.primary x i rest → e.factor depth x i rest
    plain_below zero x i rest s = s
    plain_below (suc depth) x i rest s = inl s
factor_starts (suc depth) x i rest (inr (inl (sign, inner, is, (i1, told, one)))) =
    either (begins_name i) (e.begins_nested i || begins_telling number_literal_in i)
    (ap (λ b. b || begins_telling number_literal_in i)
    (either (begins_left i) (begins_sign i) (telling_starts sign_in sign i i1 told)))
factor_starts (suc depth) x i rest (inr (inr s)) =
    either (begins_name i) (e.begins_nested i || begins_telling number_literal_in i)
    (ap (λ b. b || begins_telling number_literal_in i)
    (ap (λ b. b || begins_sign i) (telling_starts left_in tt i s.0 s.1)))

-- ---- expressions

pub expression_leads : (depth : ℕ) → Leads (e.expression depth)
expression_leads depth = level_leads sum_in sum_operator (e.product (e.factor depth))
    (level_leads product_in product_operator (e.factor depth) (factor_leads depth))

pub expression_starts : (depth : ℕ) → Starts begins_expression (e.expression depth)
expression_starts depth = level_starts sum_in sum_operator (e.product (e.factor depth))
    (level_starts product_in product_operator (e.factor depth) (factor_starts depth))
