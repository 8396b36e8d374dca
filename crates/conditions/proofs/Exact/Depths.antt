-- Where a condition stands, trying to read a value is too deep only where the condition is deeper than the reader goes.
use Rattle.std.proofs.Common.{◌≡◌, ◌<◌, ℕ, zero, suc, Bool, true, false, if◌then◌else◌, List, [], ◌∷◌, length, Option}
use Rattle.std.proofs.Common.{Some, None, Ok, inl, inr, refl, sym, ap, ◌∙◌, subst, arith}
use Rattle.std.specs.Prelude.{◌⊎◌, ◌||◌, Err}
use Rattle.tokens.specs.declared.reserved.Reserved.{Reserved}
use Rattle.tokens.specs.declared.reserved.Reserved.TheVariants as w
use Rattle.tokens.specs.declared.token.Token.{Token}
use Rattle.source_tree.specs.declared.reference.Reference.{Reference}
use Rattle.source_tree.specs.declared.expression.Operand.TheVariants as operand_as
use Rattle.source_tree.specs.declared.expression.Expression.{Expression}
use Rattle.source_tree.specs.declared.expression.Expression.TheVariants as expression_as
use Rattle.source_tree.specs.declared.condition.Side.{Side}
use Rattle.source_tree.specs.declared.condition.Side.TheVariants as side_as
use Rattle.source_tree.specs.declared.condition.Condition.{Condition}
use Rattle.grammar.specs.declared.fault.Halt.{Halt}
use Rattle.grammar.specs.declared.fault.Halt.TheVariants.{TooDeep, Unexpected}
use Rattle.grammar.specs.Parts.{◌then◌, optional_part, word, is_told, begins_telling, begins_name}
use Rattle.grammar.specs.Reading as r
use Rattle.grammar.specs.Reading.{Outcome, Parser, and_then, outcome_of_value, begins_word, after_word, outcome_of_rest}
use Rattle.grammar.specs.Reading.{expect, one_token}
use Rattle.grammar.proofs.Outcomes.{Answers, Reached, Halts, Deeper, unstep, after, last}
use Rattle.grammar.proofs.Looking.{some_is, true_not_false, tests_tested, word_begins}
use Rattle.grammar.proofs.Parts.{one_token_sound, telling_starts}
use Rattle.expressions.specs.Marks.{left_parenthesis, left_in, right_in, begins_left, sum_in, product_in}
use Rattle.expressions.specs.References.{reference}
use Rattle.expressions.specs.Operands.{number_operand_reader, number_literal_reader}
use Rattle.expressions.specs.Literals.{literal_reader, all_literal_reader, plain_in, bytes_in, number_literal_in}
use Rattle.expressions.specs.Expressions as arithmetic
use Rattle.expressions.specs.Expressions.{expression, expression_reader}
use Rattle.expressions.specs.Looking.{past_parentheses, begins_expression, begins_operator}
use Rattle.expressions.proofs.Exact.Balance.{parentheses_passed, expression_even}
use Rattle.expressions.proofs.Exact.Expressions.{expression_sound, expression_complete, reads_plain}
use Rattle.expressions.proofs.Exact.Marks.{either}
use Rattle.conditions.specs.declared.asked.Asked.TheVariants as asked_as
use Rattle.conditions.specs.Tests.{begins_class, begins_test}
use Rattle.conditions.specs.Conditions as g
use Rattle.conditions.specs.Conditions.{goes_on, goes_on_after}
use Rattle.conditions.proofs.Exact.Tests.{asked_class, operator_no_class}
use Rattle.conditions.proofs.Exact.Sides.{text_begins, expression_no_word, not_opens_none}
use Rattle.conditions.proofs.Exact.Plain.{plain_begins}
use Rattle.conditions.proofs.Exact.Conditions.{closes, left_begins, simple_even}

-- reading to `depth` that is too deep only for what nests to more, up to `depth'`
abbrev pub Fits : {A : Type 0} → ℕ → ℕ → Outcome A → Type 0
Fits depth depth' reading = (behind : ℕ) → reading ≡ Err (TooDeep behind) → depth < depth'

pub both_not : (a b : Bool) → (a || b) ≡ false → (a ≡ false) × (b ≡ false)
both_not true b e = cc
both_not false b e = (refl, e)

abbrev tail : List Token → List Token
tail [] = []
tail (first ∷ more) = more

-- ---- steps that are too deep

abbrev fault_of : {A : Type 0} → Halt → Outcome A → Halt
fault_of otherwise (Ok p) = otherwise
fault_of otherwise (Err halt) = halt

module _ {A B : Type 0} {Q : Type 0} (f : A → Parser B) (behind : ℕ) where
  deep_step : (first : Outcome A) → and_then first f ≡ Err (TooDeep behind) → (first ≡ Err (TooDeep behind) → Q)
      → ((a : A) (middle : List Token) → first ≡ Ok (a, middle) → f a middle ≡ Err (TooDeep behind) → Q) → Q
  deep_step (Ok p) e now then_on = then_on p.0 p.1 refl e
  deep_step (Err halt) e now then_on = now (ap Err (ap (fault_of halt) e))

token_not_deep : {A : Type 0} (tells : Token → Option A) (i : List Token) (behind : ℕ)
    → one_token tells i ≡ Err (TooDeep behind) → ⊥
unfolding one_token
token_not_deep tells [] behind e = cc
token_not_deep {A = A} tells (first ∷ more) behind e = go (tells first) e
  where
    go : (o : Option A) → outcome_of_value o more (first ∷ more) ≡ Err (TooDeep behind) → ⊥
    go None e = cc
    go (Some a) e = cc

token_refused : {A : Type 0} (tells : Token → Option A) (i : List Token) → begins_telling tells i ≡ false
    → one_token tells i ≡ Err (Unexpected (length i))
unfolding one_token
token_refused tells [] e = refl
token_refused {A = A} tells (first ∷ more) e = go (tells first) e
  where
    go : (o : Option A) → is_told o ≡ false
        → outcome_of_value o more (first ∷ more) ≡ Err (Unexpected (length (first ∷ more)))
    go None e = refl
    go (Some a) e = cc

expect_not_deep : (one : Reserved) (i : List Token) (behind : ℕ) → expect one i ≡ Err (TooDeep behind) → ⊥
unfolding expect
expect_not_deep one i behind e = go (after_word one i) e
  where
    go : (o : Option (List Token)) → outcome_of_rest o i ≡ Err (TooDeep behind) → ⊥
    go None e = cc
    go (Some j) e = cc

here_not_deep : (i : List Token) (behind : ℕ) → r.here i ≡ Err (TooDeep behind) → ⊥
unfolding r.here
here_not_deep [] behind e = cc
here_not_deep (first ∷ more) behind e = cc

literal_not_deep : (i : List Token) (behind : ℕ) → literal_reader i ≡ Err (TooDeep behind) → ⊥
unfolding literal_reader all_literal_reader
literal_not_deep i behind e = go (begins_word w.All i) e
  where
    go : (b : Bool) → (if b then all_literal_reader i else one_token plain_in i) ≡ Err (TooDeep behind) → ⊥
    go true e =
        deep_step _ behind (r.here i) e (here_not_deep i behind) (λ place i1 is1 e1.
        deep_step _ behind (expect w.All i1) e1 (expect_not_deep w.All i1 behind) (λ u i2 is2 e2.
        deep_step _ behind (one_token bytes_in i2) e2 (token_not_deep bytes_in i2 behind) (λ bytes i3 is3 e3. cc)))
    go false e = token_not_deep plain_in i behind e

-- ---- sums and products

any_begins : {A : Type 0} (item : Parser A) (begins : List Token → Bool) (i : List Token) (behind : ℕ)
    → r.any item begins i ≡ Err (TooDeep behind) → begins i ≡ true
unfolding r.any
any_begins item begins i behind e = go (begins i) e
  where
    go : (b : Bool) → (if b then r.several item begins i else Ok ([], i)) ≡ Err (TooDeep behind) → b ≡ true
    go true e = refl
    go false e = cc

any_goes : {A : Type 0} (item : Parser A) (begins : List Token → Bool) (i : List Token) (all : List A)
    (rest : List Token) → r.any item begins i ≡ Ok (all, rest)
    → (begins i ≡ true) ⊎ (i ≡ rest)
unfolding r.any
any_goes item begins i all rest e = go (begins i) e
  where
    go : (b : Bool) → (if b then r.several item begins i else Ok ([], i)) ≡ Ok (all, rest) → (b ≡ true) ⊎ (i ≡ rest)
    go true e = inl refl
    go false e = inr (after e)

-- A sum is too deep in its first factor, or an operator follows this.
sum_deep : (reader : Parser Expression) (i : List Token) (behind : ℕ) {Q : Type 0}
    → arithmetic.sum_reader reader i ≡ Err (TooDeep behind)
    → (reader i ≡ Err (TooDeep behind) → Q)
    → ((x : Expression) (j : List Token) → reader i ≡ Ok (x, j) → begins_operator j ≡ true → Q) → Q
unfolding arithmetic.sum_reader arithmetic.product_reader arithmetic.level_reader
sum_deep reader i behind {Q = Q} e now more =
    deep_step _ behind (arithmetic.product_reader reader i) e
    (λ deep.
    deep_step _ behind (reader i) deep now (λ x j is next.
    deep_step _ behind (r.any (arithmetic.further_operand_reader product_in reader) (begins_telling product_in) j) next
    (λ none. more x j is (by_product j (any_begins _ _ j behind none))) (λ all k is' end. cc)))
    (λ y k product next.
    unstep (reader i) _ product (λ x j is products.
    unstep (r.any (arithmetic.further_operand_reader product_in reader) (begins_telling product_in) j) _ products
    (λ all m is' end.
    deep_step _ behind (r.any (arithmetic.further_operand_reader sum_in (arithmetic.product_reader reader))
    (begins_telling sum_in) k) next (λ none.
    more x j is (followed j m k (any_goes _ _ j all m is') (after end) (any_begins _ _ k behind none)))
    (λ all' k' is'' end'. cc))))
  where
    by_product : (j : List Token) → begins_telling product_in j ≡ true → begins_operator j ≡ true
    by_product j e = ap (λ b. b || begins_telling sum_in j) e

    followed : (j m k : List Token) → (begins_telling product_in j ≡ true) ⊎ (j ≡ m) → m ≡ k
        → begins_telling sum_in k ≡ true → begins_operator j ≡ true
    followed j m k (inl product) same sum = by_product j product
    followed j m k (inr nothing) same sum =
        ap begins_operator (nothing ∙ same) ∙ either (begins_telling product_in k) (begins_telling sum_in k) sum

-- ---- a parenthesis that opens a condition

nested_is : (depth : ℕ) (i : List Token) → begins_left i ≡ true
    → arithmetic.factor_reader (suc depth) i ≡ arithmetic.enclosed_reader (arithmetic.factor_reader depth) i
unfolding arithmetic.factor_reader arithmetic.nested_reader
nested_is depth i opens = rw opens refl

same_tail : (i j k : List Token) → left_parenthesis i j → left_parenthesis i k → j ≡ k
same_tail i j k (first, is, tell) (other, is', tell') = ap tail (sym is ∙ is')

-- what is in the parentheses is too deep
enclosed_deep : (depth : ℕ) (i i1 : List Token) (behind : ℕ) → left_parenthesis i i1
    → arithmetic.enclosed_reader (arithmetic.factor_reader depth) i ≡ Err (TooDeep behind)
    → expression_reader depth i1 ≡ Err (TooDeep behind)
unfolding arithmetic.enclosed_reader expression_reader
enclosed_deep depth i i1 behind opens e =
    deep_step _ behind (one_token left_in i) e (λ none. absurd (token_not_deep left_in i behind none)) (λ u j is e1.
    deep_step _ behind (arithmetic.sum_reader (arithmetic.factor_reader depth) j) e1
    (λ deep. subst (λ k. arithmetic.sum_reader (arithmetic.factor_reader depth) k ≡ Err (TooDeep behind))
    (same_tail i j i1 (one_token_sound left_in u i j is) opens) deep)
    (λ inner k is' e2. deep_step _ behind (one_token right_in k) e2
    (λ none. absurd (token_not_deep right_in k behind none)) (λ v m is'' e3. cc)))

sum_spelled : (depth : ℕ) (x : Expression) (i j : List Token)
    → arithmetic.sum_reader (arithmetic.factor_reader depth) i ≡ Ok (x, j) → expression depth x i j
unfolding expression_reader
sum_spelled depth x i j e = expression_sound depth x i j e

-- where the parentheses end, if they are read
enclosed_passed : (depth : ℕ) (x : Expression) (i rest : List Token)
    → arithmetic.enclosed_reader (arithmetic.factor_reader depth) i ≡ Ok (x, rest) → past_parentheses i ≡ Some rest
unfolding arithmetic.enclosed_reader
enclosed_passed depth x i rest e =
    unstep (one_token left_in i) _ e (λ u i1 is1 e1.
    unstep (arithmetic.sum_reader (arithmetic.factor_reader depth) i1) _ e1 (λ inner i2 is2 e2.
    unstep (one_token right_in i2) _ e2 (λ v i3 is3 e3.
    parentheses_passed {p = expression depth inner} (expression_even depth inner) i rest (
      i1,
      one_token_sound left_in u i i1 is1,
      (i2, sum_spelled depth inner i1 i2 is2, one_token_sound right_in v i2 rest (last is3 e3)),
    ))))

operator_goes_on : (i : List Token) → begins_operator i ≡ true → goes_on i ≡ true
operator_goes_on i e = ap (λ b. b || begins_test i) e

-- It is too deep as an expression only if what is in the parentheses is.
opened_deep : (depth : ℕ) (i i1 rest : List Token) (behind : ℕ) → left_parenthesis i i1 → begins_left i ≡ true
    → past_parentheses i ≡ Some rest → goes_on rest ≡ false
    → expression_reader (suc depth) i ≡ Err (TooDeep behind) → expression_reader depth i1 ≡ Err (TooDeep behind)
unfolding expression_reader
opened_deep depth i i1 rest behind opens begins passed stops e =
    sum_deep (arithmetic.factor_reader (suc depth)) i behind e
    (λ deep. enclosed_deep depth i i1 behind opens (sym (nested_is depth i begins) ∙ deep))
    (λ x j is operator.
    let ends = some_is (sym (enclosed_passed depth x i j (sym (nested_is depth i begins) ∙ is)) ∙ passed) in
    absurd (true_not_false (goes_on rest) stops (sym (ap goes_on ends) ∙ operator_goes_on j operator)))

-- ---- where no expression begins

no_expression : (depth : ℕ) (i : List Token) → begins_expression i ≡ false
    → expression_reader depth i ≡ Err (Unexpected (length i))
unfolding expression_reader arithmetic.sum_reader arithmetic.product_reader arithmetic.level_reader
    arithmetic.plain_reader number_operand_reader number_literal_reader
no_expression depth i none =
    let a = both_not (begins_name i) (arithmetic.begins_nested i || begins_telling number_literal_in i) none in
    let b = both_not (arithmetic.begins_nested i) (begins_telling number_literal_in i) a.1 in
    rw (reads_plain depth i b.0) (rw a.0 (rw (token_refused number_literal_in i b.1) refl))

no_expression_fits : (depth depth' : ℕ) (i : List Token) → begins_expression i ≡ false
    → Fits depth depth' (expression_reader depth i)
no_expression_fits depth depth' i none behind e =
    absurd (differ (expression_reader depth i) (length i) (no_expression depth i none) e)
  where
    differ : (reading : Outcome Expression) (m : ℕ) → reading ≡ Err (Unexpected m) → reading ≡ Err (TooDeep behind) → ⊥
    differ reading m refused deep = cc

not_no_expression : (i : List Token) → begins_word w.Not i ≡ true → begins_expression i ≡ false
not_no_expression i e = go (begins_expression i) (expression_no_word w.Not not_opens_none i)
  where
    go : (b : Bool) → (b ≡ true → begins_word w.Not i ≡ false) → b ≡ false
    go true f = absurd (true_not_false (begins_word w.Not i) (f refl) e)
    go false f = refl

-- ---- plain conditions

answers_fit : {A : Type 0} {depth depth' : ℕ} {reading : Outcome A} {a : A} {rest : List Token}
    → Answers (Deeper depth depth') reading a rest → Fits depth depth' reading
answers_fit (Reached is) behind e = cc
answers_fit (Halts (TooDeep behind') deep is) behind e = deep
answers_fit (Halts (Unexpected behind') none is) behind e = absurd none

-- a factor alone, as an expression
pub factor_alone : (depth : ℕ) (x : Expression) (i rest : List Token) → arithmetic.factor depth x i rest
    → begins_operator rest ≡ false → expression depth x i rest
factor_alone depth x i rest s none =
    let b = both_not (begins_telling product_in rest) (begins_telling sum_in rest) none in (
      x,
      [],
      refl,
      (
        rest,
        (x, [], refl, (rest, s, (refl, (tests_tested (begins_telling product_in)).fails rest b.0))),
        (refl, (tests_tested (begins_telling sum_in)).fails rest b.1),
      ),
    )

item_fits : (depth depth' : ℕ) (one : Reference) (i rest : List Token) → reference one i rest
    → begins_operator rest ≡ false → Fits depth depth' (expression_reader depth i)
item_fits depth depth' one i rest s none behind e =
    let deep =
    answers_fit (expression_complete depth 0 (expression_as.Operand (operand_as.Item one)) i rest (factor_alone 0
    (expression_as.Operand (operand_as.Item one)) i rest (operand_as.Item one, refl, s) none)) behind e in omega arith

side_first_fits : (depth depth' : ℕ) (one : Side) (i rest : List Token) → g.side depth' one i rest
    → Fits depth depth' (expression_reader depth i)
side_first_fits depth depth' (side_as.Expression one) i rest s =
    answers_fit (expression_complete depth depth' one i rest s)
side_first_fits depth depth' (side_as.Literal one) i rest (text, s) =
    no_expression_fits depth depth' i (text_begins one i rest text s)

class_no_operator : (i : List Token) → begins_class i ≡ true → begins_operator i ≡ false
class_no_operator i e = go (begins_operator i) (operator_no_class i)
  where
    go : (b : Bool) → (b ≡ true → begins_class i ≡ false) → b ≡ false
    go true f = absurd (true_not_false (begins_class i) (f refl) e)
    go false f = refl

plain_fits : (depth depth' : ℕ) (x : Condition) (i rest : List Token) → g.simple_condition depth' x i rest
    → Fits depth depth' (expression_reader depth i)
plain_fits depth depth' x i rest (inl (one, is, (i1, s, (same, nowhere)))) =
    item_fits depth depth' one i i1 s
    (both_not (begins_operator i1) (begins_test i1) ((tests_tested goes_on).refuses i1 nowhere)).0
plain_fits depth depth' x i rest (inr (inl (item, negated, one, is, (i1, s, t)))) =
    item_fits depth depth' item i i1 s (class_no_operator i1 (asked_class (asked_as.Class negated one) i1 rest t))
plain_fits depth depth' x i rest (inr (inr (inl (first, one, second, is, (i1, s, t))))) =
    side_first_fits depth depth' first i i1 s
plain_fits depth depth' x i rest (inr (inr (inr (v, negated, one, is, (i1, s, t))))) =
    answers_fit (expression_complete depth depth' v i i1 s)

-- ---- simple conditions

simple_fits : (depth depth' : ℕ) (x : Condition) (i rest : List Token) → g.simple depth' x i rest
    → Fits depth depth' (expression_reader depth i)
simple_fits depth zero x i rest s = plain_fits depth zero x i rest s
simple_fits depth (suc n) x i rest (inl s) = plain_fits depth (suc n) x i rest s
simple_fits depth (suc n) x i rest (inr (inl (inner, is, (i1, first, s)))) =
    no_expression_fits depth (suc n) i (not_no_expression i (word_begins w.Not i i1 first))
simple_fits zero (suc n) x i rest (inr (inr s)) = λ behind e. omega arith
simple_fits (suc depth) (suc n) x i rest (inr
    (inr (i3, (i1, opens, (i2, (whole, others, is, (j, (first, more, is', (k, s, t')), t)), ends)), (same, nowhere)))) =
    λ behind e.
    let passed = closes (g.simple n) (simple_even n) x i i3
    (i1, opens, (i2, (whole, others, is, (j, (first, more, is', (k, s, t')), t)), ends)) in
    let begins = telling_starts left_in tt i i1 opens in
    let inner = opened_deep depth i i1 i3 behind opens begins passed ((tests_tested goes_on).refuses i3 nowhere) e in
    let less = simple_fits depth n first i1 k s behind inner in omega arith

side_fits : (depth depth' : ℕ) (i : List Token) → Fits depth depth' (expression_reader depth i)
    → Fits depth depth' (g.side_reader depth i)
unfolding g.side_reader g.expression_side_reader g.literal_side_reader
side_fits depth depth' i fits behind e = go (begins_expression i) e
  where
    go : (b : Bool) → (if b then g.expression_side_reader depth i else g.literal_side_reader i) ≡ Err (TooDeep behind)
        → depth < depth'
    go true e = deep_step _ behind (expression_reader depth i) e (fits behind) (λ one j is end. cc)
    go false e =
        deep_step _ behind (literal_reader i) e (λ deep. absurd (literal_not_deep i behind deep)) (λ one j is end. cc)

simple_side_fits : (depth depth' : ℕ) (x : Condition) (i rest : List Token) → g.simple depth' x i rest
    → Fits depth depth' (g.side_reader depth i)
simple_side_fits depth depth' x i rest s = side_fits depth depth' i (simple_fits depth depth' x i rest s)

-- ---- conditions

-- the first simple condition of one
abbrev FirstSimple : ℕ → List Token → Type 0
FirstSimple depth i = (one : Condition) × (rest : List Token) × g.simple depth one i rest

first_simple : (depth : ℕ) (x : Condition) (i rest : List Token) → g.condition depth x i rest → FirstSimple depth i
first_simple depth x i rest (whole, others, is, (j, (first, more, is', (k, s, t')), t)) = (first, k, s)

pub condition_fits : (depth depth' : ℕ) (x : Condition) (i rest : List Token) → g.condition depth' x i rest
    → Fits depth depth' (g.side_reader depth i)
condition_fits depth depth' x i rest s = let one =
    first_simple depth' x i rest s in simple_side_fits depth depth' one.0 i one.1 one.2

same_word_tail : (i j k : List Token) → word w.Not i j → word w.Not i k → j ≡ k
same_word_tail i j k (first, is, kind) (other, is', kind') = ap tail (sym is ∙ is')

-- after NOT
negated_fits : (depth depth' : ℕ) (x : Condition) (i i1 rest : List Token) → word w.Not i i1 → g.simple depth' x i rest
    → Fits depth depth' (g.side_reader depth i1)
negated_fits depth zero x i i1 rest first s = absurd (no_plain zero x i i1 rest first s)
  where
    no_plain : (depth : ℕ) (x : Condition) (i i1 rest : List Token) → word w.Not i i1
        → g.simple_condition depth x i rest → ⊥
    no_plain depth x i i1 rest first s =
        true_not_false (begins_word w.Not i) (both_not (begins_word w.Not i) (g.begins_enclosed i)
        (plain_begins depth x i rest s)).0 (word_begins w.Not i i1 first)
negated_fits depth (suc n) x i i1 rest first (inl s) =
    absurd (true_not_false (begins_word w.Not i) (both_not (begins_word w.Not i) (g.begins_enclosed i)
    (plain_begins (suc n) x i rest s)).0 (word_begins w.Not i i1 first))
negated_fits depth (suc n) x i i1 rest first (inr (inl (inner, is, (j, again, s)))) = λ behind e.
    let deep =
    simple_side_fits depth n inner j rest s behind (ap (g.side_reader depth) (same_word_tail i j i1 again first) ∙ e) in
    omega arith
negated_fits depth (suc n) x i i1 rest first (inr (inr (i3, (j, opens, s), t))) =
    absurd (true_not_false (begins_word w.Not i) (left_begins w.Not i j opens) (word_begins w.Not i i1 first))

-- after NOT, where it stands
pub condition_behind_not_fits : (depth depth' : ℕ) (x : Condition) (negated : Bool) (i i1 rest : List Token)
    → optional_part (word w.Not) negated i i1 → g.condition depth' x i rest
    → Fits depth depth' (g.side_reader depth i1)
condition_behind_not_fits depth depth' x true i i1 rest first s = let one =
    first_simple depth' x i rest s in negated_fits depth depth' one.0 i i1 one.1 first one.2
condition_behind_not_fits depth depth' x false i i1 rest (same, nowhere) s =
    λ behind e. condition_fits depth depth' x i rest s behind (ap (g.side_reader depth) same ∙ e)
