-- What is asked of an operand: what is read is spelled, and what is spelled is read; and what is seen ahead.
use Rattle.std.proofs.Common.{◌≡◌, ◌<◌, ◌≤◌, Bool, true, false, if◌then◌else◌, List, [], ◌∷◌, length, Option, Some}
use Rattle.std.proofs.Common.{None, Ok, inl, inr, refl, sym, ap, ◌∙◌, subst, arith}
use Rattle.std.specs.Prelude.{◌||◌}
use Rattle.std.specs.Option.{option_map}
use Rattle.tokens.specs.declared.reserved.Reserved.{Reserved}
use Rattle.tokens.specs.declared.reserved.Reserved.TheVariants as w
use Rattle.tokens.specs.declared.token.Kind.{Kind}
use Rattle.tokens.specs.declared.token.Kind.TheVariants as k
use Rattle.tokens.specs.declared.token.Token.{Token}
use Rattle.tokens.specs.declared.token.Operator.{Operator as Written}
use Rattle.source_tree.specs.declared.condition.Relation.{Relation}
use Rattle.source_tree.specs.declared.condition.Relation.TheVariants as relation
use Rattle.grammar.specs.declared.fault.Halt.{Halt}
use Rattle.grammar.specs.Parts.{optional_part, optional, word, token_with, is_told}
use Rattle.grammar.specs.Reading as r
use Rattle.grammar.specs.Reading.{Parser, is_kind, begins_word, after_word, past_word, otherwise_here, expect, skip}
use Rattle.grammar.specs.Reading.{one_token}
use Rattle.grammar.proofs.Outcomes.{Answers, Reached, step, unstep, value, after, last}
use Rattle.grammar.proofs.Looking.{kind_is, word_begins, true_not_false, past_is, finds_word}
use Rattle.grammar.proofs.Lists.{Sound, Complete, Shrinks}
use Rattle.grammar.proofs.Parts.{one_token_sound, one_token_complete, telling_shrinks, word_sound, word_complete}
use Rattle.grammar.proofs.Parts.{word_shrinks, skip_sound, skip_complete, skip_shrinks, stands_sound, stands_complete}
use Rattle.grammar.proofs.Parts.{stands_shrinks}
use Rattle.expressions.specs.Marks.{product_by, sum_by}
use Rattle.expressions.specs.Looking.{begins_operator}
use Rattle.expressions.proofs.Exact.Balance.{Even, plain_kind, plain_told, word_even, then_even, without_even}
use Rattle.expressions.proofs.Exact.Balance.{optional_even}
use Rattle.conditions.specs.declared.asked.Test.{Test}
use Rattle.conditions.specs.declared.asked.Test.TheVariants as test
use Rattle.conditions.specs.declared.asked.Asked.{Asked}
use Rattle.conditions.specs.declared.asked.Asked.TheVariants as asked_as
use Rattle.conditions.specs.Tests as g
use Rattle.conditions.specs.Tests.{test_in, symbol_of, with_equal, operator, first_known, next_test, is_class}
use Rattle.conditions.specs.Tests.{begins_test, begins_class}

-- ---- words that stand or not

begins_is_word : (one : Reserved) (i : List Token) → begins_word one i ≡ true → (rest : List Token) × word one i rest
begins_is_word one [] e = cc
begins_is_word one (first ∷ more) e = (more, (first, refl, kind_is one first.kind e))

pub no_word : (one : Reserved) (i : List Token) → ((rest : List Token) → word one i rest → ⊥)
    → begins_word one i ≡ false
no_word one i nowhere = go (begins_word one i) refl
  where
    go : (b : Bool) → begins_word one i ≡ b → begins_word one i ≡ false
    go true is = let s = begins_is_word one i is in absurd (nowhere s.0 s.1)
    go false is = is

-- ---- OR EQUAL

or_equal_sound : Sound g.or_equal g.or_equal_reader
unfolding g.or_equal_reader g.or_equal_phrase_reader
or_equal_sound x i rest e = go (begins_word w.Or i) refl e
  where
    go : (b : Bool) → begins_word w.Or i ≡ b → (if b then g.or_equal_phrase_reader i else Ok (false, i)) ≡ Ok (x, rest)
        → g.or_equal x i rest
    go true is e =
        unstep (expect w.Or i) _ e (λ u i1 is1 e1.
        unstep (expect w.Equal i1) _ e1 (λ v i2 is2 e2.
        unstep (skip w.To i2) _ e2 (λ x3 i3 is3 e3.
        subst (λ y. g.or_equal y i rest) (value e3) (
          i1,
          word_sound w.Or u i i1 is1,
          (i2, word_sound w.Equal v i1 i2 is2, skip_sound w.To x3 i2 rest (last is3 e3)),
        ))))
    go false is e = subst (λ y. g.or_equal y i rest) (value e)
        (after e, λ j s. true_not_false (begins_word w.Or i) is (word_begins w.Or i j s))

or_equal_complete : {Allowed : Halt → Type 0} → Complete Allowed g.or_equal g.or_equal_reader
unfolding g.or_equal_reader g.or_equal_phrase_reader
or_equal_complete true i rest (i1, or, (i2, equal, to)) =
    rw (word_begins w.Or i i1 or)
    (step (expect w.Or i) _ (word_complete w.Or tt i i1 or)
    (step (expect w.Equal i1) _ (word_complete w.Equal tt i1 i2 equal)
    (step (skip w.To i2) _ (skip_complete w.To tt i2 rest to) (Reached refl))))
or_equal_complete false i rest e = rw (no_word w.Or i e.1) (Reached (ap (λ j. Ok (false, j)) e.0))

or_equal_shrinks : (x : Bool) (i rest : List Token) → g.or_equal x i rest → length rest ≤ length i
or_equal_shrinks true i rest (i1, or, (i2, equal, to)) =
    let a = word_shrinks w.Or i i1 or in let b = word_shrinks w.Equal i1 i2 equal in let c =
    skip_shrinks w.To i2 rest to in omega arith
or_equal_shrinks false i rest e = let l = ap length e.0 in omega arith

-- ---- what is asked

after_sound : (negated : Bool) (one : Test) (x : Asked) (i i2 i3 rest : List Token) → g.is_not negated i i2
    → token_with test_in one i2 i3
    → g.asked_after negated one i3 ≡ Ok (x, rest) → g.test_phrase x i rest
unfolding g.order_reader g.equal_reader
after_sound negated (test.Symbol one) x i i2 i3 rest before told e =
    subst (λ y. g.test_phrase y i rest) (value e)
    (i2, before, inl (subst (λ j. token_with test_in (test.Symbol one) i2 j) (after e) told))
after_sound negated (test.Order one) x i i2 i3 rest before told e =
    unstep (skip w.Than i3) _ e (λ u i4 is4 e4.
    unstep (g.or_equal_reader i4) _ e4 (λ equal i5 is5 e5.
    subst (λ y. g.test_phrase y i rest) (value e5) (
      i2,
      before,
      inr (inl (
        one,
        equal,
        refl,
        (i3, told, (i4, skip_sound w.Than u i3 i4 is4, or_equal_sound equal i4 rest (last is5 e5))),
      )),
    )))
after_sound negated test.Equal x i i2 i3 rest before told e =
    unstep (skip w.To i3) _ e (λ u i4 is4 e4.
    subst (λ y. g.test_phrase y i rest) (value e4)
    (i2, before, inr (inr (refl, (i3, told, skip_sound w.To u i3 rest (last is4 e4))))))
after_sound negated (test.Sign one) x i i2 i3 rest before told e =
    subst (λ y. g.test_phrase y i rest) (value e)
    (i2, before, subst (λ j. token_with test_in (test.Sign one) i2 j) (after e) told)
after_sound negated (test.Class one) x i i2 i3 rest before told e =
    subst (λ y. g.test_phrase y i rest) (value e)
    (i2, before, subst (λ j. token_with test_in (test.Class one) i2 j) (after e) told)

pub asked_sound : Sound g.test_phrase g.asked_reader
unfolding g.asked_reader
asked_sound x i rest e =
    unstep (skip w.Is i) _ e (λ u i1 is1 e1.
    unstep (r.presence_reader (after_word w.Not) i1) _ e1 (λ negated i2 is2 e2.
    unstep (one_token test_in i2) _ e2 (λ one i3 is3 e3.
    after_sound negated one
    x i i2 i3 rest (i1, skip_sound w.Is u i i1 is1, stands_sound (finds_word w.Not) negated i1 i2 is2)
    (one_token_sound test_in one i2 i3 is3) e3)))

asked_by : {Allowed : Halt → Type 0} (negated : Bool) (one : Test) (x : Asked) (i i2 i3 rest : List Token)
    → g.is_not negated i i2 → token_with test_in one i2 i3
    → Answers Allowed (g.asked_after negated one i3) x rest → Answers Allowed (g.asked_reader i) x rest
unfolding g.asked_reader
asked_by negated one x i i2 i3 rest (i1, is, stands) told others =
    step (skip w.Is i) _ (skip_complete w.Is tt i i1 is)
    (step (r.presence_reader (after_word w.Not) i1) _ (stands_complete (finds_word w.Not) negated i1 i2 stands)
    (step (one_token test_in i2) _ (one_token_complete test_in one i2 i3 told) others))

pub asked_complete : {Allowed : Halt → Type 0} → Complete Allowed g.test_phrase g.asked_reader
unfolding g.order_reader g.equal_reader
asked_complete (asked_as.Relation one) i rest (i2, before, inl told) =
    asked_by one.negated (test.Symbol one.relation) (asked_as.Relation one) i i2 rest rest before told (Reached refl)
asked_complete {Allowed = Allowed} (asked_as.Relation one) i rest
    (i2, before, inr (inl (order, equal, as_order, (i3, told, (i4, than, or))))) =
    subst (λ y. Answers Allowed (g.asked_reader i) (operator one.negated y) rest) (sym as_order)
    (asked_by one.negated (test.Order order) (operator one.negated (with_equal equal order)) i i2 i3 rest before told
    (step (skip w.Than i3) _ (skip_complete w.Than tt i3 i4 than)
    (step (g.or_equal_reader i4) _ (or_equal_complete equal i4 rest or) (Reached refl))))
asked_complete {Allowed = Allowed} (asked_as.Relation one) i rest (i2, before, inr (inr (as_equal, (i3, told, to)))) =
    subst (λ y. Answers Allowed (g.asked_reader i) (operator one.negated y) rest) (sym as_equal)
    (asked_by one.negated test.Equal (operator one.negated relation.Equal) i i2 i3 rest before told
    (step (skip w.To i3) _ (skip_complete w.To tt i3 rest to) (Reached refl)))
asked_complete (asked_as.Sign negated one) i rest (i2, before, told) =
    asked_by negated (test.Sign one) (asked_as.Sign negated one) i i2 rest rest before told (Reached refl)
asked_complete (asked_as.Class negated one) i rest (i2, before, told) =
    asked_by negated (test.Class one) (asked_as.Class negated one) i i2 rest rest before told (Reached refl)

-- ---- it takes a token

is_not_shrinks : (negated : Bool) (i rest : List Token) → g.is_not negated i rest → length rest ≤ length i
is_not_shrinks negated i rest (i1, is, stands) =
    let a = skip_shrinks w.Is i i1 is in let b = stands_shrinks word_below negated i1 rest stands in omega arith
  where
    word_below : (i rest : List Token) → word w.Not i rest → length rest ≤ length i
    word_below i rest s = let l = word_shrinks w.Not i rest s in omega arith

comparison_shrinks : (one : Relation) (i rest : List Token) → g.comparison one i rest → length rest < length i
comparison_shrinks one i rest (inl told) = telling_shrinks test_in (test.Symbol one) i rest told
comparison_shrinks one i rest (inr (inl (order, equal, is, (i1, told, (i2, than, or))))) =
    let a = telling_shrinks test_in (test.Order order) i i1 told in let b = skip_shrinks w.Than i1 i2 than in let c =
    or_equal_shrinks equal i2 rest or in omega arith
comparison_shrinks one i rest (inr (inr (is, (i1, told, to)))) = let a =
    telling_shrinks test_in test.Equal i i1 told in let b = skip_shrinks w.To i1 rest to in omega arith

pub asked_shrinks : Shrinks g.test_phrase
asked_shrinks (asked_as.Relation one) i rest (i1, before, s) =
    let a = is_not_shrinks one.negated i i1 before in let b = comparison_shrinks one.relation i1 rest s in omega arith
asked_shrinks (asked_as.Sign negated one) i rest (i1, before, told) =
    let a = is_not_shrinks negated i i1 before in let b =
    telling_shrinks test_in (test.Sign one) i1 rest told in omega arith
asked_shrinks (asked_as.Class negated one) i rest (i1, before, told) =
    let a = is_not_shrinks negated i i1 before in let b =
    telling_shrinks test_in (test.Class one) i1 rest told in omega arith

-- ---- it has no parenthesis

test_even : (one : Test) → Even (token_with test_in one)
test_even one = plain_told test_in (λ first a e. plain_kind g.test_by refl refl first.kind a e) one

stands_even : (there : Bool) → Even (optional_part (word w.Not) there)
stands_even true = word_even w.Not
stands_even false = without_even (word w.Not)

is_not_even : (negated : Bool) → Even (g.is_not negated)
is_not_even negated = then_even {p = optional (word w.Is)} {q =
    optional_part (word w.Not) negated} (optional_even {p = word w.Is} (word_even w.Is)) (stands_even negated)

or_equal_even : (x : Bool) → Even (g.or_equal x)
or_equal_even true i rest (i1, or, (i2, equal, to)) n =
    word_even w.Or i i1 or n ∙ word_even w.Equal i1 i2 equal n
    ∙ optional_even {p = word w.To} (word_even w.To) i2 rest to n
or_equal_even false i rest e n = without_even (word w.Or) i rest e n

comparison_even : (one : Relation) → Even (g.comparison one)
comparison_even one i rest (inl told) n = test_even (test.Symbol one) i rest told n
comparison_even one i rest (inr (inl (order, equal, is, (i1, told, (i2, than, or))))) n =
    test_even (test.Order order) i i1 told n ∙ optional_even {p = word w.Than} (word_even w.Than) i1 i2 than n
    ∙ or_equal_even equal i2 rest or n
comparison_even one i rest (inr (inr (is, (i1, told, to)))) n =
    test_even test.Equal i i1 told n ∙ optional_even {p = word w.To} (word_even w.To) i1 rest to n

pub asked_even : (x : Asked) → Even (g.test_phrase x)
asked_even (asked_as.Relation one) i rest (i1, before, s) n =
    is_not_even one.negated i i1 before n ∙ comparison_even one.relation i1 rest s n
asked_even (asked_as.Sign negated one) i rest (i1, before, told) n =
    is_not_even negated i i1 before n ∙ test_even (test.Sign one) i1 rest told n
asked_even (asked_as.Class negated one) i rest (i1, before, told) n =
    is_not_even negated i i1 before n ∙ test_even (test.Class one) i1 rest told n

-- ---- it is seen ahead

passed : (negated : Bool) (i rest : List Token) → g.is_not negated i rest → past_word w.Not (past_word w.Is i) ≡ rest
passed true i rest (i1, is, stands) = ap (past_word w.Not) (past_is w.Is i i1 is) ∙ past_is w.Not i1 rest (inl stands)
passed false i rest (i1, is, stands) = ap (past_word w.Not) (past_is w.Is i i1 is) ∙ past_is w.Not i1 rest (inr stands)

pub seen : (negated : Bool) (one : Test) (i i1 rest : List Token) → g.is_not negated i i1
    → token_with test_in one i1 rest → next_test i ≡ Some one
seen negated one i i1 rest before (first, is, tell) =
    ap (first_known test_in) (passed negated i i1 before) ∙ ap (first_known test_in) is ∙ tell

abbrev pub asks_class : Asked → Bool
asks_class (asked_as.Class negated one) = true
asks_class _ = false

-- something is asked, and whether it is a class
abbrev pub Seen : Asked → List Token → Type 0
Seen x i = (one : Test) × (next_test i ≡ Some one) × (is_class (Some one) ≡ asks_class x)

asked_seen : (x : Asked) (i rest : List Token) → g.test_phrase x i rest → Seen x i
asked_seen (asked_as.Relation one) i rest (i1, before, inl told) =
    (test.Symbol one.relation, seen one.negated (test.Symbol one.relation) i i1 rest before told, refl)
asked_seen (asked_as.Relation one) i rest (i1, before, inr (inl (order, equal, as_order, (i2, told, others)))) =
    (test.Order order, seen one.negated (test.Order order) i i1 i2 before told, refl)
asked_seen (asked_as.Relation one) i rest (i1, before, inr (inr (as_equal, (i2, told, to)))) =
    (test.Equal, seen one.negated test.Equal i i1 i2 before told, refl)
asked_seen (asked_as.Sign negated one) i rest (i1, before, told) =
    (test.Sign one, seen negated (test.Sign one) i i1 rest before told, refl)
asked_seen (asked_as.Class negated one) i rest (i1, before, told) =
    (test.Class one, seen negated (test.Class one) i i1 rest before told, refl)

pub asked_begins : (x : Asked) (i rest : List Token) → g.test_phrase x i rest → begins_test i ≡ true
asked_begins x i rest s = let one = asked_seen x i rest s in ap is_told one.1

pub asked_class : (x : Asked) (i rest : List Token) → g.test_phrase x i rest → begins_class i ≡ asks_class x
asked_class x i rest s = let one = asked_seen x i rest s in ap is_class one.1 ∙ one.2

pub no_test_no_class : (i : List Token) → begins_test i ≡ false → begins_class i ≡ false
no_test_no_class i e = go (next_test i) e
  where
    go : (o : Option Test) → is_told o ≡ false → is_class o ≡ false
    go None e = refl
    go (Some one) e = cc

-- ---- an arithmetic operator asks for no class

operator_is : (kind : Kind) → (is_told (product_by kind) || is_told (sum_by kind)) ≡ true
    → (o : Written) × (kind ≡ k.Operator o)
operator_is (k.Reserved _) e = cc
operator_is (k.Word characters) e = cc
operator_is (k.Numeric number) e = cc
operator_is (k.Nonnumeric bytes) e = cc
operator_is (k.Picture characters) e = cc
operator_is k.Period e = cc
operator_is k.LeftParenthesis e = cc
operator_is k.RightParenthesis e = cc
operator_is k.Colon e = cc
operator_is (k.Operator o) e = (o, refl)

word_stays : (one : Reserved) (first : Token) (more : List Token) (o : Written) → first.kind ≡ k.Operator o
    → past_word one (first ∷ more) ≡ first ∷ more
unfolding past_word after_word
word_stays one first more o e =
    ap (λ b. otherwise_here (first ∷ more) (if b then Some more else None)) (ap (is_kind one) e)

symbol_no_class : (o : Option Relation) → is_class (option_map test.Symbol o) ≡ false
symbol_no_class None = refl
symbol_no_class (Some one) = refl

pub operator_no_class : (i : List Token) → begins_operator i ≡ true → begins_class i ≡ false
operator_no_class [] e = cc
operator_no_class (first ∷ more) e =
    let o = operator_is first.kind e in
    ap (λ j. is_class (first_known test_in (past_word w.Not j))) (word_stays w.Is first more o.0 o.1)
    ∙ ap (λ j. is_class (first_known test_in j)) (word_stays w.Not first more o.0 o.1)
    ∙ ap (λ kind. is_class (g.test_by kind)) o.1
    ∙ symbol_no_class (symbol_of o.0)
