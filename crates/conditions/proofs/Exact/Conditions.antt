-- Conditions with NOT and parentheses: what is read is spelled, and what is spelled is read.
use Rattle.std.proofs.Common.{◌≡◌, ◌<◌, ℕ, zero, suc, ◌-◌, Bool, true, false, if◌then◌else◌, List, length, Some, Ok}
use Rattle.std.proofs.Common.{inl, inr, refl, sym, ap, ◌∙◌, subst, arith}
use Rattle.std.specs.Prelude.{◌⊎◌, ◌||◌, ◌&&◌, not, Err}
use Rattle.tokens.specs.declared.reserved.Reserved.{Reserved}
use Rattle.tokens.specs.declared.reserved.Reserved.TheVariants as w
use Rattle.tokens.specs.declared.token.Kind.{Kind}
use Rattle.tokens.specs.declared.token.Kind.TheVariants as k
use Rattle.tokens.specs.declared.token.Token.{Token}
use Rattle.source_tree.specs.declared.condition.Condition.{Condition}
use Rattle.grammar.specs.declared.fault.Halt.{Halt}
use Rattle.grammar.specs.declared.fault.Halt.TheVariants.{TooDeep, Unexpected}
use Rattle.grammar.specs.Parts.{Part, ◌then◌, ◌or◌, lookahead}
use Rattle.grammar.specs.Reading.{Parser, is_kind, begins_word, expect, one_token}
use Rattle.grammar.proofs.Outcomes.{Answers, Reached, Halts, Deeper, allow, one_deeper, step, unstep, value, last}
use Rattle.grammar.proofs.Looking.{none_not, tests_tested, word_begins}
use Rattle.grammar.proofs.Turns.{deeper}
use Rattle.grammar.proofs.Lists.{Sound, Complete, Shrinks}
use Rattle.grammar.proofs.Parts.{one_token_sound, one_token_complete, telling_shrinks, telling_starts, word_sound}
use Rattle.grammar.proofs.Parts.{word_complete, word_shrinks}
use Rattle.expressions.specs.Marks.{left_parenthesis, right_parenthesis, left_of, left_in, right_in, begins_left}
use Rattle.expressions.specs.Looking.{past_parentheses}
use Rattle.expressions.proofs.Exact.Balance.{Even, word_even, enclosed_even, without_even, parentheses_passed}
use Rattle.conditions.specs.Conditions as g
use Rattle.conditions.specs.Conditions.{goes_on, goes_on_after}
use Rattle.conditions.specs.Laws.{ToDepth, OnlyToDepth}
use Rattle.conditions.proofs.Exact.Levels.{disjunction_sound, disjunction_complete, disjunction_shrinks}
use Rattle.conditions.proofs.Exact.Levels.{disjunction_even}
use Rattle.conditions.proofs.Exact.Plain.{plain_sound, plain_complete, plain_begins, plain_shrinks, plain_even}

-- ---- NOT and parentheses

left_no_word : (word : Reserved) (kind : Kind) (u : Unit {0}) → left_of kind ≡ Some u → is_kind word kind ≡ false
left_no_word word (k.Reserved _) u e = absurd (none_not e)
left_no_word word (k.Word characters) u e = refl
left_no_word word (k.Numeric number) u e = refl
left_no_word word (k.Nonnumeric bytes) u e = refl
left_no_word word (k.Picture characters) u e = refl
left_no_word word k.Period u e = refl
left_no_word word k.LeftParenthesis u e = refl
left_no_word word k.RightParenthesis u e = refl
left_no_word word k.Colon u e = refl
left_no_word word (k.Operator operator) u e = refl

pub left_begins : (word : Reserved) (i rest : List Token) → left_parenthesis i rest → begins_word word i ≡ false
left_begins word i rest (first, is, tell) = ap (begins_word word) is ∙ left_no_word word first.kind tt tell

module _ (simple : Condition → Part) (even : (x : Condition) → Even (simple x)) where
  negation_shrinks : Shrinks simple → Shrinks (g.negation simple)
  negation_shrinks fewer x i rest (inner, is, (i1, first, s)) = let a = word_shrinks w.Not i i1 first in let b =
      fewer inner i1 rest s in omega arith

  enclosed_shrinks : Shrinks simple → Shrinks (g.parenthesized_condition simple)
  enclosed_shrinks fewer x i rest (i3, (i1, opens, (i2, s, closes)), stops) =
      let a = telling_shrinks left_in tt i i1 opens in
      let b = disjunction_shrinks simple fewer x i1 i2 s in
      let d = telling_shrinks right_in tt i2 i3 closes in
      let e = ap length stops.0 in omega arith

  negation_even : (x : Condition) → Even (g.negation simple x)
  negation_even x i rest (inner, is, (i1, first, s)) n = word_even w.Not i i1 first n ∙ even inner i1 rest s n

  enclosed_even' : (x : Condition) → Even (g.parenthesized_condition simple x)
  enclosed_even' x i rest (i1, s, stops) n =
      enclosed_even {p = g.disjunction simple x} (disjunction_even simple even x) i i1 s n
      ∙ without_even (lookahead goes_on) i1 rest stops n

  -- what closes the parenthesis of a condition is found
  pub closes : (x : Condition) (i rest : List Token)
      → (left_parenthesis then g.disjunction simple x then right_parenthesis) i rest → past_parentheses i ≡ Some rest
  closes x i rest s = parentheses_passed {p = g.disjunction simple x} (disjunction_even simple even x) i rest s

  enclosed_begins : (x : Condition) (i rest : List Token) → g.parenthesized_condition simple x i rest
      → g.begins_enclosed i ≡ true
  enclosed_begins x i rest (i1, s, stops) =
      rw (
        telling_starts left_in tt i s.0 s.1,
        ap goes_on_after (closes x i i1 s) ∙ (tests_tested goes_on).refuses i1 stops.1,
      ) refl

  nested_begins : (x : Condition) (i rest : List Token)
      → (g.negation simple x or g.parenthesized_condition simple x) i rest → g.begins_nested i ≡ true
  nested_begins x i rest (inl (inner, is, (i1, first, s))) =
      ap (λ b. b || g.begins_enclosed i) (word_begins w.Not i i1 first)
  nested_begins x i rest (inr s) = go (begins_word w.Not i) (g.begins_enclosed i) (enclosed_begins x i rest s)
    where
      go : (a b : Bool) → b ≡ true → (a || b) ≡ true
      go true b e = refl
      go false b e = e

  module _ (reader : Parser Condition) where
    negation_sound : Sound simple reader → Sound (g.negation simple) (g.negation_reader reader)
    unfolding g.negation_reader
    negation_sound each x i rest e =
        unstep (expect w.Not i) _ e (λ u i1 is1 e1.
        unstep (reader i1) _ e1 (λ inner i2 is2 e2.
        (inner, sym (value e2), (i1, word_sound w.Not u i i1 is1, each inner i1 rest (last is2 e2)))))

    parentheses_sound : Sound simple reader → (x : Condition) (i rest : List Token)
        → g.enclosed_reader reader i ≡ Ok (x, rest)
        → (left_parenthesis then g.disjunction simple x then right_parenthesis) i rest
    unfolding g.enclosed_reader
    parentheses_sound each x i rest e =
        unstep (one_token left_in i) _ e (λ u i1 is1 e1.
        unstep (g.disjunction_reader reader i1) _ e1 (λ inner i2 is2 e2.
        unstep (one_token right_in i2) _ e2 (λ v i3 is3 e3.
        subst (λ y. (left_parenthesis then g.disjunction simple y then right_parenthesis) i rest) (value e3) (
          i1,
          one_token_sound left_in u i i1 is1,
          (i2, disjunction_sound simple reader each inner i1 i2 is2, one_token_sound right_in v i2 rest (last is3 e3)),
        ))))

    enclosed_sound : Sound simple reader → (x : Condition) (i rest : List Token)
        → goes_on_after (past_parentheses i) ≡ false
        → g.enclosed_reader reader i ≡ Ok (x, rest) → g.parenthesized_condition simple x i rest
    enclosed_sound each x i rest stops e =
        let s = parentheses_sound each x i rest e in
        (rest, s, (refl, (tests_tested goes_on).fails rest (sym (ap goes_on_after (closes x i rest s)) ∙ stops)))

    nested_sound : Sound simple reader → (x : Condition) (i rest : List Token) → g.begins_nested i ≡ true
        → g.nested_reader reader i ≡ Ok (x, rest)
        → (g.negation simple x or g.parenthesized_condition simple x) i rest
    unfolding g.nested_reader
    nested_sound each x i rest begins e = go (begins_word w.Not i) begins e
      where
        stops : (a b : Bool) → (a && not b) ≡ true → b ≡ false
        stops true true e = cc
        stops true false e = refl
        stops false b e = cc

        go : (b : Bool) → (b || g.begins_enclosed i) ≡ true
            → (if b then g.negation_reader reader i else g.enclosed_reader reader i) ≡ Ok (x, rest)
            → (g.negation simple x or g.parenthesized_condition simple x) i rest
        go true begins e = inl (negation_sound each x i rest e)
        go false begins e =
            inr (enclosed_sound each x i rest (stops (begins_left i) (goes_on_after (past_parentheses i)) begins) e)

    module _ (Allowed : Halt → Type 0) (each : Complete Allowed simple reader) (fewer : Shrinks simple) where
      nested_complete : (x : Condition) (i rest : List Token)
          → (g.negation simple x or g.parenthesized_condition simple x) i rest
          → Answers Allowed (g.nested_reader reader i) x rest
      unfolding g.nested_reader g.negation_reader g.enclosed_reader
      nested_complete x i rest (inl (inner, is, (i1, first, s))) =
          subst (λ y. Answers Allowed (g.nested_reader reader i) y rest) (sym is)
          (rw (word_begins w.Not i i1 first)
          (step (expect w.Not i) _ (word_complete w.Not tt i i1 first)
          (step (reader i1) _ (each inner i1 rest s) (Reached refl))))
      nested_complete x i rest (inr (i3, (i1, opens, (i2, s, closes)), stops)) =
          subst (λ j. Answers Allowed (g.nested_reader reader i) x j) stops.0
          (rw (left_begins w.Not i i1 opens)
          (step (one_token left_in i) _ (one_token_complete left_in tt i i1 opens)
          (step (g.disjunction_reader reader i1) _ (disjunction_complete simple reader Allowed each fewer x i1 i2 s)
          (step (one_token right_in i2) _ (one_token_complete right_in tt i2 i3 closes) (Reached refl)))))

-- ---- simple conditions

pub simple_even : (depth : ℕ) (x : Condition) → Even (g.simple depth x)
simple_even zero x i rest s n = plain_even zero x i rest s n
simple_even (suc depth) x i rest (inl s) n = plain_even (suc depth) x i rest s n
simple_even (suc depth) x i rest (inr (inl s)) n = negation_even (g.simple depth) (simple_even depth) x i rest s n
simple_even (suc depth) x i rest (inr (inr s)) n = enclosed_even' (g.simple depth) (simple_even depth) x i rest s n

simple_shrinks : (depth : ℕ) → Shrinks (g.simple depth)
simple_shrinks zero x i rest s = plain_shrinks zero x i rest s
simple_shrinks (suc depth) x i rest (inl s) = plain_shrinks (suc depth) x i rest s
simple_shrinks (suc depth) x i rest (inr (inl s)) =
    negation_shrinks (g.simple depth) (simple_even depth) (simple_shrinks depth) x i rest s
simple_shrinks (suc depth) x i rest (inr (inr s)) =
    enclosed_shrinks (g.simple depth) (simple_even depth) (simple_shrinks depth) x i rest s

simple_sound : (depth : ℕ) → Sound (g.simple depth) (g.simple_reader depth)
unfolding g.simple_reader
simple_sound zero x i rest e = go (g.begins_nested i) e
  where
    go : (b : Bool) → (if b then Err (TooDeep (length i)) else g.plain_reader zero i) ≡ Ok (x, rest)
        → g.simple_condition zero x i rest
    go true e = cc
    go false e = plain_sound zero x i rest e
simple_sound (suc depth) x i rest e =
    go (λ begins inner. nested_sound (g.simple depth) (simple_even depth) (g.simple_reader depth) (simple_sound depth) x
    i rest begins inner) (g.begins_nested i) refl e
  where
    go : (g.begins_nested i ≡ true → g.nested_reader (g.simple_reader depth) i ≡ Ok (x, rest)
        → (g.negation (g.simple depth) x or g.parenthesized_condition (g.simple depth) x) i rest)
        → (b : Bool) → g.begins_nested i ≡ b
        → (if b then g.nested_reader (g.simple_reader depth) i else g.plain_reader (suc depth) i) ≡ Ok (x, rest)
        → g.simple (suc depth) x i rest
    go nested true is e = inr (nested is e)
    go nested false is e = inl (plain_sound (suc depth) x i rest e)

-- Reading to a depth answers what is spelled to a greater one, or that it nests too deep.
simple_complete : (depth depth' : ℕ) → Complete (Deeper depth depth') (g.simple depth') (g.simple_reader depth)
unfolding g.simple_reader
simple_complete zero zero x i rest s = rw (plain_begins zero x i rest s) (plain_complete zero zero x i rest s)
simple_complete (suc depth) zero x i rest s =
    rw (plain_begins zero x i rest s) (plain_complete (suc depth) zero x i rest s)
simple_complete zero (suc n) x i rest (inl s) =
    rw (plain_begins (suc n) x i rest s) (plain_complete zero (suc n) x i rest s)
simple_complete (suc depth) (suc n) x i rest (inl s) =
    rw (plain_begins (suc n) x i rest s) (plain_complete (suc depth) (suc n) x i rest s)
simple_complete zero (suc n) x i rest (inr s) =
    rw (nested_begins (g.simple n) (simple_even n) x i rest s) (Halts (TooDeep (length i)) (omega arith) refl)
simple_complete (suc depth) (suc n) x i rest (inr s) =
    rw (nested_begins (g.simple n) (simple_even n) x i rest s)
    (nested_complete (g.simple n) (simple_even n) (g.simple_reader depth) (Deeper (suc depth) (suc n))
    (λ y j l t. allow (one_deeper depth n) (simple_complete depth n y j l t)) (simple_shrinks n) x i rest s)

-- ---- conditions

pub condition_sound : (depth : ℕ) → Sound (g.condition depth) (g.condition_reader depth)
unfolding g.condition_reader
condition_sound depth = disjunction_sound (g.simple depth) (g.simple_reader depth) (simple_sound depth)

pub condition_complete : (depth depth' : ℕ)
    → Complete (Deeper depth depth') (g.condition depth') (g.condition_reader depth)
unfolding g.condition_reader
condition_complete depth depth' =
    disjunction_complete (g.simple depth') (g.simple_reader depth) (Deeper depth depth') (simple_complete depth depth')
    (simple_shrinks depth')

pub condition_shrinks : (depth : ℕ) → Shrinks (g.condition depth)
condition_shrinks depth = disjunction_shrinks (g.simple depth) (simple_shrinks depth)

pub condition_even : (depth : ℕ) (x : Condition) → Even (g.condition depth x)
condition_even depth = disjunction_even (g.simple depth) (simple_even depth)

pub to_depth : {A : Type 0} (p : ℕ → A → Part) (reader : ℕ → Parser A)
    → ((depth depth' : ℕ) → Complete (Deeper depth depth') (p depth') (reader depth)) → ToDepth p reader
to_depth p reader complete depth depth' one from rest s = go (complete depth depth' one from rest s)
  where
    go : Answers (Deeper depth depth') (reader depth from) one rest
        → (reader depth from ≡ Ok (one, rest))
        ⊎ ((depth < depth') × (left : ℕ) × (reader depth from ≡ Err (TooDeep left)))
    go (Reached e) = inl e
    go (Halts (TooDeep behind) deep e) = inr (deep, behind, e)
    go (Halts (Unexpected behind) none e) = absurd none

pub only_to_depth : OnlyToDepth
only_to_depth = to_depth g.condition g.condition_reader condition_complete

-- ---- reading a simple condition, by how it begins and the depth

pub reads_plain : (depth : ℕ) (i : List Token) → g.begins_nested i ≡ false
    → g.simple_reader depth i ≡ g.plain_reader depth i
unfolding g.simple_reader
reads_plain zero i e = ap (λ b. if b then Err (TooDeep (length i)) else g.plain_reader zero i) e
reads_plain (suc depth) i e =
    ap (λ b. if b then g.nested_reader (g.simple_reader depth) i else g.plain_reader (suc depth) i) e

pub reads_too_deep : (depth : ℕ) (i : List Token) → depth ≡ 0 → g.begins_nested i ≡ true
    → g.simple_reader depth i ≡ Err (TooDeep (length i))
unfolding g.simple_reader
reads_too_deep zero i none e = ap (λ b. if b then Err (TooDeep (length i)) else g.plain_reader zero i) e
reads_too_deep (suc depth) i none e = absurd (omega arith)

pub reads_nested : (depth : ℕ) (i : List Token) → 0 < depth → g.begins_nested i ≡ true
    → g.simple_reader depth i ≡ g.nested_reader (g.simple_reader (depth - 1)) i
unfolding g.simple_reader
reads_nested depth i some e =
    deeper (λ n. g.simple_reader n i) depth some
    ∙ ap (λ b. if b then g.nested_reader (g.simple_reader (depth - 1)) i else g.plain_reader (suc (depth - 1)) i) e
