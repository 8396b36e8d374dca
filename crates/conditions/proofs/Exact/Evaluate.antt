-- Selection subjects and objects: what is read is spelled, and what is spelled is read.
use Rattle.std.proofs.Common.{◌≡◌, ◌<◌, ◌≤◌, ℕ, zero, suc, Bool, true, false, if◌then◌else◌, List, length, Option, Some}
use Rattle.std.proofs.Common.{None, Ok, inl, inr, refl, sym, ap, ◌∙◌, subst, arith}
use Rattle.std.specs.Prelude.{◌||◌, Err}
use Rattle.tokens.specs.declared.reserved.Reserved.{Reserved}
use Rattle.tokens.specs.declared.reserved.Reserved.TheVariants as w
use Rattle.tokens.specs.declared.token.Token.{Token}
use Rattle.tokens.specs.Reserved.{same_word}
use Rattle.source_tree.specs.declared.condition.Side.{Side}
use Rattle.source_tree.specs.declared.condition.Condition.{Condition}
use Rattle.source_tree.specs.declared.evaluate_statement.Subject.{Subject}
use Rattle.source_tree.specs.declared.evaluate_statement.Subject.TheVariants as subject_as
use Rattle.source_tree.specs.declared.evaluate_statement.Choice.{Choice}
use Rattle.source_tree.specs.declared.evaluate_statement.Choice.TheVariants as choice_as
use Rattle.grammar.specs.declared.fault.Halt.{Halt}
use Rattle.grammar.specs.declared.fault.Halt.TheVariants.{TooDeep, Unexpected}
use Rattle.grammar.specs.Parts.{Part, absence_of, optional_part, word}
use Rattle.grammar.specs.Reading as r
use Rattle.grammar.specs.Reading.{Outcome, pure, begins_word, after_word, expect}
use Rattle.grammar.proofs.Outcomes.{Answers, Reached, Halts, Deeper, step, unstep, value, after, last}
use Rattle.grammar.proofs.Looking.{true_not_false, tests_tested, finds_word, word_begins, begins_no_other}
use Rattle.grammar.proofs.Lists.{Sound, Complete, Shrinks}
use Rattle.grammar.proofs.Parts.{word_sound, word_complete, word_shrinks, stands_sound, stands_complete, here_sound}
use Rattle.grammar.proofs.Parts.{here_complete}
use Rattle.expressions.proofs.Exact.Laws.{Never}
use Rattle.expressions.proofs.Exact.References.{reference_starts}
use Rattle.conditions.specs.Conditions as c
use Rattle.conditions.specs.Evaluate as g
use Rattle.conditions.specs.Evaluate.{in_condition}
use Rattle.conditions.proofs.Exact.Tests.{no_word}
use Rattle.conditions.proofs.Exact.Sides.{OpensNone, side_sound, side_complete, side_shrinks, side_no_word}
use Rattle.conditions.proofs.Exact.Sides.{name_no_word}
use Rattle.conditions.proofs.Exact.Conditions.{left_begins, condition_sound, condition_complete, condition_shrinks}
use Rattle.conditions.proofs.Exact.Depths.{Fits, condition_fits, condition_behind_not_fits}

-- ---- words that begin no value and no condition

-- no figurative constant, and neither ALL nor NOT
record BeginsNone (one : Reserved) : Type 0 where
  opens_none : OpensNone one
  no_not : same_word w.Not one ≡ false

true_begins_none : BeginsNone w.True
unfolding same_word
true_begins_none = record { opens_none = record { no_constant = refl; no_all = refl }; no_not = refl }

false_begins_none : BeginsNone w.False
unfolding same_word
false_begins_none = record { opens_none = record { no_constant = refl; no_all = refl }; no_not = refl }

any_begins_none : BeginsNone w.Any
unfolding same_word
any_begins_none = record { opens_none = record { no_constant = refl; no_all = refl }; no_not = refl }

module _ (one : Reserved) (none : BeginsNone one) where
  plain_no_word : (depth : ℕ) (x : Condition) (i rest : List Token) → c.simple_condition depth x i rest
      → begins_word one i ≡ false
  plain_no_word depth x i rest (inl (name, is, (i1, s, t))) =
      name_no_word one none.opens_none i (reference_starts name i i1 s)
  plain_no_word depth x i rest (inr (inl (item, negated, class, is, (i1, s, t)))) =
      name_no_word one none.opens_none i (reference_starts item i i1 s)
  plain_no_word depth x i rest (inr (inr (inl (first, relation, second, is, (i1, s, t))))) =
      side_no_word one none.opens_none depth first i i1 s
  plain_no_word depth x i rest (inr (inr (inr (v, negated, sign, is, (i1, s, t))))) =
      side_no_word one none.opens_none depth (Rattle.source_tree.specs.declared.condition.Side.TheVariants.Expression v)
      i i1 s

  simple_no_word : (depth : ℕ) (x : Condition) (i rest : List Token) → c.simple depth x i rest
      → begins_word one i ≡ false
  simple_no_word zero x i rest s = plain_no_word zero x i rest s
  simple_no_word (suc depth) x i rest (inl s) = plain_no_word (suc depth) x i rest s
  simple_no_word (suc depth) x i rest (inr (inl (inner, is, (i1, first, s)))) =
      begins_no_other w.Not one none.no_not i i1 first
  simple_no_word (suc depth) x i rest (inr (inr (i3, (i1, opens, s), t))) = left_begins one i i1 opens

  condition_no_word : (depth : ℕ) (x : Condition) (i rest : List Token) → c.condition depth x i rest
      → begins_word one i ≡ false
  condition_no_word depth x i rest (whole, others, is, (j, (first, more, is', (k, s, t')), t)) =
      simple_no_word depth first i k s

  alone_no_word : (depth : ℕ) (x : Side) (i rest : List Token) → g.alone depth x i rest → begins_word one i ≡ false
  alone_no_word depth x i rest (i1, s, t) = side_no_word one none.opens_none depth x i i1 s

  -- a value, with NOT or without
  wanted_no_word : (negated : Bool) (depth : ℕ) (x : Side) (i i1 rest : List Token)
      → optional_part (word w.Not) negated i i1 → g.alone depth x i1 rest → begins_word one i ≡ false
  wanted_no_word true depth x i i1 rest first s = begins_no_other w.Not one none.no_not i i1 first
  wanted_no_word false depth x i i1 rest (same, nowhere) s = ap (begins_word one) same ∙ alone_no_word depth x i1 rest s

-- neither TRUE nor FALSE
no_truth : (i : List Token) → begins_word w.True i ≡ false → begins_word w.False i ≡ false → g.begins_truth i ≡ false
no_truth i e f = rw (e, f) refl

-- ---- values

-- a value, or none to whatever depth
abbrev Found : ℕ → Option Side → Part
Found depth None = absence_of g.some_alone
Found depth (Some one) = g.alone depth one

-- where reading a side to one depth is refused, none stands to whatever depth
refused_nowhere : (depth : ℕ) (i : List Token) (behind : ℕ) → c.side_reader depth i ≡ Err (Unexpected behind)
    → (rest : List Token) → g.some_alone i rest → ⊥
refused_nowhere depth i behind is rest (depth', (one, (j, s, stops))) = go (side_complete depth depth' one i j s)
  where
    go : Answers (Deeper depth depth') (c.side_reader depth i) one j → ⊥
    go (Reached e) = cc
    go (Halts (TooDeep left) deep e) = cc
    go (Halts (Unexpected left) none e) = absurd none

-- where a side is part of a condition, none is alone to whatever depth
in_condition_nowhere : (depth : ℕ) (i : List Token) (first : Side) (middle : List Token)
    → c.side_reader depth i ≡ Ok (first, middle) → in_condition middle ≡ true
    → (rest : List Token) → g.some_alone i rest → ⊥
in_condition_nowhere depth i first middle is goes rest (depth', (one, (j, s, (same, nowhere)))) =
    go (side_complete depth depth' one i j s)
  where
    go : Answers (Deeper depth depth') (c.side_reader depth i) one j → ⊥
    go (Reached e) = true_not_false (in_condition j) ((tests_tested in_condition).refuses j nowhere)
        (ap in_condition (sym (after (sym is ∙ e))) ∙ goes)
    go (Halts (TooDeep left) deep e) = cc
    go (Halts (Unexpected left) none e) = absurd none

alone_sound : (depth : ℕ) → Sound (Found depth) (g.alone_reader depth)
unfolding g.alone_reader
alone_sound depth x i rest e = go (c.side_reader depth i) refl e
  where
    found : (first : Side) (middle : List Token) (b : Bool) → c.side_reader depth i ≡ Ok (first, middle)
        → in_condition middle ≡ b
        → (if b then pure {A = Option Side} None i else pure (Some first) middle) ≡ Ok (x, rest) → Found depth x i rest
    found first middle true is goes e =
        subst (λ y. Found depth y i rest) (value e) (after e, in_condition_nowhere depth i first middle is goes)
    found first middle false is stops e =
        subst (λ y. Found depth y i rest) (value e)
        (middle, side_sound depth first i middle is, (after e, (tests_tested in_condition).fails middle stops))

    go : (o : Outcome Side) → c.side_reader depth i ≡ o → g.alone_at i o ≡ Ok (x, rest) → Found depth x i rest
    go (Ok p) is e = found p.0 p.1 (in_condition p.1) is refl e
    go (Err (Unexpected left)) is e =
        subst (λ y. Found depth y i rest) (value e) (after e, refused_nowhere depth i left is)
    go (Err (TooDeep left)) is e = cc

alone_complete : (depth depth' : ℕ) (one : Side) (i rest : List Token) → g.alone depth' one i rest
    → Answers (Deeper depth depth') (g.alone_reader depth i) (Some one) rest
unfolding g.alone_reader
alone_complete depth depth' one i rest (j, s, (same, nowhere)) = go (side_complete depth depth' one i j s)
  where
    go : Answers (Deeper depth depth') (c.side_reader depth i) one j
        → Answers (Deeper depth depth') (g.alone_at i (c.side_reader depth i)) (Some one) rest
    go (Reached e) =
        Reached (ap (g.alone_at i) e ∙ ap (λ b. if b then pure {A = Option Side} None i else pure (Some one) j)
        ((tests_tested in_condition).refuses j nowhere) ∙ ap (λ k. Ok (Some one, k)) same)
    go (Halts (TooDeep left) deep e) = Halts (TooDeep left) deep (ap (g.alone_at i) e)
    go (Halts (Unexpected left) none e) = absurd none

none_complete : (depth depth' : ℕ) (i : List Token) → ((rest : List Token) → g.some_alone i rest → ⊥)
    → Fits depth depth' (c.side_reader depth i)
    → Answers (Deeper depth depth') (g.alone_reader depth i) None i
unfolding g.alone_reader
none_complete depth depth' i nowhere fits = go (c.side_reader depth i) refl
  where
    found : (first : Side) (middle : List Token) (b : Bool) → c.side_reader depth i ≡ Ok (first, middle)
        → in_condition middle ≡ b
        → Answers (Deeper depth depth') (if b then pure {A = Option Side} None i else pure (Some first) middle) None i
    found first middle true is goes = Reached refl
    found first middle false is stops =
        absurd (nowhere middle (
          depth,
          (first, (middle, side_sound depth first i middle is, (refl, (tests_tested in_condition).fails middle stops))),
        ))

    go : (o : Outcome Side) → c.side_reader depth i ≡ o → Answers (Deeper depth depth') (g.alone_at i o) None i
    go (Ok p) is = found p.0 p.1 (in_condition p.1) is refl
    go (Err (Unexpected left)) is = Reached refl
    go (Err (TooDeep left)) is = Halts (TooDeep left) (fits left is) refl

alone_shrinks : (depth : ℕ) → Shrinks (g.alone depth)
alone_shrinks depth one i rest (j, s, stops) = let a = side_shrinks depth one i j s in let b =
    ap length stops.0 in omega arith

-- ---- TRUE and FALSE

false_no_true : same_word w.False w.True ≡ false
unfolding same_word
false_no_true = refl

truth_sound : Sound g.truth_value g.truth_reader
unfolding g.truth_reader
truth_sound x i rest e = go (begins_word w.True i) e
  where
    go : (b : Bool) → (if b then (r.and_then (expect w.True i) (λ u j. Ok (true, j)))
        else r.and_then (expect w.False i) (λ u j. Ok (false, j))) ≡ Ok (x, rest) → g.truth_value x i rest
    go true e = unstep (expect w.True i) _ e
        (λ u i1 is1 e1. subst (λ y. g.truth_value y i rest) (value e1) (word_sound w.True u i rest (last is1 e1)))
    go false e = unstep (expect w.False i) _ e
        (λ u i1 is1 e1. subst (λ y. g.truth_value y i rest) (value e1) (word_sound w.False u i rest (last is1 e1)))

truth_complete : {Allowed : Halt → Type 0} → Complete Allowed g.truth_value g.truth_reader
unfolding g.truth_reader
truth_complete true i rest s =
    rw (word_begins w.True i rest s) (step (expect w.True i) _ (word_complete w.True tt i rest s) (Reached refl))
truth_complete false i rest s =
    rw (begins_no_other w.False w.True false_no_true i rest s)
    (step (expect w.False i) _ (word_complete w.False tt i rest s) (Reached refl))

truth_begins : (x : Bool) (i rest : List Token) → g.truth_value x i rest → g.begins_truth i ≡ true
truth_begins true i rest s = ap (λ b. b || begins_word w.False i) (word_begins w.True i rest s)
truth_begins false i rest s = rw (begins_no_other w.False w.True false_no_true i rest s) (word_begins w.False i rest s)

truth_shrinks : Shrinks g.truth_value
truth_shrinks true i rest s = word_shrinks w.True i rest s
truth_shrinks false i rest s = word_shrinks w.False i rest s

-- ---- subjects

subject_from_sound : (depth : ℕ) (x : Subject) (one : Option Side) (i i1 rest : List Token) → Found depth one i i1
    → g.subject_from depth one i1 ≡ Ok (x, rest) → g.subject depth x i rest
unfolding g.subject_condition_reader
subject_from_sound depth x (Some one) i i1 rest s e =
    subst (λ y. g.subject depth y i rest) (value e) (subst (λ j. g.alone depth one i j) (after e) s)
subject_from_sound depth x None i i1 rest (same, nowhere) e =
    unstep (c.condition_reader depth i1) _ e (λ one i2 is2 e2.
    subst (λ y. g.subject depth y i rest) (value e2)
    (subst (λ j. c.condition depth one j rest) (sym same) (condition_sound depth one i1 rest (last is2 e2)), nowhere))

pub subject_sound : (depth : ℕ) → Sound (g.subject depth) (g.subject_reader depth)
unfolding g.subject_reader g.subject_truth_reader g.subject_asked_reader
subject_sound depth x i rest e = go (g.begins_truth i) e
  where
    go : (b : Bool) → (if b then g.subject_truth_reader i else g.subject_asked_reader depth i) ≡ Ok (x, rest)
        → g.subject depth x i rest
    go true e = unstep (g.truth_reader i) _ e
        (λ one i1 is1 e1. subst (λ y. g.subject depth y i rest) (value e1) (truth_sound one i rest (last is1 e1)))
    go false e = unstep (g.alone_reader depth i) _ e
        (λ one i1 is1 e1. subject_from_sound depth x one i i1 rest (alone_sound depth one i i1 is1) e1)

pub subject_complete : (depth depth' : ℕ) → Complete (Deeper depth depth') (g.subject depth') (g.subject_reader depth)
unfolding g.subject_reader g.subject_truth_reader g.subject_asked_reader g.subject_condition_reader
subject_complete depth depth' (subject_as.Value one) i rest s =
    rw (no_truth i (alone_no_word w.True true_begins_none depth' one i rest s)
    (alone_no_word w.False false_begins_none depth' one i rest s))
    (step (g.alone_reader depth i) _ (alone_complete depth depth' one i rest s) (Reached refl))
subject_complete depth depth' (subject_as.Condition one) i rest (s, nowhere) =
    rw (no_truth i (condition_no_word w.True true_begins_none depth' one i rest s)
    (condition_no_word w.False false_begins_none depth' one i rest s))
    (step (g.alone_reader depth i) _ (none_complete depth depth' i nowhere (condition_fits depth depth' one i rest s))
    (step (c.condition_reader depth i) _ (condition_complete depth depth' one i rest s) (Reached refl)))
subject_complete depth depth' (subject_as.Truth one) i rest s =
    rw (truth_begins one i rest s)
    (step (g.truth_reader i) _ (truth_complete {Allowed = Deeper depth depth'} one i rest s) (Reached refl))

pub subject_shrinks : (depth : ℕ) → Shrinks (g.subject depth)
subject_shrinks depth (subject_as.Value one) i rest s = alone_shrinks depth one i rest s
subject_shrinks depth (subject_as.Condition one) i rest (s, nowhere) = condition_shrinks depth one i rest s
subject_shrinks depth (subject_as.Truth one) i rest s = truth_shrinks one i rest s

-- ---- THRU

through_no_thru : same_word w.Through w.Thru ≡ false
unfolding same_word
through_no_thru = refl

neither_word : (i : List Token) → begins_word w.Thru i ≡ false → begins_word w.Through i ≡ false → (behind : List Token)
    → g.thru i behind → ⊥
neither_word i is is' behind (inl s) = true_not_false (begins_word w.Thru i) is (word_begins w.Thru i behind s)
neither_word i is is' behind (inr s) = true_not_false (begins_word w.Through i) is' (word_begins w.Through i behind s)

through_sound : (depth : ℕ) (one : Reserved) (x : Option Side) (i rest : List Token)
    → ((j : List Token) → word one i j → g.thru i j)
    → g.through_by depth one i ≡ Ok (x, rest) → g.to_last depth x i rest
through_sound depth one x i rest thru e =
    unstep (expect one i) _ e (λ u i1 is1 e1.
    unstep (c.side_reader depth i1) _ e1 (λ side i2 is2 e2.
    subst (λ y. g.to_last depth y i rest) (value e2)
    (i1, thru i1 (word_sound one u i i1 is1), side_sound depth side i1 rest (last is2 e2))))

last_sound : (depth : ℕ) → Sound (g.to_last depth) (g.last_reader depth)
unfolding g.last_reader
last_sound depth x i rest e = go (begins_word w.Thru i) (begins_word w.Through i) refl refl e
  where
    go : (a b : Bool) → begins_word w.Thru i ≡ a → begins_word w.Through i ≡ b
        → (if a then g.through_by depth w.Thru i else if b then g.through_by depth w.Through i else Ok (None, i)) ≡ Ok
        (x, rest) → g.to_last depth x i rest
    go true b is is' e = through_sound depth w.Thru x i rest (λ j s. inl s) e
    go false true is is' e = through_sound depth w.Through x i rest (λ j s. inr s) e
    go false false is is' e = subst (λ y. g.to_last depth y i rest) (value e) (after e, neither_word i is is')

through_complete : (depth depth' : ℕ) (one : Reserved) (side : Side) (i i1 rest : List Token) → word one i i1
    → c.side depth' side i1 rest
    → Answers (Deeper depth depth') (g.through_by depth one i) (Some side) rest
through_complete depth depth' one side i i1 rest thru s =
    step (expect one i) _ (word_complete one tt i i1 thru)
    (step (c.side_reader depth i1) _ (side_complete depth depth' side i1 rest s) (Reached refl))

last_complete : (depth depth' : ℕ) → Complete (Deeper depth depth') (g.to_last depth') (g.last_reader depth)
unfolding g.last_reader
last_complete depth depth' None i rest s =
    rw (no_word w.Thru i (λ j stands. s.1 j (inl stands)))
    (rw (no_word w.Through i (λ j stands. s.1 j (inr stands))) (Reached (ap (λ j. Ok (None, j)) s.0)))
last_complete depth depth' (Some side) i rest (i1, inl thru, s) =
    rw (word_begins w.Thru i i1 thru) (through_complete depth depth' w.Thru side i i1 rest thru s)
last_complete depth depth' (Some side) i rest (i1, inr thru, s) =
    rw (begins_no_other w.Through w.Thru through_no_thru i i1 thru)
    (rw (word_begins w.Through i i1 thru) (through_complete depth depth' w.Through side i i1 rest thru s))

thru_shrinks : (i rest : List Token) → g.thru i rest → length rest < length i
thru_shrinks i rest (inl s) = word_shrinks w.Thru i rest s
thru_shrinks i rest (inr s) = word_shrinks w.Through i rest s

last_shrinks : (depth : ℕ) (x : Option Side) (i rest : List Token) → g.to_last depth x i rest → length rest ≤ length i
last_shrinks depth None i rest s = let l = ap length s.0 in omega arith
last_shrinks depth (Some side) i rest (i1, thru, s) = let a = thru_shrinks i i1 thru in let b =
    side_shrinks depth side i1 rest s in omega arith

-- ---- objects

-- NOT stands or not: in one way
same_not : (a b : Bool) (i j k : List Token) → optional_part (word w.Not) a i j → optional_part (word w.Not) b i k
    → j ≡ k
same_not a b i j k s t = go (stands_complete {Allowed = Never} (finds_word w.Not) a i j s)
    (stands_complete {Allowed = Never} (finds_word w.Not) b i k t)
  where
    go : Answers Never (r.presence_reader (after_word w.Not) i) a j
        → Answers Never (r.presence_reader (after_word w.Not) i) b k → j ≡ k
    go (Reached e) (Reached f) = after (sym e ∙ f)
    go (Halts halt none e) t = absurd none
    go (Reached e) (Halts halt none f) = absurd none

choice_from_sound : (depth : ℕ) (x : Choice) (negated : Bool) (one : Option Side) (i i1 i2 rest : List Token)
    → optional_part (word w.Not) negated i i1 → Found depth one i1 i2
    → g.choice_from depth i negated one i2 ≡ Ok (x, rest) → g.choice depth x i rest
unfolding g.choice_value_reader g.choice_condition_reader
choice_from_sound depth x negated (Some one) i i1 i2 rest denied s e =
    unstep (g.last_reader depth i2) _ e (λ to i3 is3 e3.
    subst (λ y. g.choice depth y i rest) (value e3) (i1, denied, (i2, s, last_sound depth to i2 rest (last is3 e3))))
choice_from_sound depth x negated None i i1 i2 rest denied (same, nowhere) e =
    unstep (c.condition_reader depth i) _ e (λ one i3 is3 e3.
    subst (λ y. g.choice depth y i rest) (value e3) (condition_sound depth one i rest (last is3 e3), none))
  where
    none : (behind : List Token) → g.some_wanted i behind → ⊥
    none behind (other, (j, denied', s)) =
        nowhere behind (subst (λ k. g.some_alone k behind) (same_not other negated i j i1 denied' denied) s)

choice_asked_sound : (depth : ℕ) (x : Choice) (i rest : List Token) → g.choice_asked_reader depth i i ≡ Ok (x, rest)
    → g.choice depth x i rest
unfolding g.choice_asked_reader
choice_asked_sound depth x i rest e =
    unstep (r.presence_reader (after_word w.Not) i) _ e (λ negated i1 is1 e1.
    unstep (g.alone_reader depth i1) _ e1 (λ one i2 is2 e2.
    choice_from_sound depth x negated one i i1 i2 rest (stands_sound (finds_word w.Not) negated i i1 is1)
    (alone_sound depth one i1 i2 is2) e2))

choice_sound : (depth : ℕ) → Sound (g.choice depth) (g.choice_reader depth)
unfolding g.choice_reader g.choice_any_reader g.choice_truth_reader
choice_sound depth x i rest e = go (begins_word w.Any i) (g.begins_truth i) e
  where
    go : (a b : Bool) → (if a then g.choice_any_reader i else if b then g.choice_truth_reader i
        else g.choice_asked_reader depth i i) ≡ Ok (x, rest) → g.choice depth x i rest
    go true b e = unstep (expect w.Any i) _ e
        (λ u i1 is1 e1. subst (λ y. g.choice depth y i rest) (value e1) (word_sound w.Any u i rest (last is1 e1)))
    go false true e = unstep (g.truth_reader i) _ e
        (λ one i1 is1 e1. subst (λ y. g.choice depth y i rest) (value e1) (truth_sound one i rest (last is1 e1)))
    go false false e = choice_asked_sound depth x i rest e

-- a truth begins with neither of the others
true_no_any : same_word w.True w.Any ≡ false
unfolding same_word
true_no_any = refl

false_no_any : same_word w.False w.Any ≡ false
unfolding same_word
false_no_any = refl

truth_no_any : (x : Bool) (i rest : List Token) → g.truth_value x i rest → begins_word w.Any i ≡ false
truth_no_any true i rest s = begins_no_other w.True w.Any true_no_any i rest s
truth_no_any false i rest s = begins_no_other w.False w.Any false_no_any i rest s

-- neither ANY nor TRUE nor FALSE comes first
asked_read : (depth : ℕ) (i : List Token) → ((one : Reserved) → BeginsNone one → begins_word one i ≡ false)
    → g.choice_reader depth i ≡ g.choice_asked_reader depth i i
unfolding g.choice_reader
asked_read depth i none = rw (none w.Any any_begins_none)
    (rw (no_truth i (none w.True true_begins_none) (none w.False false_begins_none)) refl)

behind_not : (depth : ℕ) (i i1 : List Token) (negated : Bool) → ((rest : List Token) → g.some_wanted i rest → ⊥)
    → optional_part (word w.Not) negated i i1
    → (rest : List Token) → g.some_alone i1 rest → ⊥
behind_not depth i i1 negated nowhere denied rest s = nowhere rest (negated, (i1, denied, s))

condition_choice_complete : (depth depth' : ℕ) (one : Condition) (negated : Bool) (i i1 rest : List Token)
    → c.condition depth' one i rest → ((rest : List Token) → g.some_wanted i rest → ⊥)
    → optional_part (word w.Not) negated i i1
    → Answers (Deeper depth depth') (g.choice_asked_reader depth i i) (choice_as.Condition one) rest
unfolding g.choice_asked_reader g.choice_condition_reader
condition_choice_complete depth depth' one negated i i1 rest s nowhere denied =
    step (r.presence_reader (after_word w.Not) i) _
    (stands_complete {Allowed = Deeper depth depth'} (finds_word w.Not) negated i i1 denied)
    (step (g.alone_reader depth i1) _ (none_complete depth depth' i1 (behind_not depth i i1 negated nowhere denied)
    (condition_behind_not_fits depth depth' one negated i i1 rest denied s))
    (step (c.condition_reader depth i) _ (condition_complete depth depth' one i rest s) (Reached refl)))

-- NOT stands or not
some_not : (i : List Token) → (negated : Bool) × (i1 : List Token) × optional_part (word w.Not) negated i i1
unfolding r.presence_reader
some_not i = go (after_word w.Not i) refl
  where
    go : (o : Option (List Token)) → after_word w.Not i ≡ o
        → (negated : Bool) × (i1 : List Token) × optional_part (word w.Not) negated i i1
    go None is = (false, i, stands_sound (finds_word w.Not) false i i (ap (λ o. r.stands_at o i) is))
    go (Some j) is = (true, j, stands_sound (finds_word w.Not) true i j (ap (λ o. r.stands_at o i) is))

value_choice_complete : (depth depth' : ℕ) (negated : Bool) (first : Side) (to : Option Side) (i rest : List Token)
    → g.choice depth' (choice_as.Value negated first to) i rest
    → Answers (Deeper depth depth') (g.choice_asked_reader depth i i) (choice_as.Value negated first to) rest
unfolding g.choice_asked_reader g.choice_value_reader
value_choice_complete depth depth' negated first to i rest (i1, denied, (i2, s, t)) =
    step (r.presence_reader (after_word w.Not) i) _
    (stands_complete {Allowed = Deeper depth depth'} (finds_word w.Not) negated i i1 denied)
    (step (g.alone_reader depth i1) _ (alone_complete depth depth' first i1 i2 s)
    (step (g.last_reader depth i2) _ (last_complete depth depth' to i2 rest t) (Reached refl)))

choice_complete : (depth depth' : ℕ) → Complete (Deeper depth depth') (g.choice depth') (g.choice_reader depth)
unfolding g.choice_reader g.choice_any_reader g.choice_truth_reader
choice_complete depth depth' choice_as.Any i rest s =
    rw (word_begins w.Any i rest s) (step (expect w.Any i) _ (word_complete w.Any tt i rest s) (Reached refl))
choice_complete depth depth' (choice_as.Value negated first to) i rest (i1, denied, (i2, s, t)) =
    subst (λ o. Answers (Deeper depth depth') o (choice_as.Value negated first to) rest)
    (sym (asked_read depth i (λ one none. wanted_no_word one none negated depth' first i i1 i2 denied s)))
    (value_choice_complete depth depth' negated first to i rest (i1, denied, (i2, s, t)))
choice_complete depth depth' (choice_as.Condition one) i rest (s, nowhere) =
    let n = some_not i in
    subst (λ o. Answers (Deeper depth depth') o (choice_as.Condition one) rest)
    (sym (asked_read depth i (λ word none. condition_no_word word none depth' one i rest s)))
    (condition_choice_complete depth depth' one n.0 i n.1 rest s nowhere n.2)
choice_complete depth depth' (choice_as.Truth one) i rest s =
    rw (truth_no_any one i rest s)
    (rw (truth_begins one i rest s)
    (step (g.truth_reader i) _ (truth_complete {Allowed = Deeper depth depth'} one i rest s) (Reached refl)))

not_shrinks : (negated : Bool) (i rest : List Token) → optional_part (word w.Not) negated i rest
    → length rest ≤ length i
not_shrinks true i rest s = let l = word_shrinks w.Not i rest s in omega arith
not_shrinks false i rest s = let l = ap length s.0 in omega arith

choice_shrinks : (depth : ℕ) → Shrinks (g.choice depth)
choice_shrinks depth choice_as.Any i rest s = word_shrinks w.Any i rest s
choice_shrinks depth (choice_as.Value negated first to) i rest (i1, denied, (i2, s, t)) =
    let a = not_shrinks negated i i1 denied in
    let b = alone_shrinks depth first i1 i2 s in
    let d = last_shrinks depth to i2 rest t in omega arith
choice_shrinks depth (choice_as.Condition one) i rest (s, nowhere) = condition_shrinks depth one i rest s
choice_shrinks depth (choice_as.Truth one) i rest s = truth_shrinks one i rest s

-- ---- with their places

pub object_sound : (depth : ℕ) → Sound (g.object depth) (g.object_reader depth)
unfolding g.object_reader
object_sound depth x i rest e =
    unstep (r.here i) _ e (λ place i1 is1 e1.
    unstep (g.choice_reader depth i1) _ e1 (λ one i2 is2 e2.
    subst (λ y. g.object depth y i rest) (value e2)
    (i1, here_sound place i i1 is1, choice_sound depth one i1 rest (last is2 e2))))

pub object_complete : (depth depth' : ℕ) → Complete (Deeper depth depth') (g.object depth') (g.object_reader depth)
unfolding g.object_reader
object_complete depth depth' x i rest (i1, at, s) =
    step (r.here i) _ (here_complete {Allowed = Deeper depth depth'} x.place i i1 at)
    (step (g.choice_reader depth i1) _ (choice_complete depth depth' x.choice i1 rest s) (Reached refl))

pub object_shrinks : (depth : ℕ) → Shrinks (g.object depth)
object_shrinks depth x i rest (i1, at, s) = let a = choice_shrinks depth x.choice i1 rest s in let b =
    ap length at.0 in omega arith
