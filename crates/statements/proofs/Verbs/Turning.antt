-- How often PERFORM performs: what is read is spelled, and what is spelled is read.
use Rattle.std.proofs.Common.{◌≡◌, ◌≤◌, ℕ, Bool, true, false, List, length, Option, Some, None, Ok, inl, inr, refl, sym}
use Rattle.std.proofs.Common.{ap, ◌∙◌, subst, arith}
use Rattle.std.specs.Prelude.{◌||◌, is_some, if◌then◌else◌}
use Rattle.tokens.specs.declared.reserved.Reserved.{Reserved}
use Rattle.tokens.specs.declared.reserved.Reserved.TheVariants as w
use Rattle.tokens.specs.declared.token.Token.{Token}
use Rattle.source_tree.specs.declared.name.Name.{Name}
use Rattle.source_tree.specs.declared.literal.Integer.{Integer}
use Rattle.source_tree.specs.declared.reference.Reference.{Reference}
use Rattle.source_tree.specs.declared.perform_statement.Repetition.{Repetition}
use Rattle.source_tree.specs.declared.perform_statement.Repetition.TheVariants.{Once, Times, CountedBy}
use Rattle.source_tree.specs.declared.perform_statement.Repetition.TheVariants.{Until as Through}
use Rattle.source_tree.specs.declared.until.TestTime.{TestTime}
use Rattle.source_tree.specs.declared.until.Varying.{Varying}
use Rattle.source_tree.specs.declared.until.Until.{Until}
use Rattle.grammar.specs.declared.fault.Halt.{Halt}
use Rattle.grammar.specs.Parts.{is_told, word, name_in, begins_name}
use Rattle.grammar.specs.Reading as read
use Rattle.grammar.specs.Reading.{after_word, begins_word}
use Rattle.grammar.proofs.Outcomes.{Answers, Reached, step, unstep, value, after, last}
use Rattle.grammar.proofs.Looking.{Finds, none_not, is_absent, is_missing, finds_word, finds_past, tests_tested}
use Rattle.grammar.proofs.Looking.{true_not_false, word_begins}
use Rattle.grammar.proofs.Lists.{Sound, Complete, Shrinks}
use Rattle.grammar.proofs.Parts.{word_sound, word_complete, word_shrinks, skip_shrinks, one_token_sound}
use Rattle.grammar.proofs.Parts.{one_token_complete, telling_shrinks}
use Rattle.expressions.specs.References.{reference, reference_reader}
use Rattle.expressions.specs.Operands.{number_operand_reader}
use Rattle.expressions.specs.Subscripts.{integer, integer_by, integer_in, begins_integer, integer_reader}
use Rattle.expressions.specs.Looking.{reference_before, after_reference_before}
use Rattle.expressions.proofs.Exact.Marks.{begins_not, name_integer, either, neither}
use Rattle.expressions.proofs.Exact.References.{reference_sound, reference_complete, reference_shrinks}
use Rattle.expressions.proofs.Exact.References.{reference_starts}
use Rattle.expressions.proofs.Exact.Operands.{number_operand_sound, number_operand_complete, number_operand_shrinks}
use Rattle.expressions.proofs.Exact.Subscripts.{integer_sound, integer_complete, integer_shrinks, integer_starts}
use Rattle.expressions.proofs.Exact.Leads.{reference_before_found}
use Rattle.conditions.specs.Conditions.{condition, condition_reader}
use Rattle.conditions.proofs.Exact.Tests.{no_word}
use Rattle.conditions.proofs.Exact.Conditions.{condition_sound, condition_shrinks}
use Rattle.statements.specs.Turning as rule
use Rattle.statements.specs.Turning.{time_in, after_with_test, time_at, test_reader, varied_reader, some_varied_reader}
use Rattle.statements.specs.Turning.{varying_reader, begins_until, begins_turns, until_reader, times_reader}
use Rattle.statements.specs.Turning.{counted_reader, turns_reader}
use Rattle.statements.specs.Performing.{begins_procedures}
use Rattle.statements.proofs.Except.{no_first as first_fails, second as second_holds}
use Rattle.statements.proofs.Standing.{word_no_name}

-- ---- TEST

finds_with_test : Finds rule.with_test after_with_test
unfolding after_with_test
finds_with_test = finds_past w.With (word w.Test) (after_word w.Test) (finds_word w.Test)

test_sound : Sound rule.test test_reader
unfolding test_reader
test_sound x i rest e = go (after_with_test i) refl e
  where
    go : (o : Option (List Token)) → after_with_test i ≡ o → time_at o i ≡ Ok (x, rest) → rule.test x i rest
    go None is e = inr (sym (value e), (after e, is_absent finds_with_test i is))
    go (Some m) is e = inl (m, finds_with_test.found i m is, one_token_sound time_in x m rest e)

test_complete : {Allowed : Halt → Type 0} → Complete Allowed rule.test test_reader
unfolding test_reader
test_complete x i rest (inl (m, words, told)) =
    rw (finds_with_test.stands i m words) (one_token_complete time_in x m rest told)
test_complete x i rest (inr (is, out)) =
    rw (is_missing finds_with_test i out.1) (Reached (ap (λ y. Ok (y, i)) (sym is) ∙ ap (λ j. Ok (x, j)) out.0))

test_shrinks : (x : TestTime) (i rest : List Token) → rule.test x i rest → length rest ≤ length i
test_shrinks x i rest (inl (m, (j, with_word, test_word), told)) =
    let a = skip_shrinks w.With i j with_word in
    let b = word_shrinks w.Test j m test_word in
    let c = telling_shrinks time_in x m rest told in omega arith
test_shrinks x i rest (inr (is, out)) = let l = ap length out.0 in omega arith

-- ---- VARYING

varied_sound : Sound rule.varying_phrase varied_reader
unfolding varied_reader
varied_sound x i rest e =
    unstep (read.expect w.Varying i) _ e (λ u i1 is1 e1.
    unstep (reference_reader i1) _ e1 (λ item i2 is2 e2.
    unstep (read.expect w.From i2) _ e2 (λ t i3 is3 e3.
    unstep (number_operand_reader i3) _ e3 (λ from i4 is4 e4.
    unstep (read.expect w.By i4) _ e4 (λ v i5 is5 e5.
    unstep (number_operand_reader i5) _ e5 (λ by i6 is6 e6.
    subst (λ y. rule.varying_phrase y i rest) (value e6) (
      i1,
      word_sound w.Varying u i i1 is1,
      (
        i2,
        reference_sound item i1 i2 is2,
        (
          i3,
          word_sound w.From t i2 i3 is3,
          (
            i4,
            number_operand_sound from i3 i4 is4,
            (i5, word_sound w.By v i4 i5 is5, number_operand_sound by i5 rest (last is6 e6)),
          ),
        ),
      ),
    )))))))

varied_complete : {Allowed : Halt → Type 0} → Complete Allowed rule.varying_phrase varied_reader
unfolding varied_reader
varied_complete x i rest (i1, first, (i2, item, (i3, from_word, (i4, from, (i5, by_word, by))))) =
    step (read.expect w.Varying i) _ (word_complete w.Varying tt i i1 first)
    (step (reference_reader i1) _ (reference_complete x.item i1 i2 item)
    (step (read.expect w.From i2) _ (word_complete w.From tt i2 i3 from_word)
    (step (number_operand_reader i3) _ (number_operand_complete x.from i3 i4 from)
    (step (read.expect w.By i4) _ (word_complete w.By tt i4 i5 by_word)
    (step (number_operand_reader i5) _ (number_operand_complete x.by i5 rest by) (Reached refl))))))

varied_shrinks : Shrinks rule.varying_phrase
varied_shrinks x i rest (i1, first, (i2, item, (i3, from_word, (i4, from, (i5, by_word, by))))) =
    let a = word_shrinks w.Varying i i1 first in
    let b = reference_shrinks x.item i1 i2 item in
    let c = word_shrinks w.From i2 i3 from_word in
    let d = number_operand_shrinks x.from i3 i4 from in
    let f = word_shrinks w.By i4 i5 by_word in
    let g = number_operand_shrinks x.by i5 rest by in omega arith

varying_sound : Sound rule.optional_varying varying_reader
unfolding varying_reader some_varied_reader
varying_sound x i rest e = go (begins_word w.Varying i) refl e
  where
    go : (b : Bool) → begins_word w.Varying i ≡ b → (if b then some_varied_reader i else Ok (None, i)) ≡ Ok (x, rest)
        → rule.optional_varying x i rest
    go true is e =
        unstep (varied_reader i) _ e (λ one i1 is1 e1.
        subst (λ y. rule.optional_varying y i rest) (value e1) (varied_sound one i rest (last is1 e1)))
    go false is e =
        subst (λ y. rule.optional_varying y i rest) (value e)
        (after e, λ behind stands. true_not_false (begins_word w.Varying i) is (word_begins w.Varying i behind stands))

varying_complete : {Allowed : Halt → Type 0} → Complete Allowed rule.optional_varying varying_reader
unfolding varying_reader some_varied_reader
varying_complete None i rest s = rw (no_word w.Varying i s.1) (Reached (ap (λ j. Ok (None, j)) s.0))
varying_complete (Some one) i rest s =
    rw (word_begins w.Varying i s.0 s.1) (step (varied_reader i) _ (varied_complete one i rest s) (Reached refl))

varying_shrinks : (x : Option Varying) (i rest : List Token) → rule.optional_varying x i rest → length rest ≤ length i
varying_shrinks None i rest s = let l = ap length s.0 in omega arith
varying_shrinks (Some one) i rest s = let a = varied_shrinks one i rest s in omega arith

-- ---- UNTIL

until_sound : (depth : ℕ) → Sound (rule.turns depth) (until_reader depth)
unfolding until_reader
until_sound depth x i rest e =
    unstep (test_reader i) _ e (λ when i1 is1 e1.
    unstep (varying_reader i1) _ e1 (λ what i2 is2 e2.
    unstep (read.expect w.Until i2) _ e2 (λ u i3 is3 e3.
    unstep (condition_reader depth i3) _ e3 (λ asked i4 is4 e4.
    subst (λ y. rule.turns depth y i rest) (value e4) (
      i1,
      test_sound when i i1 is1,
      (
        i2,
        varying_sound what i1 i2 is2,
        (i3, word_sound w.Until u i2 i3 is3, condition_sound depth asked i3 rest (last is4 e4)),
      ),
    )))))

until_complete : (Allowed : Halt → Type 0) (depth depth' : ℕ)
    → Complete Allowed (condition depth') (condition_reader depth)
    → (x : Until) (i rest : List Token) → rule.until depth' x i rest
    → Answers Allowed (until_reader depth i) (Through x) rest
unfolding until_reader
until_complete Allowed depth depth' asks x i rest (i1, when, (i2, what, (i3, until_word, asked))) =
    step (test_reader i) _ (test_complete x.test i i1 when)
    (step (varying_reader i1) _ (varying_complete x.varying i1 i2 what)
    (step (read.expect w.Until i2) _ (word_complete w.Until tt i2 i3 until_word)
    (step (condition_reader depth i3) _ (asks x.condition i3 rest asked) (Reached refl))))

until_shrinks : (depth : ℕ) → Shrinks (rule.until depth)
until_shrinks depth x i rest (i1, when, (i2, what, (i3, until_word, asked))) =
    let a = test_shrinks x.test i i1 when in
    let b = varying_shrinks x.varying i1 i2 what in
    let c = word_shrinks w.Until i2 i3 until_word in
    let d = condition_shrinks depth x.condition i3 rest asked in omega arith

-- where the second, the third or the last of four tests holds
second : (a b c d : Bool) → b ≡ true → (a || b || c || d) ≡ true
second true b c d e = refl
second false true c d e = refl
second false false c d e = cc

third : (a b c d : Bool) → c ≡ true → (a || b || c || d) ≡ true
third true b c d e = refl
third false true c d e = refl
third false false true d e = refl
third false false false d e = cc

fourth : (a b c d : Bool) → d ≡ true → (a || b || c || d) ≡ true
fourth a b c d e = either (a || b || c) d e

-- a reserved word comes first, one of those that begin the phrase
Opens : List Token → Type 0
Opens i = (one : Reserved) × (behind : List Token) × word one i behind × (begins_until i ≡ true)

with_opens : (i behind : List Token) → word w.With i behind → Opens i
unfolding Opens
with_opens i behind s = (w.With, behind, s, rw (word_begins w.With i behind s) refl)

test_opens : (i behind : List Token) → word w.Test i behind → Opens i
unfolding Opens
test_opens i behind s = (
  w.Test,
  behind,
  s,
  second (begins_word w.With i) (begins_word w.Test i) (begins_word w.Varying i) (begins_word w.Until i)
      (word_begins w.Test i behind s),
)

varying_opens : (i behind : List Token) → word w.Varying i behind → Opens i
unfolding Opens
varying_opens i behind s = (
  w.Varying,
  behind,
  s,
  third (begins_word w.With i) (begins_word w.Test i) (begins_word w.Varying i) (begins_word w.Until i)
      (word_begins w.Varying i behind s),
)

until_opens : (i behind : List Token) → word w.Until i behind → Opens i
unfolding Opens
until_opens i behind s = (
  w.Until,
  behind,
  s,
  fourth (begins_word w.With i) (begins_word w.Test i) (begins_word w.Varying i) (begins_word w.Until i)
      (word_begins w.Until i behind s),
)

phrase_opens : (depth : ℕ) (x : Until) (i rest : List Token) → rule.until depth x i rest → Opens i
phrase_opens depth x i rest (i1, inl (m, (j, inl with_word, test_word), told), more) = with_opens i j with_word
phrase_opens depth x i rest (i1, inl (m, (j, inr out, test_word), told), more) =
    subst Opens (sym out.0) (test_opens j m test_word)
phrase_opens depth x i rest (i1, inr (is, out), (i2, what, (i3, until_word, asked))) =
    subst Opens (sym out.0) (go x.varying what)
  where
    go : (one : Option Varying) → rule.optional_varying one i1 i2 → Opens i1
    go None s = subst Opens (sym s.0) (until_opens i2 i3 until_word)
    go (Some one) s = varying_opens i1 s.0 s.1

opens_phrase : (i : List Token) → Opens i → begins_until i ≡ true
unfolding Opens
opens_phrase i (one, behind, s, begins) = begins

opens_no_integer : (i : List Token) → Opens i → begins_integer i ≡ false
unfolding Opens
opens_no_integer i (one, behind, (first, is, kind), begins) =
    ap begins_integer is ∙ ap (λ k. is_told (integer_by k first.place)) kind

-- ---- no name begins the phrase

integer_no_name : (count : Integer) (i rest : List Token) → integer count i rest → begins_name i ≡ false
integer_no_name count i rest (first, is, tell) = ap begins_name is ∙ go (name_in first) refl
  where
    go : (o : Option Name) → name_in first ≡ o → is_told (name_in first) ≡ false
    go None e = ap is_told e
    go (Some name) e = absurd (none_not (sym (name_integer first name e) ∙ tell))

opens_no_name : (i : List Token) → Opens i → begins_name i ≡ false
unfolding Opens
opens_no_name i (one, behind, s, begins) = word_no_name one i behind s

-- ---- no procedure begins the phrase

name_fails : (i : List Token) → begins_name i ≡ false → begins_procedures i ≡ false
name_fails i none = first_fails (begins_name i) (is_some (after_reference_before w.Times i)) none

count_stands : (i rest : List Token) → reference_before w.Times i rest → begins_procedures i ≡ false
count_stands i rest s = second_holds (begins_name i) (is_some (after_reference_before w.Times i))
    (ap is_some ((reference_before_found w.Times).stands i rest s))

-- where no name begins after it
pub turns_no_procedures : (depth : ℕ) (x : Repetition) (i rest : List Token) → rule.turns depth x i rest
    → begins_name rest ≡ false → begins_procedures i ≡ false
turns_no_procedures depth Once i rest s none = name_fails i (ap begins_name s.0 ∙ none)
turns_no_procedures depth (Times count) i rest s none = name_fails i (integer_no_name count i s.0 s.1)
turns_no_procedures depth (CountedBy one) i rest (i1, item, times) none = count_stands i rest (i1, (one, item), times)
turns_no_procedures depth (Through one) i rest s none = name_fails i (opens_no_name i (phrase_opens depth one i rest s))

-- ---- the phrase

times_sound : (depth : ℕ) → Sound (rule.turns depth) times_reader
unfolding times_reader
times_sound depth x i rest e =
    unstep (integer_reader i) _ e (λ count i1 is1 e1.
    unstep (read.expect w.Times i1) _ e1 (λ u i2 is2 e2.
    subst (λ y. rule.turns depth y i rest) (value e2)
    (i1, integer_sound count i i1 is1, word_sound w.Times u i1 rest (last is2 e2))))

counted_sound : (depth : ℕ) → Sound (rule.turns depth) counted_reader
unfolding counted_reader
counted_sound depth x i rest e =
    unstep (reference_reader i) _ e (λ one i1 is1 e1.
    unstep (read.expect w.Times i1) _ e1 (λ u i2 is2 e2.
    subst (λ y. rule.turns depth y i rest) (value e2)
    (i1, reference_sound one i i1 is1, word_sound w.Times u i1 rest (last is2 e2))))

pub turns_sound : (depth : ℕ) → Sound (rule.turns depth) (turns_reader depth)
unfolding turns_reader
turns_sound depth x i rest e = go (begins_integer i) (begins_name i) (begins_until i) refl refl refl e
  where
    go : (a b c : Bool) → begins_integer i ≡ a → begins_name i ≡ b → begins_until i ≡ c
        → (if a then times_reader i else if b then counted_reader i else if c then until_reader depth i
        else Ok (Once, i)) ≡ Ok (x, rest) → rule.turns depth x i rest
    go true b c is is' is'' e = times_sound depth x i rest e
    go false true c is is' is'' e = counted_sound depth x i rest e
    go false false true is is' is'' e = until_sound depth x i rest e
    go false false false is is' is'' e =
        subst (λ y. rule.turns depth y i rest) (value e) (
          after e,
          (tests_tested begins_turns).fails i (neither (begins_integer i || begins_name i) (begins_until i)
              (neither (begins_integer i) (begins_name i) is is') is''),
        )

reference_no_integer : (one : Reference) (i rest : List Token) → reference one i rest → begins_integer i ≡ false
reference_no_integer one i rest (i1, (i2, named, groups), found) =
    begins_not name_in integer_in name_integer one.item.name i i2 named

-- where neither of two tests holds
no_first : (a b : Bool) → (a || b) ≡ false → a ≡ false
no_first true b e = cc
no_first false b e = refl

no_second : (a b : Bool) → (a || b) ≡ false → b ≡ false
no_second true b e = cc
no_second false b e = e

pub turns_complete : (Allowed : Halt → Type 0) (depth depth' : ℕ)
    → Complete Allowed (condition depth') (condition_reader depth)
    → Complete Allowed (rule.turns depth') (turns_reader depth)
unfolding turns_reader times_reader counted_reader
turns_complete Allowed depth depth' asks Once i rest e =
    let none = (tests_tested begins_turns).refuses i e.1 in
    let no_count = no_first (begins_integer i || begins_name i) (begins_until i) none in
    rw (no_first (begins_integer i) (begins_name i) no_count)
    (rw (no_second (begins_integer i) (begins_name i) no_count)
    (rw (no_second (begins_integer i || begins_name i) (begins_until i) none) (Reached (ap (λ j. Ok (Once, j)) e.0))))
turns_complete Allowed depth depth' asks (Times count) i rest (i1, digits, times) =
    rw (integer_starts count i i1 digits)
    (step (integer_reader i) _ (integer_complete count i i1 digits)
    (step (read.expect w.Times i1) _ (word_complete w.Times tt i1 rest times) (Reached refl)))
turns_complete Allowed depth depth' asks (CountedBy one) i rest (i1, item, times) =
    rw (reference_no_integer one i i1 item)
    (rw (reference_starts one i i1 item)
    (step (reference_reader i) _ (reference_complete one i i1 item)
    (step (read.expect w.Times i1) _ (word_complete w.Times tt i1 rest times) (Reached refl))))
turns_complete Allowed depth depth' asks (Through one) i rest s =
    let opens = phrase_opens depth' one i rest s in
    rw (opens_no_integer i opens)
    (rw (opens_no_name i opens) (rw (opens_phrase i opens) (until_complete Allowed depth depth' asks one i rest s)))

pub turns_shrink : (depth : ℕ) (x : Repetition) (i rest : List Token) → rule.turns depth x i rest
    → length rest ≤ length i
turns_shrink depth Once i rest e = let l = ap length e.0 in omega arith
turns_shrink depth (Times count) i rest (i1, digits, times) =
    let a = integer_shrinks count i i1 digits in
    let b = word_shrinks w.Times i1 rest times in omega arith
turns_shrink depth (CountedBy one) i rest (i1, item, times) =
    let a = reference_shrinks one i i1 item in
    let b = word_shrinks w.Times i1 rest times in omega arith
turns_shrink depth (Through one) i rest s = let a = until_shrinks depth one i rest s in omega arith
