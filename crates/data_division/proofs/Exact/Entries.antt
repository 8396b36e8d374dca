-- Entries: what is read is spelled, and what is spelled is read.
use Rattle.std.proofs.Common.{◌≡◌, ◌≤◌, Bool, true, false, List, [], ◌∷◌, length, Option, None, Some, Ok, inl, inr}
use Rattle.std.proofs.Common.{refl, sym, ap, ◌∙◌, subst, arith}
use Rattle.std.specs.Prelude.{◌||◌, if◌then◌else◌}
use Rattle.tokens.specs.declared.reserved.Reserved.{Reserved}
use Rattle.tokens.specs.declared.reserved.Reserved.TheVariants as w
use Rattle.tokens.specs.declared.token.Token.{Token}
use Rattle.tokens.specs.Reserved.{same_word}
use Rattle.source_tree.specs.declared.name.Name.{Name}
use Rattle.source_tree.specs.declared.literal.Integer.{Integer}
use Rattle.source_tree.specs.declared.literal.Literal.{Literal}
use Rattle.source_tree.specs.declared.entry.Entry.{Entry}
use Rattle.source_tree.specs.declared.entry.Entry.TheVariants as entry_as
use Rattle.grammar.specs.declared.fault.Halt.{Halt}
use Rattle.grammar.specs.Parts as parts
use Rattle.grammar.specs.Parts.{◌then◌, ◌or◌, optional, several, lookahead, token_with, begins_telling, is_told, word}
use Rattle.grammar.specs.Parts.{begins_name}
use Rattle.grammar.specs.Reading as read
use Rattle.grammar.specs.Reading.{Outcome, Parser, begins_word}
use Rattle.grammar.proofs.Outcomes.{Reached, step, unstep, value, after, last}
use Rattle.grammar.proofs.Looking.{Tests, tests_tested, true_not_false, word_begins}
use Rattle.grammar.proofs.Lists as lists
use Rattle.grammar.proofs.Lists.{Sound, Complete, Shrinks, Starts}
use Rattle.grammar.proofs.Parts.{name_sound, name_complete, name_shrinks, name_starts, word_shrinks, skip_sound}
use Rattle.grammar.proofs.Parts.{skip_complete, period_sound, period_complete, period_shrinks, one_token_sound}
use Rattle.grammar.proofs.Parts.{one_token_complete, telling_shrinks, telling_starts}
use Rattle.expressions.specs.Subscripts.{integer, integer_in, begins_integer, integer_reader}
use Rattle.expressions.specs.Literals.{begins_literal, literal_reader}
use Rattle.expressions.proofs.Exact.Marks.{either}
use Rattle.expressions.proofs.Exact.Literals.{literal_sound, literal_complete, literal_shrinks, literal_starts}
use Rattle.data_division.specs.Stated.{stated_reader}
use Rattle.data_division.specs.Entries as g
use Rattle.data_division.specs.Entries.{is_condition}
use Rattle.data_division.specs.EntryReading as r
use Rattle.data_division.specs.ClauseReading.{either_reader, skip_either}
use Rattle.data_division.proofs.Exact.Optional.{tests_either, either_sound, either_complete, either_shrinks}
use Rattle.data_division.proofs.Exact.Optional.{skip_either_sound, skip_either_complete, skip_either_shrinks}
use Rattle.data_division.proofs.Exact.Stated.{stated_sound, stated_complete, stated_shrinks}

-- ---- names and FILLER

told_there : {A : Type 0} (o : Option A) → is_told o ≡ true → (a : A) × (o ≡ Some a)
told_there None e = cc
told_there (Some a) e = (a, refl)

pub name_there : (i : List Token) → begins_name i ≡ true → (after : List Token) × parts.some_of parts.name i after
name_there [] e = cc
name_there (first ∷ more) e = let told = told_there (parts.name_in first) e in (more, (told.0, (first, refl, told.1)))

no_name : (i : List Token) → ((after : List Token) → parts.some_of parts.name i after → ⊥) → begins_name i ≡ false
no_name i nowhere = go (begins_name i) refl
  where
    go : (b : Bool) → begins_name i ≡ b → begins_name i ≡ false
    go true is = let there = name_there i is in absurd (nowhere there.0 there.1)
    go false is = is

word_is_no_name : (one : Reserved) (i rest : List Token) → word one i rest → begins_name i ≡ false
word_is_no_name one i rest (first, is, kind) = ap begins_name is ∙ ap (λ k. is_told (parts.named_by k first.place)) kind

unnamed : (i rest : List Token) → begins_name i ≡ false → optional (word w.Filler) i rest → g.entry_name None i rest
unnamed i rest none (inl s) = inl s
unnamed i rest none (inr (same, absent)) = inr (same, go)
  where
    go : (after : List Token) → (parts.some_of parts.name or word w.Filler) i after → ⊥
    go after (inl (given, s)) = true_not_false (begins_name i) none (name_starts given i after s)
    go after (inr s) = absent after s

named_sound : Sound g.entry_name r.named_reader
unfolding r.named_reader r.given_reader r.filler_reader
named_sound x i rest e = go (begins_name i) refl e
  where
    go : (b : Bool) → begins_name i ≡ b → (if b then r.given_reader i else r.filler_reader i) ≡ Ok (x, rest)
        → g.entry_name x i rest
    go true is e = unstep (read.name i) _ e
        (λ given i1 is1 e1. subst (λ y. g.entry_name y i rest) (value e1) (name_sound given i rest (last is1 e1)))
    go false is e = unstep (read.skip w.Filler i) _ e (λ u i1 is1 e1.
        subst (λ y. g.entry_name y i rest) (value e1) (unnamed i rest is (skip_sound w.Filler u i rest (last is1 e1))))

named_complete : {Allowed : Halt → Type 0} → Complete Allowed g.entry_name r.named_reader
unfolding r.named_reader r.given_reader r.filler_reader
named_complete (Some given) i rest s =
    rw (name_starts given i rest s) (step (read.name i) _ (name_complete given i rest s) (Reached refl))
named_complete None i rest (inl s) =
    rw (word_is_no_name w.Filler i rest s)
    (step (read.skip w.Filler i) _ (skip_complete w.Filler tt i rest (inl s)) (Reached refl))
named_complete None i rest (inr (same, absent)) =
    let none = no_name i (λ after s. absent after (inl s)) in
    rw none (step (read.skip w.Filler i) _
    (skip_complete w.Filler tt i rest (inr (same, λ after s. absent after (inr s)))) (Reached refl))

named_shrinks : (x : Option Name) (i rest : List Token) → g.entry_name x i rest → length rest ≤ length i
named_shrinks (Some given) i rest s = let l = name_shrinks given i rest s in omega arith
named_shrinks None i rest (inl s) = let l = word_shrinks w.Filler i rest s in omega arith
named_shrinks None i rest (inr (same, absent)) = let l = ap length same in omega arith

-- ---- values

through_words : same_word w.Through w.Thru ≡ false
unfolding same_word
through_words = refl

value_words : same_word w.Values w.Value ≡ false
unfolding same_word
value_words = refl

is_words : same_word w.Are w.Is ≡ false
unfolding same_word
is_words = refl

tests_through : Tests g.through_word r.begins_through
tests_through = tests_either w.Thru w.Through

through_begins : (i rest : List Token) → g.through_word i rest → r.begins_through i ≡ true
through_begins i rest (inl s) = ap (λ b. b || begins_word w.Through i) (word_begins w.Thru i rest s)
through_begins i rest (inr s) = either (begins_word w.Thru i) (begins_word w.Through i) (word_begins w.Through i rest s)

last_sound : Sound g.last_value r.last_value_reader
unfolding r.last_value_reader r.through_literal_reader
last_sound x i rest e = go (r.begins_through i) refl e
  where
    go : (b : Bool) → r.begins_through i ≡ b → (if b then r.through_literal_reader i else Ok (None, i)) ≡ Ok (x, rest)
        → g.last_value x i rest
    go true is e =
        unstep (either_reader w.Thru w.Through i) _ e (λ u i1 is1 e1.
        unstep (literal_reader i1) _ e1 (λ one i2 is2 e2.
        subst (λ y. g.last_value y i rest) (value e2)
        (i1, either_sound w.Thru w.Through u i i1 is1, literal_sound one i1 rest (last is2 e2))))
    go false is e = subst (λ y. g.last_value y i rest) (value e) (after e, tests_through.fails i is)

last_complete : {Allowed : Halt → Type 0} → Complete Allowed g.last_value r.last_value_reader
unfolding r.last_value_reader r.through_literal_reader
last_complete None i rest s = rw (tests_through.refuses i s.1) (Reached (ap (λ j. Ok (None, j)) s.0))
last_complete (Some one) i rest (i1, through, given) =
    rw (through_begins i i1 through)
    (step (either_reader w.Thru w.Through i) _ (either_complete w.Thru w.Through through_words tt i i1 through)
    (step (literal_reader i1) _ (literal_complete one i1 rest given) (Reached refl)))

last_shrinks : (x : Option Literal) (i rest : List Token) → g.last_value x i rest → length rest ≤ length i
last_shrinks None i rest s = let l = ap length s.0 in omega arith
last_shrinks (Some one) i rest (i1, through, given) =
    let a = either_shrinks w.Thru w.Through i i1 through in let b = literal_shrinks one i1 rest given in omega arith

range_sound : Sound g.range r.range_reader
unfolding r.range_reader
range_sound x i rest e =
    unstep (literal_reader i) _ e (λ first i1 is1 e1.
    unstep (r.last_value_reader i1) _ e1 (λ end i2 is2 e2.
    subst (λ y. g.range y i rest) (value e2) (i1, literal_sound first i i1 is1, last_sound end i1 rest (last is2 e2))))

range_complete : {Allowed : Halt → Type 0} → Complete Allowed g.range r.range_reader
unfolding r.range_reader
range_complete x i rest (i1, first, end) =
    step (literal_reader i) _ (literal_complete x.first i i1 first)
    (step (r.last_value_reader i1) _ (last_complete x.last i1 rest end) (Reached refl))

range_shrinks : Shrinks g.range
range_shrinks x i rest (i1, first, end) = let a = literal_shrinks x.first i i1 first in let b =
    last_shrinks x.last i1 rest end in omega arith

range_starts : Starts begins_literal g.range
range_starts x i rest (i1, first, end) = literal_starts x.first i i1 first

ranges_sound : Sound (several g.range (lookahead begins_literal)) (read.several r.range_reader begins_literal)
ranges_sound = lists.several_sound g.range r.range_reader (lookahead begins_literal) begins_literal
    (tests_tested begins_literal) range_sound

ranges_complete : {Allowed : Halt → Type 0}
    → Complete Allowed (several g.range (lookahead begins_literal)) (read.several r.range_reader begins_literal)
ranges_complete {Allowed = Allowed} =
    lists.several_complete g.range r.range_reader (lookahead begins_literal) begins_literal
    (tests_tested begins_literal) Allowed (range_complete {Allowed = Allowed}) range_shrinks range_starts

-- ---- entries

item_sound : (level : Integer) (from : List Token) → is_condition level ≡ false → (x : Entry) (i rest : List Token)
    → integer level from i
    → r.item_reader level i ≡ Ok (x, rest) → g.entry x from rest
unfolding r.item_reader
item_sound level from other x i rest told e =
    unstep (r.named_reader i) _ e (λ given i1 is1 e1.
    unstep (stated_reader i1) _ e1 (λ clauses i2 is2 e2.
    unstep (read.period i2) _ e2 (λ u i3 is3 e3.
    subst (λ y. g.entry y from rest) (value e3) (
      clauses,
      refl,
      other,
      (
        i,
        told,
        (i1, named_sound given i i1 is1, (i2, stated_sound clauses i1 i2 is2, period_sound u i2 rest (last is3 e3))),
      ),
    ))))

condition_sound : (level : Integer) (from : List Token) → is_condition level ≡ true → (x : Entry) (i rest : List Token)
    → integer level from i
    → r.condition_reader i ≡ Ok (x, rest) → g.entry x from rest
unfolding r.condition_reader
condition_sound level from is x i rest told e =
    unstep (read.name i) _ e (λ given i1 is1 e1.
    unstep (either_reader w.Value w.Values i1) _ e1 (λ u i2 is2 e2.
    unstep (skip_either w.Is w.Are i2) _ e2 (λ v i3 is3 e3.
    unstep (read.several r.range_reader begins_literal i3) _ e3 (λ values i4 is4 e4.
    unstep (read.period i4) _ e4 (λ t i5 is5 e5.
    subst (λ y. g.entry y from rest) (value e5) (
      i,
      (level, is, told),
      (
        i1,
        name_sound given i i1 is1,
        (
          i2,
          either_sound w.Value w.Values u i1 i2 is2,
          (
            i3,
            skip_either_sound w.Is w.Are v i2 i3 is3,
            (i4, ranges_sound values i3 i4 is4, period_sound t i4 rest (last is5 e5)),
          ),
        ),
      ),
    ))))))

pub entry_sound : Sound g.entry r.entry_reader
unfolding r.entry_reader r.by_level integer_reader
entry_sound x i rest e =
    unstep (integer_reader i) _ e
    (λ level i1 is1 e1. go level i1 (one_token_sound integer_in level i i1 is1) (is_condition level) refl e1)
  where
    go : (level : Integer) (i1 : List Token) → integer level i i1 → (b : Bool) → is_condition level ≡ b
        → (if b then r.condition_reader i1 else r.item_reader level i1) ≡ Ok (x, rest) → g.entry x i rest
    go level i1 told true is e = condition_sound level i is x i1 rest told e
    go level i1 told false is e = item_sound level i is x i1 rest told e

pub entry_complete : {Allowed : Halt → Type 0} → Complete Allowed g.entry r.entry_reader
unfolding r.entry_reader r.by_level r.item_reader r.condition_reader integer_reader
entry_complete (entry_as.Item one) i rest (clauses, is, other, (i1, told, (i2, given, (i3, all, end)))) =
    step (integer_reader i) _ (one_token_complete integer_in one.level i i1 told)
    (rw other
    (step (r.named_reader i1) _ (named_complete one.name i1 i2 given)
    (step (stated_reader i2) _ (stated_complete clauses i2 i3 all)
    (step (read.period i3) _ (period_complete tt i3 rest end)
    (Reached (ap (λ y. Ok (entry_as.Item y, rest)) (sym is)))))))
entry_complete (entry_as.Condition one) i rest
    (i1, (level, is, told), (i2, given, (i3, values, (i4, optional, (i5, ranges, end))))) =
    step (integer_reader i) _ (one_token_complete integer_in level i i1 told)
    (rw is
    (step (read.name i1) _ (name_complete one.name i1 i2 given)
    (step (either_reader w.Value w.Values i2) _ (either_complete w.Value w.Values value_words tt i2 i3 values)
    (step (skip_either w.Is w.Are i3) _ (skip_either_complete w.Is w.Are is_words tt i3 i4 optional)
    (step (read.several r.range_reader begins_literal i4) _ (ranges_complete one.values i4 i5 ranges)
    (step (read.period i5) _ (period_complete tt i5 rest end) (Reached refl)))))))

pub entry_shrinks : Shrinks g.entry
entry_shrinks (entry_as.Item one) i rest (clauses, is, other, (i1, told, (i2, given, (i3, all, end)))) =
    let a = telling_shrinks integer_in one.level i i1 told in
    let b = named_shrinks one.name i1 i2 given in
    let c = stated_shrinks clauses i2 i3 all in
    let d = period_shrinks i3 rest end in omega arith
entry_shrinks (entry_as.Condition one) i rest
    (i1, (level, is, told), (i2, given, (i3, values, (i4, optional, (i5, ranges, end))))) =
    let a = telling_shrinks integer_in level i i1 told in
    let b = name_shrinks one.name i1 i2 given in
    let c = either_shrinks w.Value w.Values i2 i3 values in
    let d = skip_either_shrinks w.Is w.Are i3 i4 optional in
    let f = lists.several_shrinks g.range (lookahead begins_literal) range_shrinks one.values i4 i5 ranges in
    let h = period_shrinks i5 rest end in omega arith

pub entry_starts : Starts begins_integer g.entry
entry_starts (entry_as.Item one) i rest (clauses, is, other, (i1, told, more)) =
    telling_starts integer_in one.level i i1 told
entry_starts (entry_as.Condition one) i rest (i1, (level, is, told), more) = telling_starts integer_in level i i1 told
