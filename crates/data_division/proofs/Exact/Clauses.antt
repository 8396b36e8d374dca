-- Clauses: what is read is spelled, and what is spelled is read.
use Rattle.std.proofs.Common.{◌≡◌, false, List, Some, inl, inr, refl, ap, ◌∙◌, subst, arith}
use Rattle.tokens.specs.declared.reserved.Reserved.{Reserved}
use Rattle.tokens.specs.declared.reserved.Reserved.TheVariants as w
use Rattle.tokens.specs.declared.token.Token.{Token}
use Rattle.tokens.specs.Reserved.{same_word}
use Rattle.grammar.specs.declared.fault.Halt.{Halt}
use Rattle.grammar.specs.Parts.{Part}
use Rattle.grammar.specs.Reading as read
use Rattle.grammar.specs.Reading.{Outcome, Parser, one_token}
use Rattle.grammar.proofs.Outcomes.{Answers, Reached, step, unstep, value, last}
use Rattle.grammar.proofs.Lists.{Sound, Shrinks}
use Rattle.grammar.proofs.Parts.{name_sound, name_complete, name_shrinks, word_sound, word_complete, word_shrinks}
use Rattle.grammar.proofs.Parts.{skip_sound, skip_complete, skip_shrinks, one_token_sound, one_token_complete}
use Rattle.grammar.proofs.Parts.{telling_shrinks, stands_sound, stands_complete, stands_shrinks}
use Rattle.expressions.specs.Subscripts.{integer, integer_in, integer_reader}
use Rattle.expressions.specs.Literals.{literal_reader}
use Rattle.expressions.proofs.Exact.Literals.{literal_sound, literal_complete, literal_shrinks}
use Rattle.data_division.specs.declared.clause.ClauseKind.{ClauseKind}
use Rattle.data_division.specs.declared.clause.ClauseKind.TheVariants as kind
use Rattle.data_division.specs.declared.clause.Clause.{Clause}
use Rattle.data_division.specs.declared.clause.Clause.TheVariants as clause_as
use Rattle.data_division.specs.Words.{usage_in, position_in, clause_of, clause_at}
use Rattle.data_division.specs.Clauses as g
use Rattle.data_division.specs.Clauses.{picture_in}
use Rattle.data_division.specs.ClauseReading as r
use Rattle.data_division.specs.Stated.{kind_of}
use Rattle.data_division.proofs.Exact.Optional.{either_sound, either_complete, either_shrinks, skip_either_sound}
use Rattle.grammar.specs.OptionalWords as optional
use Rattle.grammar.proofs.OptionalWords.{skip_led_sound}
use Rattle.data_division.proofs.Exact.Optional.{skip_either_complete, skip_either_shrinks}
use Rattle.grammar.proofs.OptionalWords.{skip_led_complete, led_shrinks}
use Rattle.data_division.proofs.Exact.Optional.{finds_separate, separate_shrinks}
use Rattle.data_division.proofs.Exact.Words.{stands, usage_stands, position_stands}

-- ---- words of one meaning differ

picture_words : same_word w.Picture w.Pic ≡ false
unfolding same_word
picture_words = refl

synchronized_words : same_word w.Synchronized w.Sync ≡ false
unfolding same_word
synchronized_words = refl

sides : same_word w.Right w.Left ≡ false
unfolding same_word
sides = refl

justified_words : same_word w.Justified w.Just ≡ false
unfolding same_word
justified_words = refl

-- ---- what is read is spelled

-- these tokens spell this clause, which is of that kind
abbrev pub IsClause : ClauseKind → Clause → Part
IsClause kind one = λ from rest. g.clause one from rest × (kind_of one ≡ kind)

integer_sound : Sound integer integer_reader
unfolding integer_reader
integer_sound = one_token_sound integer_in

redefines_sound : Sound (IsClause kind.Redefines) r.redefines_reader
unfolding r.redefines_reader
redefines_sound x i rest e =
    unstep (read.expect w.Redefines i) _ e (λ u i1 is1 e1.
    unstep (read.name i1) _ e1 (λ given i2 is2 e2.
    subst (λ y. IsClause kind.Redefines y i rest) (value e2)
    ((i1, word_sound w.Redefines u i i1 is1, name_sound given i1 rest (last is2 e2)), refl)))

picture_sound : Sound (IsClause kind.Picture) r.picture_reader
unfolding r.picture_reader
picture_sound x i rest e =
    unstep (r.either_reader w.Pic w.Picture i) _ e (λ u i1 is1 e1.
    unstep (read.skip w.Is i1) _ e1 (λ v i2 is2 e2.
    unstep (one_token picture_in i2) _ e2 (λ text i3 is3 e3.
    subst (λ y. IsClause kind.Picture y i rest) (value e3) (
      (
        i1,
        either_sound w.Pic w.Picture u i i1 is1,
        (i2, skip_sound w.Is v i1 i2 is2, one_token_sound picture_in text i2 rest (last is3 e3)),
      ),
      refl,
    ))))

usage_sound : Sound (IsClause kind.Usage) r.usage_reader
unfolding r.usage_reader
usage_sound x i rest e =
    unstep (optional.skip_led w.Usage i) _ e (λ u i1 is1 e1.
    unstep (one_token usage_in i1) _ e1 (λ one i2 is2 e2.
    subst (λ y. IsClause kind.Usage y i rest) (value e2)
    ((i1, skip_led_sound w.Usage u i i1 is1, one_token_sound usage_in one i1 rest (last is2 e2)), refl)))

sign_sound : Sound (IsClause kind.Sign) r.sign_reader
unfolding r.sign_reader
sign_sound x i rest e =
    unstep (optional.skip_led w.Sign i) _ e (λ u i1 is1 e1.
    unstep (one_token position_in i1) _ e1 (λ position i2 is2 e2.
    unstep (read.presence_reader r.after_separate i2) _ e2 (λ separate i3 is3 e3.
    subst (λ y. IsClause kind.Sign y i rest) (value e3) (
      (
        i1,
        skip_led_sound w.Sign u i i1 is1,
        (
          i2,
          one_token_sound position_in position i1 i2 is2,
          stands_sound finds_separate separate i2 rest (last is3 e3),
        ),
      ),
      refl,
    ))))

occurs_sound : Sound (IsClause kind.Occurs) r.occurs_reader
unfolding r.occurs_reader
occurs_sound x i rest e =
    unstep (read.expect w.Occurs i) _ e (λ u i1 is1 e1.
    unstep (integer_reader i1) _ e1 (λ count i2 is2 e2.
    unstep (read.skip w.Times i2) _ e2 (λ v i3 is3 e3.
    subst (λ y. IsClause kind.Occurs y i rest) (value e3) (
      (
        i1,
        word_sound w.Occurs u i i1 is1,
        (i2, integer_sound count i1 i2 is2, skip_sound w.Times v i2 rest (last is3 e3)),
      ),
      refl,
    ))))

synchronized_sound : Sound (IsClause kind.Synchronized) r.synchronized_reader
unfolding r.synchronized_reader
synchronized_sound x i rest e =
    unstep (r.either_reader w.Sync w.Synchronized i) _ e (λ u i1 is1 e1.
    unstep (r.skip_either w.Left w.Right i1) _ e1 (λ v i2 is2 e2.
    subst (λ y. IsClause kind.Synchronized y i rest) (value e2) (
      (i1, either_sound w.Sync w.Synchronized u i i1 is1, skip_either_sound w.Left w.Right v i1 rest (last is2 e2)),
      refl,
    )))

justified_sound : Sound (IsClause kind.Justified) r.justified_reader
unfolding r.justified_reader
justified_sound x i rest e =
    unstep (r.either_reader w.Just w.Justified i) _ e (λ u i1 is1 e1.
    unstep (read.skip w.Right i1) _ e1 (λ v i2 is2 e2.
    subst (λ y. IsClause kind.Justified y i rest) (value e2)
    ((i1, either_sound w.Just w.Justified u i i1 is1, skip_sound w.Right v i1 rest (last is2 e2)), refl)))

blank_sound : Sound (IsClause kind.BlankWhenZero) r.blank_when_zero_reader
unfolding r.blank_when_zero_reader
blank_sound x i rest e =
    unstep (read.expect w.Blank i) _ e (λ u i1 is1 e1.
    unstep (read.skip w.When i1) _ e1 (λ v i2 is2 e2.
    unstep (read.expect w.Zero i2) _ e2 (λ t i3 is3 e3.
    subst (λ y. IsClause kind.BlankWhenZero y i rest) (value e3) (
      (
        i1,
        word_sound w.Blank u i i1 is1,
        (i2, skip_sound w.When v i1 i2 is2, word_sound w.Zero t i2 rest (last is3 e3)),
      ),
      refl,
    ))))

value_sound : Sound (IsClause kind.Value) r.value_reader
unfolding r.value_reader
value_sound x i rest e =
    unstep (read.expect w.Value i) _ e (λ u i1 is1 e1.
    unstep (read.skip w.Is i1) _ e1 (λ v i2 is2 e2.
    unstep (literal_reader i2) _ e2 (λ one i3 is3 e3.
    subst (λ y. IsClause kind.Value y i rest) (value e3) (
      (i1, word_sound w.Value u i i1 is1, (i2, skip_sound w.Is v i1 i2 is2, literal_sound one i2 rest (last is3 e3))),
      refl,
    ))))

pub clause_sound : (one : ClauseKind) → Sound (IsClause one) (r.clause_reader one)
unfolding r.clause_reader
clause_sound kind.Redefines x i rest e = redefines_sound x i rest e
clause_sound kind.Picture x i rest e = picture_sound x i rest e
clause_sound kind.Usage x i rest e = usage_sound x i rest e
clause_sound kind.Sign x i rest e = sign_sound x i rest e
clause_sound kind.Occurs x i rest e = occurs_sound x i rest e
clause_sound kind.Synchronized x i rest e = synchronized_sound x i rest e
clause_sound kind.Justified x i rest e = justified_sound x i rest e
clause_sound kind.BlankWhenZero x i rest e = blank_sound x i rest e
clause_sound kind.Value x i rest e = value_sound x i rest e

-- ---- what is spelled is read

pub clause_complete : {Allowed : Halt → Type 0} (x : Clause) (i rest : List Token) → g.clause x i rest
    → Answers Allowed (r.clause_reader (kind_of x) i) x rest
unfolding r.clause_reader r.redefines_reader r.picture_reader r.usage_reader r.sign_reader r.occurs_reader
    r.synchronized_reader r.justified_reader r.blank_when_zero_reader r.value_reader integer_reader
clause_complete (clause_as.Redefines n) i rest (i1, first, given) =
    step (read.expect w.Redefines i) _ (word_complete w.Redefines tt i i1 first)
    (step (read.name i1) _ (name_complete n i1 rest given) (Reached refl))
clause_complete (clause_as.Picture text) i rest (i1, first, (i2, is, told)) =
    step (r.either_reader w.Pic w.Picture i) _ (either_complete w.Pic w.Picture picture_words tt i i1 first)
    (step (read.skip w.Is i1) _ (skip_complete w.Is tt i1 i2 is)
    (step (one_token picture_in i2) _ (one_token_complete picture_in text i2 rest told) (Reached refl)))
clause_complete (clause_as.Usage one) i rest (i1, led, told) =
    step (optional.skip_led w.Usage i) _ (skip_led_complete w.Usage tt i i1 led)
    (step (one_token usage_in i1) _ (one_token_complete usage_in one i1 rest told) (Reached refl))
clause_complete (clause_as.Sign one) i rest (i1, led, (i2, told, separate)) =
    step (optional.skip_led w.Sign i) _ (skip_led_complete w.Sign tt i i1 led)
    (step (one_token position_in i1) _ (one_token_complete position_in one.position i1 i2 told)
    (step (read.presence_reader r.after_separate i2) _ (stands_complete finds_separate one.separate i2 rest separate)
    (Reached refl)))
clause_complete (clause_as.Occurs count) i rest (i1, first, (i2, told, times)) =
    step (read.expect w.Occurs i) _ (word_complete w.Occurs tt i i1 first)
    (step (integer_reader i1) _ (one_token_complete integer_in count i1 i2 told)
    (step (read.skip w.Times i2) _ (skip_complete w.Times tt i2 rest times) (Reached refl)))
clause_complete clause_as.Synchronized i rest (i1, first, side) =
    step (r.either_reader w.Sync w.Synchronized i) _
    (either_complete w.Sync w.Synchronized synchronized_words tt i i1 first)
    (step (r.skip_either w.Left w.Right i1) _ (skip_either_complete w.Left w.Right sides tt i1 rest side)
    (Reached refl))
clause_complete clause_as.Justified i rest (i1, first, side) =
    step (r.either_reader w.Just w.Justified i) _ (either_complete w.Just w.Justified justified_words tt i i1 first)
    (step (read.skip w.Right i1) _ (skip_complete w.Right tt i1 rest side) (Reached refl))
clause_complete clause_as.BlankWhenZero i rest (i1, first, (i2, when, zero)) =
    step (read.expect w.Blank i) _ (word_complete w.Blank tt i i1 first)
    (step (read.skip w.When i1) _ (skip_complete w.When tt i1 i2 when)
    (step (read.expect w.Zero i2) _ (word_complete w.Zero tt i2 rest zero) (Reached refl)))
clause_complete (clause_as.Value one) i rest (i1, first, (i2, is, given)) =
    step (read.expect w.Value i) _ (word_complete w.Value tt i i1 first)
    (step (read.skip w.Is i1) _ (skip_complete w.Is tt i1 i2 is)
    (step (literal_reader i2) _ (literal_complete one i2 rest given) (Reached refl)))

-- ---- the first word of a clause decides which one it is

either_stands : (one other : Reserved) (x : ClauseKind) → clause_of one ≡ Some x → clause_of other ≡ Some x
    → (i rest : List Token) → g.either one other i rest → clause_at i ≡ Some x
either_stands one last x is is' i rest (inl s) = stands one i rest s ∙ is
either_stands one last x is is' i rest (inr s) = stands last i rest s ∙ is'

led_stands : (one : Reserved) (x : ClauseKind) → clause_of one ≡ Some x → (i i1 : List Token) → optional.led_by one i i1
    → clause_at i1 ≡ Some x → clause_at i ≡ Some x
led_stands one x is i i1 (inl (i2, first, more)) e = stands one i i2 first ∙ is
led_stands one x is i i1 (inr (same, absent)) e = ap clause_at same ∙ e

pub clause_stands : (x : Clause) (i rest : List Token) → g.clause x i rest → clause_at i ≡ Some (kind_of x)
clause_stands (clause_as.Redefines n) i rest (i1, first, more) = stands w.Redefines i i1 first
clause_stands (clause_as.Picture text) i rest (i1, first, more) =
    either_stands w.Pic w.Picture kind.Picture refl refl i i1 first
clause_stands (clause_as.Usage one) i rest (i1, led, told) =
    led_stands w.Usage kind.Usage refl i i1 led (usage_stands one i1 rest told)
clause_stands (clause_as.Sign one) i rest (i1, led, (i2, told, more)) =
    led_stands w.Sign kind.Sign refl i i1 led (position_stands one.position i1 i2 told)
clause_stands (clause_as.Occurs count) i rest (i1, first, more) = stands w.Occurs i i1 first
clause_stands clause_as.Synchronized i rest (i1, first, more) =
    either_stands w.Sync w.Synchronized kind.Synchronized refl refl i i1 first
clause_stands clause_as.Justified i rest (i1, first, more) =
    either_stands w.Just w.Justified kind.Justified refl refl i i1 first
clause_stands clause_as.BlankWhenZero i rest (i1, first, more) = stands w.Blank i i1 first
clause_stands (clause_as.Value one) i rest (i1, first, more) = stands w.Value i i1 first

-- ---- a clause takes a token

pub clause_shrinks : Shrinks g.clause
clause_shrinks (clause_as.Redefines n) i rest (i1, first, given) =
    let a = word_shrinks w.Redefines i i1 first in let b = name_shrinks n i1 rest given in omega arith
clause_shrinks (clause_as.Picture text) i rest (i1, first, (i2, is, told)) =
    let a = either_shrinks w.Pic w.Picture i i1 first in let b = skip_shrinks w.Is i1 i2 is in let c =
    telling_shrinks picture_in text i2 rest told in omega arith
clause_shrinks (clause_as.Usage one) i rest (i1, led, told) =
    let a = led_shrinks w.Usage i i1 led in let b = telling_shrinks usage_in one i1 rest told in omega arith
clause_shrinks (clause_as.Sign one) i rest (i1, led, (i2, told, separate)) =
    let a = led_shrinks w.Sign i i1 led in
    let b = telling_shrinks position_in one.position i1 i2 told in
    let c = stands_shrinks separate_shrinks one.separate i2 rest separate in omega arith
clause_shrinks (clause_as.Occurs count) i rest (i1, first, (i2, told, times)) =
    let a = word_shrinks w.Occurs i i1 first in let b = telling_shrinks integer_in count i1 i2 told in let c =
    skip_shrinks w.Times i2 rest times in omega arith
clause_shrinks clause_as.Synchronized i rest (i1, first, side) =
    let a = either_shrinks w.Sync w.Synchronized i i1 first in let b =
    skip_either_shrinks w.Left w.Right i1 rest side in omega arith
clause_shrinks clause_as.Justified i rest (i1, first, side) =
    let a = either_shrinks w.Just w.Justified i i1 first in let b = skip_shrinks w.Right i1 rest side in omega arith
clause_shrinks clause_as.BlankWhenZero i rest (i1, first, (i2, when, zero)) =
    let a = word_shrinks w.Blank i i1 first in let b = skip_shrinks w.When i1 i2 when in let c =
    word_shrinks w.Zero i2 rest zero in omega arith
clause_shrinks (clause_as.Value one) i rest (i1, first, (i2, is, given)) =
    let a = word_shrinks w.Value i i1 first in let b = skip_shrinks w.Is i1 i2 is in let c =
    literal_shrinks one i2 rest given in omega arith
