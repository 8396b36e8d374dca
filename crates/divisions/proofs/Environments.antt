-- The environment division: what is read is spelled, and what is spelled is read.
use Rattle.std.proofs.Common.{◌≡◌, Bool, true, false, List, [], ◌∷◌, Some, Ok, inl, inr, refl, ap, ◌∙◌, subst}
use Rattle.std.specs.Prelude.{if◌then◌else◌}
use Rattle.tokens.specs.declared.reserved.Reserved.{Reserved}
use Rattle.tokens.specs.declared.reserved.Reserved.TheVariants as w
use Rattle.tokens.specs.declared.token.Token.{Token}
use Rattle.source_tree.specs.declared.select.Select.{Select}
use Rattle.grammar.specs.declared.fault.Halt.{Halt}
use Rattle.grammar.specs.Parts.{Part, ◌then◌, some_of, any, several, lookahead, token_with, is_told, heading}
use Rattle.grammar.specs.Reading as read
use Rattle.grammar.specs.Reading.{Parser, ◌>>◌, begins_word}
use Rattle.grammar.proofs.Outcomes.{Reached, step, unstep, after}
use Rattle.grammar.proofs.Looking.{word_begins, none_not, true_not_false, tests_tested}
use Rattle.grammar.proofs.Lists.{Sound, Complete, several_starts}
use Rattle.grammar.proofs.Parts.{period_sound, period_complete, heading_sound, heading_complete, telling_starts}
use Rattle.grammar.proofs.Listed.{BeginsWith, heading_begins, unless_sound, unless_complete, listed_sound}
use Rattle.grammar.proofs.Listed.{listed_complete}
use Rattle.file_control.proofs.Exact.Selects.{input_output_sound, input_output_complete}
use Rattle.file_control.specs.Selects.{input_output_reader}
use Rattle.divisions.specs.Environment as g
use Rattle.divisions.specs.Environment.{something_unless, described_in, begins_description, ends_description}
use Rattle.divisions.specs.Environment.{past_description}

-- ---- one part after another

module _ {p q : Part} {first second : Parser (Unit {0})} where
  both_sound : Sound (λ u. p) first → Sound (λ u. q) second → Sound (λ u. p then q) (first >> second)
  both_sound one other u i rest e = unstep (first i) _ e (λ v i1 is1 e1. (i1, one v i i1 is1, other u i1 rest e1))

  both_complete : {Allowed : Halt → Type 0} → Complete Allowed (λ u. p) first → Complete Allowed (λ u. q) second
      → Complete Allowed (λ u. p then q) (first >> second)
  both_complete one other u i rest (i1, s, t) = step (first i) _ (one tt i i1 s) (other u i1 rest t)

-- ---- descriptions

abbrev described : List (Unit {0}) → Part
described = any (token_with described_in) (lookahead begins_description)

ends : (b : Bool) → is_told (something_unless b) ≡ false → b ≡ true
ends true e = refl
ends false e = cc

goes_on : (b : Bool) → something_unless b ≡ Some tt → b ≡ false
goes_on true e = absurd (none_not e)
goes_on false e = refl

passed : (i : List Token) → some_of described i (past_description i)
unfolding past_description
passed [] = ([], (refl, λ after e. true_not_false false refl e))
passed (first ∷ more) = go (passed more) (ends_description first.kind) refl
  where
    go : some_of described more (past_description more) → (b : Bool) → ends_description first.kind ≡ b
        → some_of described (first ∷ more) (if b then first ∷ more else past_description more)
    go others true is = (
      [],
      (
        refl,
        λ after e. true_not_false (begins_description (first ∷ more)) (ap (λ b. is_told (something_unless b)) is) e,
      ),
    )
    go others false is = (tt ∷ others.0, (more, (first, refl, ap something_unless is), others.1))

some_passed : (i : List Token) → begins_description i ≡ true
    → some_of (several (token_with described_in) (lookahead begins_description)) i (past_description i)
some_passed i begins = go (passed i).0 (passed i).1
  where
    go : (all : List (Unit {0})) → described all i (past_description i)
        → some_of (several (token_with described_in) (lookahead begins_description)) i (past_description i)
    go [] s = absurd (s.1 i begins)
    go (u ∷ more) s = (u ∷ more, s)

only_passed : (all : List (Unit {0})) (i rest : List Token) → described all i rest → past_description i ≡ rest
unfolding past_description
only_passed [] [] rest s = s.0
only_passed [] (first ∷ more) rest s =
    rw (ends (ends_description first.kind) ((tests_tested begins_description).refuses (first ∷ more) s.1)) s.0
only_passed (u ∷ all) i rest (middle, (first, is, tell), others) =
    ap past_description is ∙ rw (goes_on (ends_description first.kind) tell) (only_passed all middle rest others)

description_sound : Sound (λ u. g.description) g.description_reader
unfolding g.description_reader g.some_description
description_sound u i rest e = go (begins_description i) refl e
  where
    go : (b : Bool) → begins_description i ≡ b → (if b then g.some_description i else Ok (tt, i)) ≡ Ok (u, rest)
        → g.description i rest
    go true is e =
        unstep (g.pass_description i) _ e (λ v i1 is1 e1.
        inl (
          i1,
          subst (λ j. some_of (several (token_with described_in) (lookahead begins_description)) i j) (after is1)
              (some_passed i is),
          period_sound u i1 rest e1,
        ))
    go false is e = inr (after e, (tests_tested begins_description).fails i is)

description_complete : {Allowed : Halt → Type 0} → Complete Allowed (λ u. g.description) g.description_reader
unfolding g.description_reader g.some_description
description_complete u i rest (inl (i1, ([], s), end)) = absurd s
description_complete u i rest (inl (i1, (v ∷ more, s), end)) =
    rw (several_starts (token_with described_in) (lookahead begins_description) begins_description
    (telling_starts described_in) (v ∷ more) i i1 s)
    (rw (only_passed (v ∷ more) i i1 s) (period_complete u i1 rest end))
description_complete u i rest (inr (same, absent)) =
    rw ((tests_tested begins_description).refuses i absent) (Reached (ap (λ j. Ok (tt, j)) same))

-- ---- the division

computer_sound : (one : Reserved) → Sound (λ u. g.computer one) (g.computer_reader one)
unfolding g.computer_reader
computer_sound one = unless_sound one (both_sound (heading_sound (one ∷ [])) description_sound)

computer_complete : {Allowed : Halt → Type 0} (one : Reserved)
    → Complete Allowed (λ u. g.computer one) (g.computer_reader one)
unfolding g.computer_reader
computer_complete one = unless_complete one (heading_begins one [] g.description)
    (both_complete (heading_complete (one ∷ [])) description_complete)

abbrev computers : Part
computers = g.computer w.SourceComputer then g.computer w.ObjectComputer

configuration_sound : Sound (λ u. g.configuration) g.configuration_reader
unfolding g.configuration_reader
configuration_sound =
    unless_sound w.Configuration (both_sound (heading_sound (w.Configuration ∷ w.Section ∷ []))
    (both_sound (computer_sound w.SourceComputer) (computer_sound w.ObjectComputer)))

configuration_complete : {Allowed : Halt → Type 0} → Complete Allowed (λ u. g.configuration) g.configuration_reader
unfolding g.configuration_reader
configuration_complete =
    unless_complete w.Configuration (heading_begins w.Configuration (w.Section ∷ []) computers)
    (both_complete (heading_complete (w.Configuration ∷ w.Section ∷ []))
    (both_complete (computer_complete w.SourceComputer) (computer_complete w.ObjectComputer)))

abbrev environment_words : List Reserved
environment_words = w.Environment ∷ w.Division ∷ []

sections_sound : Sound g.sections g.environment_sections_reader
unfolding g.environment_sections_reader
sections_sound x i rest e =
    unstep (read.heading_reader environment_words i) _ e (λ u i1 is1 e1.
    unstep (g.configuration_reader i1) _ e1 (λ v i2 is2 e2. (
      i1,
      heading_sound environment_words u i i1 is1,
      (i2, configuration_sound v i1 i2 is2, input_output_sound x i2 rest e2),
    )))

sections_complete : {Allowed : Halt → Type 0} → Complete Allowed g.sections g.environment_sections_reader
unfolding g.environment_sections_reader
sections_complete x i rest (i1, words, (i2, around, selects)) =
    step (read.heading_reader environment_words i) _ (heading_complete environment_words tt i i1 words)
    (step (g.configuration_reader i1) _ (configuration_complete tt i1 i2 around)
    (input_output_complete x i2 rest selects))

sections_begin : (x : List Select) → BeginsWith w.Environment (g.sections x)
sections_begin x i rest s = word_begins w.Environment i s.1.0 s.1.1

pub environment_sound : Sound g.environment g.environment_reader
unfolding g.environment_reader
environment_sound = listed_sound w.Environment sections_sound

pub environment_complete : {Allowed : Halt → Type 0} → Complete Allowed g.environment g.environment_reader
unfolding g.environment_reader
environment_complete {Allowed = Allowed} =
    listed_complete w.Environment sections_begin (sections_complete {Allowed = Allowed})
