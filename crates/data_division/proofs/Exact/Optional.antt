-- One of two words, words that may be left out: what is read is spelled, and what is spelled is read.
use Rattle.std.proofs.Common.{◌≡◌, ◌<◌, ◌≤◌, Bool, true, false, List, [], ◌∷◌, length, Option, Some, None, Ok, inl, inr}
use Rattle.std.proofs.Common.{refl, ap, ◌∙◌, subst, arith}
use Rattle.std.specs.Prelude.{◌||◌, if◌then◌else◌}
use Rattle.std.specs.Option.{option_map}
use Rattle.tokens.specs.declared.reserved.Reserved.{Reserved}
use Rattle.tokens.specs.declared.reserved.Reserved.TheVariants as w
use Rattle.tokens.specs.declared.token.Token.{Token}
use Rattle.tokens.specs.Reserved.{same_word}
use Rattle.grammar.specs.declared.fault.Halt.{Halt}
use Rattle.grammar.specs.Parts.{◌then◌, optional, word}
use Rattle.grammar.specs.Reading as read
use Rattle.grammar.specs.Reading.{Outcome, Parser, ◌>>◌, begins_word, after_word, past_word}
use Rattle.grammar.proofs.Outcomes.{Reached, step, unstep, after}
use Rattle.grammar.proofs.Looking.{Finds, Tests, kind_is, word_begins, begins_no_other, word_found, word_stands}
use Rattle.grammar.proofs.Looking.{past_does, past_is, some_is, none_not, true_not_false}
use Rattle.grammar.proofs.Lists.{Sound, Complete}
use Rattle.grammar.proofs.Parts.{word_sound, word_complete, word_shrinks, skip_sound, skip_complete, skip_shrinks}
use Rattle.grammar.proofs.OptionalWords.{tests_word}
use Rattle.data_division.specs.Clauses as g
use Rattle.data_division.specs.ClauseReading as r

-- ---- one of two words

module _ (one other : Reserved) where
  pub either_sound : Sound (λ u. g.either one other) (r.either_reader one other)
  unfolding r.either_reader
  either_sound u i rest e = go (begins_word one i) e
    where
      go : (b : Bool) → (if b then read.expect one i else read.expect other i) ≡ Ok (u, rest)
          → g.either one other i rest
      go true e = inl (word_sound one u i rest e)
      go false e = inr (word_sound other u i rest e)

  pub either_complete : {Allowed : Halt → Type 0} → same_word other one ≡ false
      → Complete Allowed (λ u. g.either one other) (r.either_reader one other)
  unfolding r.either_reader
  either_complete differ u i rest (inl s) = rw (word_begins one i rest s) (word_complete one u i rest s)
  either_complete differ u i rest (inr s) =
      rw (begins_no_other other one differ i rest s) (word_complete other u i rest s)

  pub either_shrinks : (i rest : List Token) → g.either one other i rest → length rest < length i
  either_shrinks i rest (inl s) = word_shrinks one i rest s
  either_shrinks i rest (inr s) = word_shrinks other i rest s

  neither : (i rest : List Token) → begins_word one i ≡ false → optional (word other) i rest
      → optional (g.either one other) i rest
  neither i rest none (inl s) = inl (inr s)
  neither i rest none (inr (same, absent)) = inr (same, go)
    where
      go : (after : List Token) → g.either one other i after → ⊥
      go after (inl s) = true_not_false (begins_word one i) none (word_begins one i after s)
      go after (inr s) = absent after s

  pub skip_either_sound : Sound (λ u. optional (g.either one other)) (r.skip_either one other)
  unfolding r.skip_either
  skip_either_sound u i rest e = go (begins_word one i) refl e
    where
      go : (b : Bool) → begins_word one i ≡ b → (if b then read.expect one i else read.skip other i) ≡ Ok (u, rest)
          → optional (g.either one other) i rest
      go true is e = inl (inl (word_sound one u i rest e))
      go false is e = neither i rest is (skip_sound other u i rest e)

  pub skip_either_complete : {Allowed : Halt → Type 0} → same_word other one ≡ false
      → Complete Allowed (λ u. optional (g.either one other)) (r.skip_either one other)
  unfolding r.skip_either
  skip_either_complete differ u i rest (inl (inl s)) = rw (word_begins one i rest s) (word_complete one u i rest s)
  skip_either_complete differ u i rest (inl (inr s)) =
      rw (begins_no_other other one differ i rest s) (skip_complete other u i rest (inl s))
  skip_either_complete differ u i rest (inr (same, absent)) =
      let none = (tests_word one).refuses i (λ after s. absent after (inl s)) in
      rw none (skip_complete other u i rest (inr (same, λ after s. absent after (inr s))))

  pub skip_either_shrinks : (i rest : List Token) → optional (g.either one other) i rest → length rest ≤ length i
  skip_either_shrinks i rest (inl s) = let l = either_shrinks i rest s in omega arith
  skip_either_shrinks i rest (inr (same, absent)) = let l = ap length same in omega arith

-- ---- two words stand where one of them begins

parted : (a b : Bool) → (a || b) ≡ false → (a ≡ false) × (b ≡ false)
parted true b e = cc
parted false b e = (refl, e)

joined : (a b : Bool) → a ≡ false → b ≡ false → (a || b) ≡ false
joined true b d e = cc
joined false b d e = e

pub tests_either : (one other : Reserved) → Tests (g.either one other) (λ i. begins_word one i || begins_word other i)
tests_either one other = record {
  fails = λ i e after s. go i (parted (begins_word one i) (begins_word other i) e) after s;
  refuses = λ i nowhere.
      joined (begins_word one i) (begins_word other i)
      ((tests_word one).refuses i (λ after s. nowhere after (inl s)))
      ((tests_word other).refuses i (λ after s. nowhere after (inr s)));
}
  where
    go : (i : List Token) → (begins_word one i ≡ false) × (begins_word other i ≡ false) → (after : List Token)
        → g.either one other i after → ⊥
    go i neither after (inl s) = (tests_word one).fails i neither.0 after s
    go i neither after (inr s) = (tests_word other).fails i neither.1 after s

-- ---- SEPARATE

mapped : (o : Option (List Token)) (f : List Token → List Token) (after : List Token) → option_map f o ≡ Some after
    → (middle : List Token) × (o ≡ Some middle) × (f middle ≡ after)
mapped None f after e = absurd (none_not e)
mapped (Some middle) f after e = (middle, refl, some_is e)

pub finds_separate : Finds g.separate r.after_separate
unfolding r.after_separate
finds_separate = record {
  found = λ i after e.
      let m = mapped (after_word w.Separate i) (past_word w.Character) after e in (
        m.0,
        word_found w.Separate i m.0 m.1,
        subst (λ j. optional (word w.Character) m.0 j) m.2 (past_does w.Character m.0),
      );
  stands = λ i after s. ap (option_map (past_word w.Character)) (word_stands w.Separate i s.0 s.1)
      ∙ ap Some (past_is w.Character s.0 after s.2);
}

pub separate_shrinks : (i rest : List Token) → g.separate i rest → length rest ≤ length i
separate_shrinks i rest (i1, first, character) = let a = word_shrinks w.Separate i i1 first in let b =
    skip_shrinks w.Character i1 rest character in omega arith
