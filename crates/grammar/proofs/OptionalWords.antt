-- A word that may be left out, with the IS after it: what is read is spelled, and what is spelled is read.
use Rattle.std.proofs.Common.{◌≡◌, ◌≤◌, Bool, true, false, List, [], ◌∷◌, length, Ok, inl, inr, refl, ap, arith}
use Rattle.std.specs.Prelude.{if◌then◌else◌}
use Rattle.tokens.specs.declared.reserved.Reserved.{Reserved}
use Rattle.tokens.specs.declared.reserved.Reserved.TheVariants as w
use Rattle.tokens.specs.declared.token.Token.{Token}
use Rattle.grammar.specs.declared.fault.Halt.{Halt}
use Rattle.grammar.specs.OptionalWords as rule
use Rattle.grammar.specs.Parts.{word}
use Rattle.grammar.specs.Reading as read
use Rattle.grammar.specs.Reading.{◌>>◌, begins_word, past_word}
use Rattle.grammar.proofs.Outcomes.{Reached, step, unstep, after}
use Rattle.grammar.proofs.Looking.{Tests, kind_is, word_begins, past_does, true_not_false}
use Rattle.grammar.proofs.Lists.{Sound, Complete}
use Rattle.grammar.proofs.Parts.{word_sound, word_complete, word_shrinks, skip_sound, skip_complete, skip_shrinks}

-- ---- a word stands exactly where it begins

word_there : (one : Reserved) (i : List Token) → begins_word one i ≡ true → (after : List Token) × word one i after
word_there one [] e = cc
word_there one (first ∷ more) e = (more, (first, refl, kind_is one first.kind e))

pub tests_word : (one : Reserved) → Tests (word one) (begins_word one)
tests_word one = record {
  fails = λ i e after s. true_not_false (begins_word one i) e (word_begins one i after s);
  refuses = λ i nowhere. go i (begins_word one i) refl nowhere;
}
  where
    go : (i : List Token) (b : Bool) → begins_word one i ≡ b → ((after : List Token) → word one i after → ⊥)
        → begins_word one i ≡ false
    go i true is nowhere = let there = word_there one i is in absurd (nowhere there.0 there.1)
    go i false is nowhere = is

-- ---- a word with IS, or neither

module _ (one : Reserved) where
  pub skip_led_sound : Sound (λ u. rule.led_by one) (rule.skip_led one)
  unfolding rule.skip_led
  skip_led_sound u i rest e = go (begins_word one i) refl e
    where
      go : (b : Bool) → begins_word one i ≡ b
          → (if b then (read.expect one >> read.skip w.Is) i else Ok (tt, i)) ≡ Ok (u, rest) → rule.led_by one i rest
      go true is e = unstep (read.expect one i) _ e
          (λ v i1 is1 e1. inl (i1, word_sound one v i i1 is1, skip_sound w.Is u i1 rest e1))
      go false is e = inr (after e, λ middle s. (tests_word one).fails i is s.0 s.1)

  pub skip_led_complete : {Allowed : Halt → Type 0} → Complete Allowed (λ u. rule.led_by one) (rule.skip_led one)
  unfolding rule.skip_led
  skip_led_complete u i rest (inl (i1, first, is)) =
      rw (word_begins one i i1 first)
      (step (read.expect one i) _ (word_complete one tt i i1 first) (skip_complete w.Is u i1 rest is))
  skip_led_complete u i rest (inr (same, absent)) =
      let none =
      (tests_word one).refuses i (λ middle s. absent (past_word w.Is middle) (middle, s, past_does w.Is middle)) in
      rw none (Reached (ap (λ j. Ok (tt, j)) same))

  pub led_shrinks : (i rest : List Token) → rule.led_by one i rest → length rest ≤ length i
  led_shrinks i rest (inl (i1, first, is)) = let a = word_shrinks one i i1 first in let b =
      skip_shrinks w.Is i1 rest is in omega arith
  led_shrinks i rest (inr (same, absent)) = let l = ap length same in omega arith
