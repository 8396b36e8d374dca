-- Two-sided phrases, whatever reads their statements: what is read is spelled, and what is spelled is read.
use Rattle.std.proofs.Common.{◌≡◌, ◌<◌, ◌≤◌, List, length, Option, Some, None, Ok, refl, ap, ◌∙◌, subst, arith}
use Rattle.std.specs.Option.{option_map}
use Rattle.tokens.specs.declared.reserved.Reserved.{Reserved}
use Rattle.tokens.specs.declared.reserved.Reserved.TheVariants as w
use Rattle.tokens.specs.declared.token.Token.{Token}
use Rattle.grammar.specs.declared.fault.Halt.{Halt}
use Rattle.source_tree.specs.declared.phrases.Phrases.{Phrases}
use Rattle.grammar.specs.declared.phrase.Phrase.{Phrase}
use Rattle.grammar.specs.declared.phrase.Phrase.TheVariants.{SizeError, AtEnd, InvalidKey, Overflow}
use Rattle.grammar.specs.Parts.{Part, ◌then◌, optional, word}
use Rattle.grammar.specs.Reading.{Parser, Words, after_word, past_word}
use Rattle.grammar.specs.Phrases as g
use Rattle.grammar.proofs.Outcomes.{Reached, step, unstep, value, after, last}
use Rattle.grammar.proofs.Looking.{Finds, is_absent, is_missing, some_is, none_not, past_does, past_is, finds_word}
use Rattle.grammar.proofs.Looking.{finds_also, finds_past}
use Rattle.grammar.proofs.Lists.{Sound, Complete, Shrinks}
use Rattle.grammar.proofs.Parts.{word_shrinks, skip_shrinks}
use Rattle.grammar.proofs.Past.{finds_both}

-- ---- their words

mapped : (o : Option (List Token)) (f : List Token → List Token) (after : List Token) → option_map f o ≡ Some after
    → (middle : List Token) × (o ≡ Some middle) × (f middle ≡ after)
mapped None f after e = absurd (none_not e)
mapped (Some middle) f after e = (middle, refl, some_is e)

finds_then_past : (p : Part) (words : Words) (one : Reserved) → Finds p words
    → Finds (p then optional (word one)) (λ i. option_map (past_word one) (words i))
finds_then_past p words one finds = record {
  found = λ i after e.
      let m = mapped (words i) (past_word one) after e in
      (m.0, finds.found i m.0 m.1, subst (λ j. optional (word one) m.0 j) m.2 (past_does one m.0));
  stands = λ i after s. ap (option_map (past_word one)) (finds.stands i s.0 s.1) ∙ ap Some (past_is one s.0 after s.2);
}

pub opened_finds : (one : Phrase) → Finds (g.phrase_words one) (g.after_opened one)
opened_finds SizeError = finds_past w.On _ _ (finds_also (word w.Size) (after_word w.Size) w.Error (finds_word w.Size))
opened_finds AtEnd = finds_past w.At (word w.End) (after_word w.End) (finds_word w.End)
opened_finds InvalidKey = finds_then_past (word w.Invalid) (after_word w.Invalid) w.Key (finds_word w.Invalid)
opened_finds Overflow = finds_past w.On (word w.Overflow) (after_word w.Overflow) (finds_word w.Overflow)

pub denied_finds : (one : Phrase) → Finds (g.negated_phrase_words one) (g.after_denied one)
denied_finds one = finds_both (finds_word w.Not) (opened_finds one)

opened_shrinks : (one : Phrase) (i rest : List Token) → g.phrase_words one i rest → length rest < length i
opened_shrinks SizeError i rest (i1, on, (i2, size, error)) =
    let a = skip_shrinks w.On i i1 on in let b = word_shrinks w.Size i1 i2 size in let c =
    word_shrinks w.Error i2 rest error in omega arith
opened_shrinks AtEnd i rest (i1, at, end) = let a = skip_shrinks w.At i i1 at in let b =
    word_shrinks w.End i1 rest end in omega arith
opened_shrinks InvalidKey i rest (i1, invalid, key) = let a = word_shrinks w.Invalid i i1 invalid in let b =
    skip_shrinks w.Key i1 rest key in omega arith
opened_shrinks Overflow i rest (i1, on, overflow) = let a = skip_shrinks w.On i i1 on in let b =
    word_shrinks w.Overflow i1 rest overflow in omega arith

denied_shrinks : (one : Phrase) (i rest : List Token) → g.negated_phrase_words one i rest → length rest < length i
denied_shrinks one i rest (i1, first, words) = let a = word_shrinks w.Not i i1 first in let b =
    opened_shrinks one i1 rest words in omega arith

-- ---- words and statements

module _ {S : Type 0} (statements : List S → Part) where
  pub phrase_shrinks : (p : Part) → ((i rest : List Token) → p i rest → length rest < length i) → Shrinks statements
      → (x : Option (List S)) (i rest : List Token) → g.phrase statements p x i rest → length rest ≤ length i
  phrase_shrinks p fewer each None i rest s = let e = ap length s.0 in omega arith
  phrase_shrinks p fewer each (Some done) i rest (i1, words, s) = let a = fewer i i1 words in let b =
      each done i1 rest s in omega arith

  pub two_sided_shrinks : (one : Phrase) → Shrinks statements → (x : Phrases S) (i rest : List Token)
      → g.two_sided statements one x i rest → length rest ≤ length i
  two_sided_shrinks one each x i rest (i1, arose, did_not) =
      let a = phrase_shrinks (g.phrase_words one) (opened_shrinks one) each x.arose i i1 arose in
      let b =
      phrase_shrinks (g.negated_phrase_words one) (denied_shrinks one) each x.did_not i1 rest did_not in omega arith

  module _ (reader : Parser (List S)) where
    pub phrase_sound : {p : Part} {words : Words} → Finds p words → Sound statements reader
        → Sound (g.phrase statements p) (g.phrase_reader reader words)
    unfolding g.phrase_reader
    phrase_sound {p = p} {words = words} finds each x i rest e = go (words i) refl e
      where
        go : (o : Option (List Token)) → words i ≡ o → g.phrase_at reader o i ≡ Ok (x, rest)
            → g.phrase statements p x i rest
        go None is e = subst (λ y. g.phrase statements p y i rest) (value e) (after e, is_absent finds i is)
        go (Some m) is e =
            unstep (reader m) _ e (λ done i1 is1 e1.
            subst (λ y. g.phrase statements p y i rest) (value e1)
            (m, finds.found i m is, each done m rest (last is1 e1)))

    pub two_sided_sound : (one : Phrase) → Sound statements reader
        → Sound (g.two_sided statements one) (g.two_sided_reader reader one)
    unfolding g.two_sided_reader
    two_sided_sound one each x i rest e =
        unstep (g.phrase_reader reader (g.after_opened one) i) _ e (λ arose i1 is1 e1.
        unstep (g.phrase_reader reader (g.after_denied one) i1) _ e1 (λ did_not i2 is2 e2.
        subst (λ y. g.two_sided statements one y i rest) (value e2) (
          i1,
          phrase_sound (opened_finds one) each arose i i1 is1,
          phrase_sound (denied_finds one) each did_not i1 rest (last is2 e2),
        )))

    module _ (Allowed : Halt → Type 0) (each : Complete Allowed statements reader) where
      pub phrase_complete : {p : Part} {words : Words} → Finds p words
          → Complete Allowed (g.phrase statements p) (g.phrase_reader reader words)
      unfolding g.phrase_reader
      phrase_complete finds None i rest s =
          Reached (ap (λ o. g.phrase_at reader o i) (is_missing finds i s.1) ∙ ap (λ j. Ok (None, j)) s.0)
      phrase_complete finds (Some done) i rest (m, words, s) =
          rw (finds.stands i m words) (step (reader m) _ (each done m rest s) (Reached refl))

      pub two_sided_complete : (one : Phrase)
          → Complete Allowed (g.two_sided statements one) (g.two_sided_reader reader one)
      unfolding g.two_sided_reader
      two_sided_complete one x i rest (i1, arose, did_not) =
          step (g.phrase_reader reader (g.after_opened one) i) _ (phrase_complete (opened_finds one) x.arose i i1 arose)
          (step (g.phrase_reader reader (g.after_denied one) i1) _
          (phrase_complete (denied_finds one) x.did_not i1 rest did_not) (Reached refl))
