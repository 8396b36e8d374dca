-- Parts of one token, needed and optional words: what is read is spelled, and what is spelled is read.
use Rattle.std.proofs.Common.{◌≡◌, ◌<◌, ◌≤◌, Bool, true, false, List, [], ◌∷◌, length, Option, Some, None, Ok, inl, inr}
use Rattle.std.proofs.Common.{refl, sym, ap, ◌∙◌, subst, arith}
use Rattle.std.specs.Prelude.{if◌then◌else◌}
use Rattle.tokens.specs.declared.reserved.Reserved.{Reserved}
use Rattle.tokens.specs.declared.token.Kind.{Kind}
use Rattle.tokens.specs.declared.token.Kind.TheVariants as k
use Rattle.tokens.specs.declared.token.Token.{Token}
use Rattle.grammar.specs.declared.fault.Halt.{Halt}
use Rattle.grammar.specs.Parts as g
use Rattle.grammar.specs.Parts.{Part}
use Rattle.grammar.specs.Reading as r
use Rattle.grammar.specs.Reading.{Outcome, Parser, Words, after_word, past_word, outcome_of_rest, outcome_of_value}
use Rattle.grammar.proofs.Outcomes.{Reached, step, unstep, value, after, last}
use Rattle.grammar.proofs.Looking
use Rattle.grammar.proofs.Looking.{Finds, is_absent, is_missing, past_does, past_is, word_found, word_stands}
use Rattle.grammar.proofs.Lists.{Sound, Complete, Shrinks, Starts}

-- ---- one token

module _ {A : Type 0} (tells : Token → Option A) where
  told_sound : (o : Option A) (a : A) (first : Token) (more rest : List Token) → tells first ≡ o
      → outcome_of_value o more (first ∷ more) ≡ Ok (a, rest)
      → g.token_with tells a (first ∷ more) rest
  told_sound None a first more rest is e = cc
  told_sound (Some b) a first more rest is e = (first, ap (λ j. first ∷ j) (after e), is ∙ ap Some (value e))

  pub one_token_sound : Sound (g.token_with tells) (r.one_token tells)
  unfolding r.one_token
  one_token_sound a [] rest e = cc
  one_token_sound a (first ∷ more) rest e = told_sound (tells first) a first more rest refl e

  pub one_token_complete : {Allowed : Halt → Type 0} → Complete Allowed (g.token_with tells) (r.one_token tells)
  unfolding r.one_token
  one_token_complete a i rest (first, is, tell) =
      Reached (ap (r.one_token tells) is ∙ ap (λ o. outcome_of_value o rest (first ∷ rest)) tell)

  pub telling_shrinks : Shrinks (g.token_with tells)
  telling_shrinks a i rest (first, is, tell) = let l = ap length is in omega arith

  pub telling_starts : Starts (g.begins_telling tells) (g.token_with tells)
  telling_starts a i rest (first, is, tell) = ap (g.begins_telling tells) is ∙ ap g.is_told tell

pub name_sound : Sound g.name r.name
unfolding r.name
name_sound = one_token_sound g.name_in

pub name_complete : {Allowed : Halt → Type 0} → Complete Allowed g.name r.name
unfolding r.name
name_complete {Allowed = Allowed} = one_token_complete g.name_in {Allowed = Allowed}

pub name_shrinks : Shrinks g.name
name_shrinks = telling_shrinks g.name_in

pub name_starts : Starts g.begins_name g.name
name_starts = telling_starts g.name_in

-- ---- places

pub here_sound : Sound g.here r.here
unfolding r.here
here_sound place [] rest e = cc
here_sound place (first ∷ more) rest e = (after e, ap Some (value e))

pub here_complete : {Allowed : Halt → Type 0} → Complete Allowed g.here r.here
unfolding r.here
here_complete place [] rest s = absurd (Looking.none_not s.1)
here_complete place (first ∷ more) rest s =
    Reached (ap (λ p. Ok (p, first ∷ more)) (Looking.some_is s.1) ∙ ap (λ j. Ok (place, j)) s.0)

-- ---- words

pub word_sound : (one : Reserved) → Sound (λ u. g.word one) (r.expect one)
unfolding r.expect
word_sound one u i rest e = go (after_word one i) refl e
  where
    go : (found : Option (List Token)) → after_word one i ≡ found → outcome_of_rest found i ≡ Ok (u, rest)
        → g.word one i rest
    go None is e = cc
    go (Some m) is e = word_found one i rest (is ∙ ap Some (after e))

pub word_complete : {Allowed : Halt → Type 0} (one : Reserved) → Complete Allowed (λ u. g.word one) (r.expect one)
unfolding r.expect
word_complete one u i rest s = Reached (ap (λ x. outcome_of_rest x i) (word_stands one i rest s))

pub verb_sound : (one : Reserved) → Sound (g.verb one) (r.verb one)
unfolding r.verb
verb_sound one place i rest e =
    unstep (r.here i) _ e (λ at i1 is1 e1.
    unstep (r.expect one i1) _ e1 (λ u i2 is2 e2.
    subst (λ p. g.verb one p i rest) (value e2) (i1, here_sound at i i1 is1, word_sound one u i1 rest (last is2 e2))))

pub verb_complete : {Allowed : Halt → Type 0} (one : Reserved) → Complete Allowed (g.verb one) (r.verb one)
unfolding r.verb
verb_complete one place i rest (i1, at, s) =
    step (r.here i) _ (here_complete place i i1 at)
    (step (r.expect one i1) _ (word_complete one tt i1 rest s) (Reached refl))

-- the word that is known to come next is passed
pub advance_sound : (one : Token) (m rest : List Token) → r.advance (one ∷ m) ≡ Ok (tt, rest) → m ≡ rest
advance_sound one m rest e = after e

pub word_shrinks : (one : Reserved) (i rest : List Token) → g.word one i rest → length rest < length i
word_shrinks one i rest (first, is, kind) = let l = ap length is in omega arith

pub skip_sound : (one : Reserved) → Sound (λ u. g.optional (g.word one)) (r.skip one)
unfolding r.skip
skip_sound one u i rest e = subst (λ j. g.optional (g.word one) i j) (after e) (past_does one i)

pub skip_complete : {Allowed : Halt → Type 0} (one : Reserved)
    → Complete Allowed (λ u. g.optional (g.word one)) (r.skip one)
unfolding r.skip
skip_complete one u i rest s = Reached (ap (λ j. Ok (u, j)) (past_is one i rest s))

pub skip_shrinks : (one : Reserved) (i rest : List Token) → g.optional (g.word one) i rest → length rest ≤ length i
skip_shrinks one i rest (inl s) = let l = word_shrinks one i rest s in omega arith
skip_shrinks one i rest (inr s) = let l = ap length s.0 in omega arith

-- ---- phrases without a tree of their own

pub left_out_sound : {p : Part} {words : Words} → Finds p words → Sound (g.left_out p) (r.left_out words)
unfolding r.left_out
left_out_sound {p = p} {words = words} finds out i rest e = go (words i) refl e
  where
    go : (found : Option (List Token)) → words i ≡ found → r.left_out_at found i ≡ Ok (out, rest)
        → g.left_out p out i rest
    go None is e = subst (λ b. g.left_out p b i rest) (value e) (after e, is_absent finds i is)
    go (Some m) is e = subst (λ b. g.left_out p b i rest) (value e) (finds.found i rest (is ∙ ap Some (after e)))

pub left_out_complete : {Allowed : Halt → Type 0} {p : Part} {words : Words} → Finds p words
    → Complete Allowed (g.left_out p) (r.left_out words)
unfolding r.left_out
left_out_complete finds true i rest s =
    Reached (ap (λ o. r.left_out_at o i) (is_missing finds i s.1) ∙ ap (λ j. Ok (true, j)) s.0)
left_out_complete finds false i rest s = Reached (ap (λ o. r.left_out_at o i) (finds.stands i rest s))

pub left_out_shrinks : {p : Part} → ((i rest : List Token) → p i rest → length rest ≤ length i)
    → (out : Bool) (i rest : List Token) → g.left_out p out i rest → length rest ≤ length i
left_out_shrinks fewer true i rest s = let l = ap length s.0 in omega arith
left_out_shrinks fewer false i rest s = fewer i rest s

pub stands_sound : {p : Part} {words : Words} → Finds p words → Sound (g.optional_part p) (r.presence_reader words)
unfolding r.presence_reader
stands_sound {p = p} {words = words} finds there i rest e = go (words i) refl e
  where
    go : (found : Option (List Token)) → words i ≡ found → r.stands_at found i ≡ Ok (there, rest)
        → g.optional_part p there i rest
    go None is e = subst (λ b. g.optional_part p b i rest) (value e) (after e, is_absent finds i is)
    go (Some m) is e = subst (λ b. g.optional_part p b i rest) (value e) (finds.found i rest (is ∙ ap Some (after e)))

pub stands_complete : {Allowed : Halt → Type 0} {p : Part} {words : Words} → Finds p words
    → Complete Allowed (g.optional_part p) (r.presence_reader words)
unfolding r.presence_reader
stands_complete finds false i rest s =
    Reached (ap (λ o. r.stands_at o i) (is_missing finds i s.1) ∙ ap (λ j. Ok (false, j)) s.0)
stands_complete finds true i rest s = Reached (ap (λ o. r.stands_at o i) (finds.stands i rest s))

pub stands_shrinks : {p : Part} → ((i rest : List Token) → p i rest → length rest ≤ length i)
    → (there : Bool) (i rest : List Token) → g.optional_part p there i rest → length rest ≤ length i
stands_shrinks fewer true i rest s = fewer i rest s
stands_shrinks fewer false i rest s = let l = ap length s.0 in omega arith

-- ---- periods

period_is : (kind : Kind) → r.is_period kind ≡ true → kind ≡ k.Period
period_is (k.Reserved _) e = cc
period_is (k.Word characters) e = cc
period_is (k.Numeric number) e = cc
period_is (k.Nonnumeric bytes) e = cc
period_is (k.Picture characters) e = cc
period_is k.Period e = refl
period_is k.LeftParenthesis e = cc
period_is k.RightParenthesis e = cc
period_is k.Colon e = cc
period_is (k.Operator operator) e = cc

pub period_sound : Sound (λ u. g.period) r.period
unfolding r.period
period_sound u [] rest e = cc
period_sound u (first ∷ more) rest e = go (r.is_period first.kind) refl e
  where
    go : (b : Bool) → r.is_period first.kind ≡ b → (if b then Ok (tt, more) else r.refuse (first ∷ more)) ≡ Ok (u, rest)
        → g.period (first ∷ more) rest
    go true is e = (first, ap (λ j. first ∷ j) (after e), period_is first.kind is)
    go false is e = cc

pub period_complete : {Allowed : Halt → Type 0} → Complete Allowed (λ u. g.period) r.period
unfolding r.period
period_complete u i rest (first, is, kind) =
    Reached (ap r.period is ∙ ap (λ b. if b then Ok (tt, rest) else r.refuse (first ∷ rest)) (ap r.is_period kind))

pub period_shrinks : (i rest : List Token) → g.period i rest → length rest < length i
period_shrinks i rest (first, is, kind) = let l = ap length is in omega arith

-- ---- headings

pub heading_sound : (words : List Reserved) → Sound (λ u. g.heading words) (r.heading_reader words)
unfolding r.heading_reader
heading_sound [] u i rest e = period_sound u i rest e
heading_sound (one ∷ more) u i rest e =
    unstep (r.expect one i) _ e (λ v i1 is1 e1. (i1, word_sound one v i i1 is1, heading_sound more u i1 rest e1))

pub heading_complete : {Allowed : Halt → Type 0} (words : List Reserved)
    → Complete Allowed (λ u. g.heading words) (r.heading_reader words)
unfolding r.heading_reader
heading_complete [] u i rest s = period_complete u i rest s
heading_complete (one ∷ more) u i rest s =
    step (r.expect one i) _ (word_complete one tt i s.0 s.1) (heading_complete more u s.0 rest s.2)

pub heading_shrinks : (words : List Reserved) (i rest : List Token) → g.heading words i rest → length rest < length i
heading_shrinks [] i rest s = period_shrinks i rest s
heading_shrinks (one ∷ more) i rest s =
    let a = word_shrinks one i s.0 s.1 in let b = heading_shrinks more s.0 rest s.2 in omega arith

-- ---- the end

pub nothing_sound : (u : Unit {0}) (i rest : List Token) → r.end_reader i ≡ Ok (u, rest) → i ≡ []
unfolding r.end_reader
nothing_sound u [] rest e = refl
nothing_sound u (first ∷ more) rest e = cc

pub nothing_ends : (u : Unit {0}) (i rest : List Token) → r.end_reader i ≡ Ok (u, rest) → rest ≡ []
unfolding r.end_reader
nothing_ends u [] rest e = sym (after e)
nothing_ends u (first ∷ more) rest e = cc
