-- Looking past what would be read: it passes what the rule spells.
use Rattle.std.proofs.Common.{◌≡◌, ℕ, zero, suc, Bool, true, false, if◌then◌else◌, List, [], ◌∷◌, ◌++◌, length, Option}
use Rattle.std.proofs.Common.{Some, None, refl, ap, ◌∙◌}
use Rattle.std.specs.Prelude.{Ok, Err}
use Rattle.tokens.specs.declared.token.Token.{Token}
use Rattle.grammar.specs.Parts.{Part, ◌then◌, some_of}
use Rattle.grammar.specs.Reading as r
use Rattle.grammar.specs.Reading.{Outcome, Parser, Words, and_then, rest_of, tokens_past, and_past, several_from}
use Rattle.grammar.specs.Reading.{past_several_from}
use Rattle.grammar.proofs.Lists.{Sound}
use Rattle.grammar.proofs.Looking.{Finds, some_is, none_not}

-- ---- readers in steps

pub past_then : {A B : Type 0} (o : Outcome A) (f : A → Parser B) (words : Words)
    → ((a : A) (j : List Token) → rest_of (f a j) ≡ words j)
    → rest_of (and_then o f) ≡ and_past (rest_of o) words
past_then (Ok p) f words each = each p.0 p.1
past_then (Err halt) f words each = refl

pub past_if : {A : Type 0} (b : Bool) (x y : Outcome A) (u v : Option (List Token)) → rest_of x ≡ u → rest_of y ≡ v
    → rest_of (if b then x else y) ≡ (if b then u else v)
past_if true x y u v e f = e
past_if false x y u v e f = f

-- ---- lists

module _ {A : Type 0} (read : Parser A) (begins : List Token → Bool) where
  passes_from : (turns : ℕ) (found : List A) (i : List Token)
      → rest_of (several_from read begins turns found i) ≡ past_several_from (tokens_past read) begins turns i
  unfolding several_from past_several_from
  passes_from zero found i = refl
  passes_from (suc turns) found i =
      past_then (read i) _ _ (λ one j. past_if (begins j) _ _ _ _ (passes_from turns (found ++ one ∷ []) j) refl)

  pub several_passes : (i : List Token) → rest_of (r.several read begins i) ≡ r.past_several (tokens_past read) begins i
  unfolding r.several r.past_several
  several_passes i = passes_from (length i) [] i

  pub any_passes : (i : List Token) → rest_of (r.any read begins i) ≡ r.past_any (tokens_past read) begins i
  unfolding r.any r.past_any
  any_passes i = past_if (begins i) _ _ _ _ (several_passes i) refl

-- ---- what is passed is spelled, and what is spelled is passed

pub finds_past_reader : {A : Type 0} (p : A → Part) (read : Parser A) → Sound p read
    → ((a : A) (i rest : List Token) → p a i rest → read i ≡ Ok (a, rest)) → Finds (some_of p) (tokens_past read)
finds_past_reader {A = A} p read sound only = record {
  found = λ i after e. go i after (read i) refl e;
  stands = λ i after s. ap rest_of (only s.0 i after s.1);
}
  where
    go : (i after : List Token) (o : Outcome A) → read i ≡ o → rest_of o ≡ Some after → some_of p i after
    go i after (Ok x) is e = (x.0, sound x.0 i after (is ∙ ap (λ j. Ok (x.0, j)) (some_is e)))
    go i after (Err halt) is e = absurd (none_not e)

both_found : (o : Option (List Token)) (words : Words) (after : List Token) → and_past o words ≡ Some after
    → (middle : List Token) × (o ≡ Some middle) × (words middle ≡ Some after)
both_found None words after e = absurd (none_not e)
both_found (Some middle) words after e = (middle, refl, e)

pub finds_both : {p q : Part} {first second : Words} → Finds p first → Finds q second
    → Finds (p then q) (λ i. and_past (first i) second)
finds_both {first = first} {second = second} one other = record {
  found = λ i after e.
      let f = both_found (first i) second after e in
      (f.0, one.found i f.0 f.1, other.found f.0 after f.2);
  stands = λ i after s. ap (λ o. and_past o second) (one.stands i s.0 s.1) ∙ other.stands s.0 after s.2;
}
