-- The function and the relation agree, and what follows for spans and places.
use Rattle.std.proofs.Common.{◌≡◌, ◌≤◌, ◌+◌, ◌-◌, ℕ, zero, suc, List, [], ◌∷◌, ◌++◌, length, take, drop, Option, None}
use Rattle.std.proofs.Common.{Some, Ok, Err, refl, sym, ap, ◌∙◌, subst, arith, append_assoc, length-append}
use Rattle.std.proofs.Common.{length-take-le, take-append-drop, length-drop}
use Rattle.source_lines.specs.declared.lines.Character.{Character}
use Rattle.tokens.specs.declared.context.Context.{Context}
use Rattle.tokens.specs.declared.lexeme.Lexeme.{Lexeme}
use Rattle.tokens.specs.declared.token.Kind.{Kind}
use Rattle.tokens.specs.declared.token.Token.{Token}
use Rattle.tokens.specs.Contexts.{context_after}
use Rattle.tokens.specs.Lexemes.{lexeme}
use Rattle.tokens.specs.Scanning.{Tokens, tokens_from, before_others, token_of, span_of}
use Rattle.tokens.specs.Kinds.{IsFront}
use Rattle.tokens.specs.Tokens.{AreTokens, at_end, front, NoLonger, InOrder, place_at, ArePlacedBy}
use Rattle.tokens.specs.Words.{Outcome}
use Rattle.tokens.proofs.Fixed.{fixed}
use Rattle.tokens.proofs.Fronts.{front_is}
use Rattle.tokens.proofs.Scans.{goes_on, stops, drop-more}
use Rattle.tokens.proofs.Sizes.{Sized, lexeme_sized, low, high}

drop_text : (text rest : List Character) → drop (length text) (text ++ rest) ≡ rest
drop_text [] rest = refl
drop_text (c ∷ text) rest = drop_text text rest

-- what is in the relation is what the function answers
pub only : {before : Context} {start : ℕ} {characters : List Character} {found : List Token}
    → AreTokens before start characters found → tokens_from 0 before start characters ≡ Ok found
only at_end = refl
only {before} {start} (front {others = others} c text rest kind is more) =
    goes_on before start c (text ++ rest) (record { kind = kind; size = suc (length text) }) (omega arith)
    (fixed before c text rest kind is)
    ∙ ap (λ l. before_others (token_of kind (span_of start (suc (length text))) c.place)
    (tokens_from 0 (context_after before kind) (start + suc (length text)) l)) (drop_text text rest)
    ∙ ap (before_others (token_of kind (span_of start (suc (length text))) c.place)) (only more)

-- a front that is taken off the characters
taken : {before : Context} {start : ℕ} {others : List Token} (c : Character) (text rest more : List Character)
    (one : Lexeme) → text ++ rest ≡ more → one.size ≡ suc (length text)
    → lexeme before c more ≡ Ok one → AreTokens (context_after before one.kind) (start + one.size) rest others
    → AreTokens before start (c ∷ more) (token_of one.kind (span_of start one.size) c.place ++ others)
taken {before} {start} {others} c text rest more one is_more is_size is others_are =
    let seen : lexeme before c (text ++ rest) ≡ Ok (record { kind = one.kind; size = suc (length text) }) =
    ap (lexeme before c) is_more ∙ is ∙ ap (λ n. Ok (record { kind = one.kind; size = n })) is_size in
    subst (λ l. AreTokens before start (c ∷ l) (token_of one.kind (span_of start one.size) c.place ++ others)) is_more
    (subst (λ n. AreTokens before start (c ∷ (text ++ rest)) (token_of one.kind (span_of start n) c.place ++ others))
    (sym is_size)
    (front c text rest one.kind (front_is before c text rest one.kind seen)
    (subst (λ n. AreTokens (context_after before one.kind) (start + n) rest others) is_size others_are)))

ok_is : {found others : List Token} → ◌≡◌ {A = Tokens} (Ok found) (Ok others) → found ≡ others
ok_is e = cc

-- what the function answers for so many characters is in the relation
abbrev Answered : ℕ → Type 0
Answered n = (before : Context) (start : ℕ) (characters : List Character) (found : List Token) → length characters ≤ n
    → tokens_from 0 before start characters ≡ Ok found → AreTokens before start characters found

-- what the function answers is in the relation; the number bounds the characters
pub answered_within : (n : ℕ) (before : Context) (start : ℕ) (characters : List Character) (found : List Token)
    → length characters ≤ n
    → tokens_from 0 before start characters ≡ Ok found → AreTokens before start characters found
answered_within n before start [] found h is = subst (λ l. AreTokens before start [] l) (ok_is is) at_end
answered_within zero before start (c ∷ more) found h is = absurd (omega arith)
answered_within (suc n) before start (c ∷ more) found h is = go (answered_within n) (lexeme before c more) refl
  where
    joined : Answered n → (one : Lexeme) → 1 ≤ one.size → one.size ≤ suc (length more) → lexeme before c more ≡ Ok one
        → (others : Tokens)
        → tokens_from 0 (context_after before one.kind) (start + one.size) (drop (one.size - 1) more) ≡ others
        → before_others (token_of one.kind (span_of start one.size) c.place) others ≡ Ok found
        → AreTokens before start (c ∷ more) found
    joined answered one l m is_one (Err fault) rest_is all = cc
    joined answered one l m is_one (Ok others) rest_is all =
        let left : length (drop (one.size - 1) more) ≤ n = rw length-drop (omega arith) in
        let size : one.size ≡ suc (length (take (one.size - 1) more)) = let t : length (take (one.size - 1) more)
        ≡ one.size - 1 = length-take-le (one.size - 1) more (omega arith) in omega arith in
        subst (λ l. AreTokens before start (c ∷ more) l) (ok_is all)
        (taken c (take (one.size - 1) more) (drop (one.size - 1) more) more one (take-append-drop (one.size - 1) more)
        size is_one
        (answered (context_after before one.kind) (start + one.size) (drop (one.size - 1) more) others left rest_is))

    go : Answered n → (o : Outcome) → lexeme before c more ≡ o → AreTokens before start (c ∷ more) found
    go answered (Err fault) is_err = let s = stops before start c more fault is_err in cc
    go answered (Ok one) is_one =
        let s = subst (λ o. Sized (suc (length more)) o) is_one (lexeme_sized before c more) in
        joined answered one (low s) (high s) is_one
        (tokens_from 0 (context_after before one.kind) (start + one.size) (drop (one.size - 1) more)) refl
        (ap (λ l. before_others (token_of one.kind (span_of start one.size) c.place)
        (tokens_from 0 (context_after before one.kind) (start + one.size) l)) (drop-more one.size c more (low s))
        ∙ sym (goes_on before start c more one (low s) is_one) ∙ is)

-- a front is the longest that can begin at its place
pub longest : (before : Context) (kind : Option Kind) (c : Character) (text rest : List Character)
    → IsFront before kind (c ∷ text) rest → NoLonger before c (text ++ rest) (c ∷ text)
longest before kind c text rest is other more left same other_is =
    let one : lexeme before c (text ++ rest) ≡ Ok (record { kind = kind; size = suc (length text) }) =
    fixed before c text rest kind is in
    let two : lexeme before c (text ++ rest) ≡ Ok (record { kind = other; size = suc (length more) }) =
    ap (lexeme before c) same ∙ fixed before c more left other other_is in
    size_is (sym two ∙ one)
  where
    size_of : Outcome → ℕ
    size_of (Ok found) = found.size
    size_of (Err fault) = 0

    size_is : {a b : Lexeme} → ◌≡◌ {A = Outcome} (Ok a) (Ok b) → a.size ≤ b.size
    size_is e = let sizes = ap size_of e in omega arith

-- ---- spans and places

pub in_order : {before : Context} {start : ℕ} {characters : List Character} {found : List Token} (from : ℕ)
    → from ≤ start → AreTokens before start characters found → InOrder from (start + length characters) found
in_order from h at_end = omega arith
in_order {start = start} from h (front {others = others} c text rest None is more) =
    subst (λ n. InOrder from n others) (total start text rest c) (in_order from (omega arith) more)
  where
    total : (start : ℕ) (text rest : List Character) (c : Character)
        → (start + suc (length text)) + length rest ≡ start + length (c ∷ (text ++ rest))
    total start text rest c = let l = length-append text rest in omega arith
in_order {start = start} from h (front {others = others} c text rest (Some kind) is more) = (
  h,
  omega arith,
  subst (λ n. InOrder (start + suc (length text)) n others) (total start text rest c)
      (in_order (start + suc (length text)) (omega arith) more),
)
  where
    total : (start : ℕ) (text rest : List Character) (c : Character)
        → (start + suc (length text)) + length rest ≡ start + length (c ∷ (text ++ rest))
    total start text rest c = let l = length-append text rest in omega arith

place_after : (passed : List Character) (c : Character) (more : List Character)
    → place_at (passed ++ (c ∷ more)) (length passed) ≡ Some c.place
place_after [] c more = refl
place_after (p ∷ passed) c more = place_after passed c more

pub placed : {before : Context} {start : ℕ} {characters : List Character} {found : List Token} (passed : List Character)
    → start ≡ length passed → AreTokens before start characters found → ArePlacedBy (passed ++ characters) found
placed passed h at_end = tt
placed {start = start} passed h (front {others = others} c text rest kind is more) =
    let counts : start + suc (length text) ≡ length (passed ++ (c ∷ text)) = let l =
    length-append passed (c ∷ text) in omega arith in
    go kind (subst (λ l. ArePlacedBy l others) (append_assoc passed (c ∷ text) rest)
    (placed (passed ++ (c ∷ text)) counts more))
  where
    go : (k : Option Kind) → ArePlacedBy (passed ++ (c ∷ (text ++ rest))) others → ArePlacedBy
        (passed ++ (c ∷ (text ++ rest))) (token_of k (span_of start (suc (length text))) c.place ++ others)
    go None others_are = others_are
    go (Some one) others_are =
        (ap (place_at (passed ++ (c ∷ (text ++ rest)))) h ∙ place_after passed c (text ++ rest), others_are)
