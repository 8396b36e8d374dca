-- The function refuses where the relation has a fault, and with that fault.
use Rattle.std.proofs.Common.{◌≡◌, ◌≤◌, ◌+◌, ◌-◌, ℕ, zero, suc, Bool, true, false, ◌||◌, ◌&&◌, not, cond, eqb, List, []}
use Rattle.std.proofs.Common.{◌∷◌, ◌++◌, length, take, drop, Option, None, Some, Ok, Err, refl, sym, ap, ◌∙◌, subst}
use Rattle.std.proofs.Common.{arith, length-take-le, take-append-drop, length-drop}
use Rattle.std.specs.Prelude.{nat_lt}
use Rattle.source_lines.specs.declared.lines.Character.{Character}
use Rattle.lexical.specs.declared.number.Sign.{Sign}
use Rattle.lexical.specs.declared.number.Sign.TheVariants.{Unsigned, Plus, Minus}
use Rattle.lexical.specs.declared.place.Place.{Place}
use Rattle.tokens.specs.declared.character.Class.TheVariants as class
use Rattle.tokens.specs.declared.context.Context.{Context}
use Rattle.tokens.specs.declared.fault.FaultKind.{FaultKind}
use Rattle.tokens.specs.declared.fault.FaultKind.TheVariants.{StrayCharacter, WrongWord, WrongNumericLiteral}
use Rattle.tokens.specs.declared.fault.FaultKind.TheVariants.{WrongNonnumericLiteral}
use Rattle.tokens.specs.declared.fault.TokenFault.{TokenFault}
use Rattle.tokens.specs.declared.lexeme.Lexeme.{Lexeme}
use Rattle.tokens.specs.declared.token.Kind.{Kind}
use Rattle.tokens.specs.declared.token.Operator.{Operator}
use Rattle.tokens.specs.Characters.{is_in, run_size, begins_with_class, ends_with_class}
use Rattle.tokens.specs.Contexts.{context_after, awaits_picture, is_joined}
use Rattle.tokens.specs.Kinds.{IsFront}
use Rattle.tokens.specs.Lexemes.{lexeme, plain_lexeme, punctuation, comparison, is_equal_sign, begins_word}
use Rattle.tokens.specs.Lexemes.{signed_lexeme, sign_here}
use Rattle.tokens.specs.Literals.{numeric, nonnumeric, quoted_characters, closed_literal, begins_number, after_point}
use Rattle.tokens.specs.Refusals.{NoFront, wrong, IsRefused, here, further}
use Rattle.tokens.specs.Scanning.{Tokens, tokens_from, before_others, token_of, span_of}
use Rattle.tokens.specs.Words.{Outcome, word}
use Rattle.tokens.proofs.Fixed.{fixed}
use Rattle.tokens.proofs.Fronts.{front_is}
use Rattle.tokens.proofs.Scans.{goes_on, stops, drop-more}
use Rattle.tokens.proofs.Sizes.{Sized, lexeme_sized, low, high, digit_first}

-- ---- which fault the function has at the front

data Blames (kind : FaultKind) (place : Place) : Outcome → Type 0 where
  none : {one : Lexeme} → Blames kind place (Ok one)
  fault : Blames kind place (Err (record { kind = kind; place = place }))

blames_by : {kind : FaultKind} {place : Place} {x y : Outcome} (b : Bool) → (b ≡ true → Blames kind place x)
    → (b ≡ false → Blames kind place y) → Blames kind place (cond b x y)
blames_by true s t = s refl
blames_by false s t = t refl

word_blames : (place : Place) (cs : List Character) → Blames WrongWord place (word place cs)
unfolding word
word_blames place cs = blames_by (nat_lt 30 (run_size class.InWord cs)
    || ends_with_class class.Hyphen (take (run_size class.InWord cs) cs)) (λ _. fault) (λ _. none)

numeric_blames : (place : Place) (sign : Sign) (cs : List Character)
    → Blames WrongNumericLiteral place (numeric place sign cs)
unfolding numeric
numeric_blames place sign cs = blames_by (nat_lt 18 (run_size class.Digit cs
    + run_size class.Digit (after_point (drop (run_size class.Digit cs) cs)))) (λ _. fault) (λ _. none)

nonnumeric_blames : (place : Place) (mark : ℕ) (cs : List Character)
    → Blames WrongNonnumericLiteral place (nonnumeric place mark cs)
unfolding nonnumeric
nonnumeric_blames place mark cs = go (quoted_characters mark false [] 1 cs)
  where
    go : (x : Option (List ℕ × ℕ)) → Blames WrongNonnumericLiteral place (closed_literal place x)
    go None = fault
    go (Some (text, size)) = blames_by (eqb (length text) 0 || nat_lt 160 (length text)) (λ _. fault) (λ _. none)

comparison_blames : (place : Place) (alone both : Operator) (more : List Character)
    → Blames StrayCharacter place (comparison alone both more)
unfolding comparison
comparison_blames place alone both more = blames_by (is_equal_sign more) (λ _. none) (λ _. none)

punctuation_blames : (place : Place) (first : ℕ) (more : List Character)
    → Blames StrayCharacter place (punctuation place first more)
unfolding punctuation
punctuation_blames place first more =
    blames_by (eqb first 46) (λ _. blames_by (begins_with_class class.Nonblank more) (λ _. fault) (λ _. none))
    (λ _. blames_by (eqb first 40) (λ _. none)
    (λ _. blames_by (eqb first 41) (λ _. none)
    (λ _. blames_by (eqb first 58) (λ _. none)
    (λ _. blames_by (eqb first 43) (λ _. none)
    (λ _. blames_by (eqb first 45) (λ _. none)
    (λ _. blames_by (eqb first 42) (λ _. none)
    (λ _. blames_by (eqb first 47) (λ _. none)
    (λ _. blames_by (eqb first 61) (λ _. none)
    (λ _. blames_by (eqb first 62) (λ _. comparison_blames place _ _ more)
    (λ _. blames_by (eqb first 60) (λ _. comparison_blames place _ _ more) (λ _. fault)))))))))))

-- what a plus or minus begins, by whether a number follows where a sign may stand
abbrev signed_kind : Bool → ℕ → FaultKind
signed_kind number first = cond (number && (eqb first 43 || eqb first 45)) WrongNumericLiteral StrayCharacter

sign_blames : (before : Context) (c : Character) (more : List Character)
    → Blames (signed_kind (not (is_joined before) && begins_number more) c.byte) c.place
    (signed_lexeme (sign_here before c.byte more) c.place c.byte more)
sign_blames before c more = go (not (is_joined before) && begins_number more)
  where
    minus : (b : Bool) → Blames (cond (false || b) WrongNumericLiteral StrayCharacter) c.place
        (signed_lexeme (cond b (Some Minus) None) c.place c.byte more)
    minus true = numeric_blames c.place Minus more
    minus false = punctuation_blames c.place c.byte more

    plus : (b : Bool) → Blames (cond (b || eqb c.byte 45) WrongNumericLiteral StrayCharacter) c.place
        (signed_lexeme (cond b (Some Plus) (cond (eqb c.byte 45) (Some Minus) None)) c.place c.byte more)
    plus true = numeric_blames c.place Plus more
    plus false = minus (eqb c.byte 45)

    go : (b : Bool) → Blames (signed_kind b c.byte) c.place (signed_lexeme
        (cond b (cond (eqb c.byte 43) (Some Plus) (cond (eqb c.byte 45) (Some Minus) None)) None) c.place c.byte more)
    go true = plus (eqb c.byte 43)
    go false = punctuation_blames c.place c.byte more

-- where no word, number or mark begins
abbrev other_kind : Context → Character → List Character → FaultKind
other_kind before c more = signed_kind (not (is_joined before) && begins_number more) c.byte

-- the same by what begins there
abbrev kind_by : Bool → Bool → Bool → FaultKind → FaultKind
kind_by a_word a_number a_mark other =
    cond a_word WrongWord (cond a_number WrongNumericLiteral (cond a_mark WrongNonnumericLiteral other))

plain_blames : (before : Context) (c : Character) (more : List Character)
    → Blames (wrong before (c ∷ more)) c.place (plain_lexeme before c more)
unfolding plain_lexeme
plain_blames before c more =
    blames_by (is_in class.Separator c.byte) (λ _. none) (λ _. in_word (is_in class.LetterOrDigit c.byte) refl)
  where
    marked : (b : Bool) → Blames (kind_by false false b (other_kind before c more)) c.place
        (cond b (nonnumeric c.place c.byte more) (signed_lexeme (sign_here before c.byte more) c.place c.byte more))
    marked true = nonnumeric_blames c.place c.byte more
    marked false = sign_blames before c more

    numbered : (b : Bool) → Blames (kind_by false b (is_in class.Mark c.byte) (other_kind before c more)) c.place
        (cond b (numeric c.place Unsigned (c ∷ more)) (cond (is_in class.Mark c.byte) (nonnumeric c.place c.byte more)
        (signed_lexeme (sign_here before c.byte more) c.place c.byte more)))
    numbered true = numeric_blames c.place Unsigned (c ∷ more)
    numbered false = marked (is_in class.Mark c.byte)

    lettered : is_in class.LetterOrDigit c.byte ≡ true → (b : Bool) → begins_word (c ∷ more) ≡ b
        → Blames (kind_by (true && b) (begins_number (c ∷ more)) (is_in class.Mark c.byte) (other_kind before c more))
        c.place (cond b (word c.place (c ∷ more)) (numeric c.place Unsigned (c ∷ more)))
    lettered e true letter = word_blames c.place (c ∷ more)
    lettered e false not_word =
        let number : begins_number (c ∷ more) ≡ true = rw (digit_first c more e not_word) refl in
        subst (λ b. Blames (kind_by false b (is_in class.Mark c.byte) (other_kind before c more)) c.place
        (numeric c.place Unsigned (c ∷ more))) (sym number) (numeric_blames c.place Unsigned (c ∷ more))

    in_word : (b : Bool) → is_in class.LetterOrDigit c.byte ≡ b
        → Blames (kind_by (b && begins_word (c ∷ more)) (begins_number (c ∷ more)) (is_in class.Mark c.byte)
        (other_kind before c more)) c.place
        (cond b (cond (begins_word (c ∷ more)) (word c.place (c ∷ more)) (numeric c.place Unsigned (c ∷ more)))
        (cond (begins_number (c ∷ more)) (numeric c.place Unsigned (c ∷ more)) (cond (is_in class.Mark c.byte)
        (nonnumeric c.place c.byte more) (signed_lexeme (sign_here before c.byte more) c.place c.byte more))))
    in_word true e = lettered e (begins_word (c ∷ more)) refl
    in_word false e = numbered (begins_number (c ∷ more))

lexeme_blames : (before : Context) (c : Character) (more : List Character)
    → Blames (wrong before (c ∷ more)) c.place (lexeme before c more)
unfolding lexeme
lexeme_blames before c more =
    blames_by (awaits_picture before && is_in class.Nonblank c.byte) (λ _. none) (λ _. plain_blames before c more)

blamed : {kind : FaultKind} {place : Place} {found : TokenFault} → Blames kind place (Err found)
    → found ≡ record { kind = kind; place = place }
blamed fault = refl

-- ---- nothing begins where the function refuses, and only there

abbrev Begun : Context → Character → List Character → Lexeme → Type 0
Begun before c more one = IsFront before one.kind (c ∷ take (one.size - 1) more) (drop (one.size - 1) more)

begun : (before : Context) (c : Character) (more : List Character) (one : Lexeme) → lexeme before c more ≡ Ok one
    → Begun before c more one
begun before c more one is =
    let s = subst (λ o. Sized (suc (length more)) o) is (lexeme_sized before c more) in
    let l = low s in
    let h = high s in
    let counts : length (take (one.size - 1) more) ≡ one.size - 1 = length-take-le (one.size - 1) more (omega arith) in
    let size : one.size ≡ suc (length (take (one.size - 1) more)) = omega arith in
    front_is before c (take (one.size - 1) more) (drop (one.size - 1) more) one.kind
    (ap (lexeme before c) (take-append-drop (one.size - 1) more) ∙ is
    ∙ ap (λ n. Ok (record { kind = one.kind; size = n })) size)

nothing : (before : Context) (c : Character) (more : List Character) (found : TokenFault)
    → lexeme before c more ≡ Err found → NoFront before c more
nothing before c more found is kind text rest same front = let one =
    ap (lexeme before c) same ∙ fixed before c text rest kind front in cc

refuses : (before : Context) (c : Character) (more : List Character) → NoFront before c more
    → lexeme before c more ≡ Err (record { kind = wrong before (c ∷ more); place = c.place })
refuses before c more unbegun = go (lexeme before c more) refl
  where
    go : (o : Outcome) → lexeme before c more ≡ o → o ≡ Err (record { kind = wrong before (c ∷ more); place = c.place })
    go (Ok one) is = absurd (unbegun one.kind (take (one.size - 1) more) (drop (one.size - 1) more)
        (sym (take-append-drop (one.size - 1) more)) (begun before c more one is))
    go (Err found) is =
        ap Err (blamed (subst (λ o. Blames (wrong before (c ∷ more)) c.place o) is (lexeme_blames before c more)))

-- ---- the function and the relation

drop_text : (text rest : List Character) → drop (length text) (text ++ rest) ≡ rest
drop_text [] rest = refl
drop_text (c ∷ text) rest = drop_text text rest

-- where the relation has a fault, the function answers it
pub refused_only : {before : Context} {characters : List Character} {found : TokenFault} (start : ℕ)
    → IsRefused before characters found → tokens_from 0 before start characters ≡ Err found
refused_only {before} start (here c more unbegun) = stops before start c more _ (refuses before c more unbegun)
refused_only {before} start (further c text rest kind is more) =
    goes_on before start c (text ++ rest) (record { kind = kind; size = suc (length text) }) (omega arith)
    (fixed before c text rest kind is)
    ∙ ap (λ l. before_others (token_of kind (span_of start (suc (length text))) c.place)
    (tokens_from 0 (context_after before kind) (start + suc (length text)) l)) (drop_text text rest)
    ∙ ap (before_others (token_of kind (span_of start (suc (length text))) c.place))
    (refused_only (start + suc (length text)) more)

fault_is : {found other : TokenFault} → ◌≡◌ {A = Tokens} (Err found) (Err other) → found ≡ other
fault_is e = cc

abbrev Refused : ℕ → Type 0
Refused n = (before : Context) (start : ℕ) (characters : List Character) (found : TokenFault) → length characters ≤ n
    → tokens_from 0 before start characters ≡ Err found → IsRefused before characters found

-- where the function answers a fault, the relation has it; the number bounds the characters
pub refused_within : (n : ℕ) (before : Context) (start : ℕ) (characters : List Character) (found : TokenFault)
    → length characters ≤ n
    → tokens_from 0 before start characters ≡ Err found → IsRefused before characters found
refused_within n before start [] found h is = cc
refused_within zero before start (c ∷ more) found h is = absurd (omega arith)
refused_within (suc n) before start (c ∷ more) found h is = go (refused_within n) (lexeme before c more) refl
  where
    joined : Refused n → (one : Lexeme) → 1 ≤ one.size → lexeme before c more ≡ Ok one → (others : Tokens)
        → tokens_from 0 (context_after before one.kind) (start + one.size) (drop (one.size - 1) more) ≡ others
        → before_others (token_of one.kind (span_of start one.size) c.place) others ≡ Err found
        → IsRefused before (c ∷ more) found
    joined refused one l is_one (Ok others) rest_is all = cc
    joined refused one l is_one (Err other) rest_is all =
        let left : length (drop (one.size - 1) more) ≤ n = rw length-drop (omega arith) in
        subst (λ l. IsRefused before (c ∷ l) found) (take-append-drop (one.size - 1) more)
        (further c (take (one.size - 1) more) (drop (one.size - 1) more) one.kind (begun before c more one is_one)
        (refused (context_after before one.kind) (start + one.size) (drop (one.size - 1) more) found left
        (rest_is ∙ all)))

    go : Refused n → (o : Outcome) → lexeme before c more ≡ o → IsRefused before (c ∷ more) found
    go refused (Err other) is_err =
        let same : other ≡ found = fault_is (sym (stops before start c more other is_err) ∙ is) in
        let kind : other ≡ record { kind = wrong before (c ∷ more); place = c.place } =
        blamed (subst (λ o. Blames (wrong before (c ∷ more)) c.place o) is_err (lexeme_blames before c more)) in
        subst (λ f. IsRefused before (c ∷ more) f) (sym kind ∙ same) (here c more (nothing before c more other is_err))
    go refused (Ok one) is_one =
        let s = subst (λ o. Sized (suc (length more)) o) is_one (lexeme_sized before c more) in
        joined refused one (low s) is_one
        (tokens_from 0 (context_after before one.kind) (start + one.size) (drop (one.size - 1) more)) refl
        (ap (λ l. before_others (token_of one.kind (span_of start one.size) c.place)
        (tokens_from 0 (context_after before one.kind) (start + one.size) l)) (drop-more one.size c more (low s))
        ∙ sym (goes_on before start c more one (low s) is_one) ∙ is)
