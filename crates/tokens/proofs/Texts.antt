-- The characters of a token spell its kind.
use Rattle.std.proofs.Common.{◌≡◌, ◌+◌, ◌-◌, ℕ, zero, suc, Bool, true, false, ◌||◌, ◌&&◌, not, cond, eqb, List, [], ◌∷◌}
use Rattle.std.proofs.Common.{◌++◌, length, take, drop, map, Option, None, Some, Ok, Err, refl, ap, ◌∙◌, subst, arith}
use Rattle.std.proofs.Common.{append_assoc, append-nil, length-append, one-add}
use Rattle.std.specs.Char.{to_ascii_lowercase, to_ascii_uppercase}
use Rattle.std.proofs.lemmas.Bool.{eqb-true}
use Rattle.std.proofs.lemmas.Slice.Eq.{bytes_eq-Decides}
use lib.Chars.{codes}
use Rattle.source_lines.specs.declared.lines.Character.{Character}
use Rattle.lexical.specs.declared.place.Place.{Place}
use Rattle.tokens.specs.declared.character.Class.TheVariants as class
use Rattle.tokens.specs.declared.context.Context.{Context}
use Rattle.tokens.specs.declared.fault.TokenFault.{TokenFault}
use Rattle.tokens.specs.declared.lexeme.Lexeme.{Lexeme}
use Rattle.tokens.specs.declared.reserved.Reserved.{Reserved}
use Rattle.tokens.specs.declared.reserved.Reserved.TheVariants as w
use Rattle.tokens.specs.declared.token.Kind.{Kind}
use Rattle.tokens.specs.declared.token.Kind.TheVariants as k
use Rattle.tokens.specs.declared.token.Operator.{Operator}
use Rattle.tokens.specs.declared.token.Operator.TheVariants as o
use Rattle.lexical.specs.declared.number.Sign.{Sign}
use Rattle.lexical.specs.declared.number.Sign.TheVariants.{Unsigned, Plus, Minus}
use Rattle.tokens.specs.declared.token.Token.{Token}
use Rattle.tokens.specs.Characters.{is_in, bytes, bytes_in_upper_case, run_size, begins_with_class, ends_with_class}
use Rattle.tokens.specs.Contexts.{awaits_picture, is_joined, may_be_is}
use Rattle.tokens.specs.Kinds.{IsFront}
use Rattle.tokens.specs.Lexemes.{lexeme, plain_lexeme, punctuation, comparison, begins_word, signed_lexeme, sign_here}
use Rattle.tokens.specs.Literals.{numeric, nonnumeric, quoted_characters, closed_literal, after_point, begins_number}
use Rattle.tokens.specs.Literals.{sign_size}
use Rattle.tokens.specs.Pictures.{picture, picture_size, is_is}
use Rattle.tokens.specs.Scanning.{token_of, span_of}
use Rattle.tokens.specs.Spelled.{All, sign_text, IsKindOf, Front, AreSpelledBy, AreSeparated}
use Rattle.tokens.specs.Spelling.{reserved_word, look_up, beginning_with}
use Rattle.tokens.specs.Tokens.{AreTokens, at_end, front}
use Rattle.tokens.specs.Words.{Outcome, word, word_or_reserved, kind_of_word}
use Rattle.tokens.proofs.Fixed.{fixed}
use Rattle.tokens.proofs.Literals.{take_text, run_all, number_text, Closes, quoted_closes, quoted_text}
use Rattle.tokens.proofs.Sizes.{run_le}

data Right (cs : List Character) : Outcome → Type 0 where
  none : {fault : TokenFault} → Right cs (Err fault)
  some : (kind : Option Kind) (size : ℕ) → Front kind size cs → Right cs (Ok (record { kind = kind; size = size }))

right_if : {cs : List Character} {x y : Outcome} (b : Bool) → Right cs x → Right cs y → Right cs (cond b x y)
right_if true s t = s
right_if false s t = t

right_by : {cs : List Character} {x y : Outcome} (b : Bool) → (b ≡ true → Right cs x) → (b ≡ false → Right cs y)
    → Right cs (cond b x y)
right_by true s t = s refl
right_by false s t = t refl

-- ---- words

word_spells : (text : List Character) (o : Option Reserved) → reserved_word (bytes_in_upper_case text) ≡ o
    → IsKindOf (word_or_reserved (bytes_in_upper_case text) o) text
word_spells text None e = (refl, e)
word_spells text (Some r) e = e

word_right : (place : Place) (cs : List Character) → Right cs (word place cs)
unfolding word
word_right place cs =
    right_if _ none (some (Some (kind_of_word (bytes_in_upper_case (take (run_size class.InWord cs) cs))))
    (run_size class.InWord cs) (word_spells (take (run_size class.InWord cs) cs)
    (reserved_word (bytes_in_upper_case (take (run_size class.InWord cs) cs))) refl))

-- ---- literals

numeric_right : (place : Place) (sign : Sign) (pre cs : List Character) → bytes pre ≡ sign_text sign
    → sign_size sign ≡ length pre → Right (pre ++ cs) (numeric place sign cs)
unfolding numeric
numeric_right place sign pre cs signed size =
    right_if _ none (some (Some (k.Numeric _)) _ (
      number_text sign pre cs
          (run_size class.Digit cs) (run_size class.Digit (after_point (drop (run_size class.Digit cs) cs))) signed size
          (run_le class.Digit (after_point (drop (run_size class.Digit cs) cs))),
      run_all class.Digit cs,
      run_all class.Digit (after_point (drop (run_size class.Digit cs) cs)),
    ))

nonnumeric_right : (c : Character) (more : List Character) → is_in class.Mark c.byte ≡ true
    → Right (c ∷ more) (nonnumeric c.place c.byte more)
unfolding nonnumeric
nonnumeric_right c more m = go (quoted_characters c.byte false [] 1 more) (quoted_closes c.byte false [] 1 more)
  where
    go : (x : Option (List ℕ × ℕ)) → Closes c.byte [] [] 1 more x → Right (c ∷ more) (closed_literal c.place x)
    go None r = none
    go (Some (text, size)) r = right_if _ none (some (Some (k.Nonnumeric text)) size (c.byte, quoted_text c more m r))

-- ---- pictures

upper_of_lower : (low up b : ℕ) → to_ascii_lowercase b ≡ low → to_ascii_uppercase low ≡ up
    → to_ascii_uppercase (low - 32) ≡ up → to_ascii_uppercase b ≡ up
upper_of_lower low up b e f g = go _ _ e
  where
    go : (x y : Bool) → cond x b (cond y (b + 32) b) ≡ low → to_ascii_uppercase b ≡ up
    go true y e = ap to_ascii_uppercase e ∙ f
    go false true e = let is : b ≡ low - 32 = omega arith in ap to_ascii_uppercase is ∙ g
    go false false e = ap to_ascii_uppercase e ∙ f

is_reserved : reserved_word (codes "IS") ≡ Some w.Is
unfolding reserved_word look_up beginning_with
is_reserved = refl

is_spells : (text : List Character) → is_is (bytes text) ≡ true → reserved_word (bytes_in_upper_case text) ≡ Some w.Is
is_spells text e =
    go text ((bytes_eq-Decides (map to_ascii_lowercase (bytes text)) (map to_ascii_lowercase (codes "IS"))).0 e)
  where
    go : (text : List Character) → map to_ascii_lowercase (bytes text) ≡ map to_ascii_lowercase (codes "IS")
        → reserved_word (bytes_in_upper_case text) ≡ Some w.Is
    go [] e = cc
    go (a ∷ []) e = cc
    go (a ∷ b ∷ []) e =
        let i : to_ascii_lowercase a.byte ≡ 105 = cc in
        let s : to_ascii_lowercase b.byte ≡ 115 = cc in
        rw (upper_of_lower 105 73 a.byte i refl refl, upper_of_lower 115 83 b.byte s refl refl) is_reserved
    go (a ∷ b ∷ c ∷ more) e = cc

pub first_is : {b n : ℕ} → eqb b n ≡ true → b ∷ [] ≡ n ∷ []
first_is {b} {n} e = ap (λ x. x ∷ []) (eqb-true b n e)

right_one : {cs : List Character} (x y : Lexeme) (b : Bool) → (b ≡ true → Right cs (Ok x))
    → (b ≡ false → Right cs (Ok y)) → Right cs (Ok (cond b x y))
right_one x y true s t = s refl
right_one x y false s t = t refl

pub other_mark : (period comma semicolon space : Bool) → ((period || comma) || semicolon) ≡ true → period ≡ false
    → ((space || comma) || semicolon) ≡ true
other_mark true comma semicolon space e f = cc
other_mark false comma semicolon true e f = refl
other_mark false comma semicolon false e f = e

-- a picture that is empty without its last mark is that mark
pub lone : (c : Character) (more : List Character) → is_in class.Nonblank c.byte ≡ true → picture_size (c ∷ more) ≡ 0
    → is_in class.Ending c.byte ≡ true
lone c more nonblank e = go (run_size class.Nonblank more) (rw nonblank at e)
  where
    one : (b : Bool) → ◌≡◌ {A = ℕ} (cond b 0 1) 0 → b ≡ true
    one true e = refl
    one false e = cc

    several : (n : ℕ) (b : Bool) → cond b (suc (suc n) - 1) (suc (suc n)) ≡ 0 → is_in class.Ending c.byte ≡ true
    several n true e = absurd (omega arith)
    several n false e = absurd (omega arith)

    go : (n : ℕ) → cond (ends_with_class class.Ending (take (1 + n) (c ∷ more))) ((1 + n) - 1) (1 + n) ≡ 0
        → is_in class.Ending c.byte ≡ true
    go zero e = one (is_in class.Ending c.byte) e
    go (suc n) e = several n (ends_with_class class.Ending (take (suc (suc n)) (c ∷ more))) (rw one-add at e)

pub zero_is : (n : ℕ) → eqb n 0 ≡ true → n ≡ 0
zero_is n e = eqb-true n 0 e

picture_right : (before : Context) (c : Character) (more : List Character) → is_in class.Nonblank c.byte ≡ true
    → Right (c ∷ more) (Ok (picture before c.byte (c ∷ more)))
unfolding picture
picture_right before c more nonblank =
    right_one _ _ (eqb (picture_size (c ∷ more)) 0)
    (λ empty. right_one _ _ (eqb c.byte 46) (λ e. some (Some k.Period) 1 (first_is e))
    (λ e. some None 1 (
      refl,
      other_mark (eqb c.byte 46) (eqb c.byte 44) (eqb c.byte 59) (eqb c.byte 32)
          (lone c more nonblank (zero_is _ empty)) e,
    )))
    (λ _. right_one _ _ (may_be_is before && is_is (bytes (take (picture_size (c ∷ more)) (c ∷ more))))
    (λ e. some (Some (k.Reserved w.Is)) (picture_size (c ∷ more))
    (is_spells (take (picture_size (c ∷ more)) (c ∷ more)) (both (may_be_is before) _ e)))
    (λ _. some (Some (k.Picture (bytes (take (picture_size (c ∷ more)) (c ∷ more))))) (picture_size (c ∷ more)) refl))
  where
    both : (a b : Bool) → (a && b) ≡ true → b ≡ true
    both true b e = e
    both false b e = cc

-- ---- periods, parentheses, colons and operators

comparison_right : (alone both : Operator) (c : Character) (more : List Character)
    → IsKindOf (k.Operator alone) (c ∷ []) → ((d : Character) → d.byte ≡ 61 → IsKindOf (k.Operator both) (c ∷ d ∷ []))
    → Right (c ∷ more) (comparison alone both more)
unfolding comparison
comparison_right alone both c [] one two = some (Some (k.Operator alone)) 1 one
comparison_right alone both c (d ∷ more) one two = right_by (eqb d.byte 61)
    (λ e. some (Some (k.Operator both)) 2 (two d (eqb-true d.byte 61 e))) (λ e. some (Some (k.Operator alone)) 1 one)

punctuation_right : (place : Place) (c : Character) (more : List Character)
    → Right (c ∷ more) (punctuation place c.byte more)
unfolding punctuation
punctuation_right place c more =
    right_by (eqb c.byte 46)
    (λ e. right_if (begins_with_class class.Nonblank more) none (some (Some k.Period) 1 (first_is e)))
    (λ _. right_by (eqb c.byte 40) (λ e. some (Some k.LeftParenthesis) 1 (first_is e))
    (λ _. right_by (eqb c.byte 41) (λ e. some (Some k.RightParenthesis) 1 (first_is e))
    (λ _. right_by (eqb c.byte 58) (λ e. some (Some k.Colon) 1 (first_is e))
    (λ _. right_by (eqb c.byte 43) (λ e. some (Some (k.Operator o.Plus)) 1 (first_is e))
    (λ _. right_by (eqb c.byte 45) (λ e. some (Some (k.Operator o.Minus)) 1 (first_is e))
    (λ _. right_by (eqb c.byte 42) (λ e. some (Some (k.Operator o.Times)) 1 (first_is e))
    (λ _. right_by (eqb c.byte 47) (λ e. some (Some (k.Operator o.Divide)) 1 (first_is e))
    (λ _. right_by (eqb c.byte 61) (λ e. some (Some (k.Operator o.Equal)) 1 (first_is e))
    (λ _. right_by (eqb c.byte 62) (λ e. comparison_right o.Greater o.GreaterOrEqual c more (first_is e)
    (λ d f. (λ i. eqb-true c.byte 62 e i ∷ f i ∷ [])))
    (λ _. right_by (eqb c.byte 60) (λ e.
    comparison_right o.Less o.LessOrEqual c more (first_is e) (λ d f. (λ i. eqb-true c.byte 60 e i ∷ f i ∷ [])))
    (λ _. none)))))))))))

-- a plus or minus directly before a number
sign_right : (before : Context) (c : Character) (more : List Character)
    → Right (c ∷ more) (signed_lexeme (sign_here before c.byte more) c.place c.byte more)
sign_right before c more = go (not (is_joined before) && begins_number more)
  where
    go : (b : Bool) → Right (c ∷ more) (signed_lexeme
        (cond b (cond (eqb c.byte 43) (Some Plus) (cond (eqb c.byte 45) (Some Minus) None)) None) c.place c.byte more)
    go false = punctuation_right c.place c more
    go true = plus (eqb c.byte 43) refl
      where
        minus : (b : Bool) → eqb c.byte 45 ≡ b
            → Right (c ∷ more) (signed_lexeme (cond b (Some Minus) None) c.place c.byte more)
        minus true e = numeric_right c.place Minus (c ∷ []) more (first_is e) refl
        minus false e = punctuation_right c.place c more

        plus : (b : Bool) → eqb c.byte 43 ≡ b → Right (c ∷ more)
            (signed_lexeme (cond b (Some Plus) (cond (eqb c.byte 45) (Some Minus) None)) c.place c.byte more)
        plus true e = numeric_right c.place Plus (c ∷ []) more (first_is e) refl
        plus false e = minus (eqb c.byte 45) refl

plain_right : (before : Context) (c : Character) (more : List Character) → Right (c ∷ more) (plain_lexeme before c more)
unfolding plain_lexeme
plain_right before c more =
    right_by (is_in class.Separator c.byte) (λ e. some None 1 (refl, e))
    (λ _. right_if (is_in class.LetterOrDigit c.byte) (right_if (begins_word (c ∷ more)) (word_right c.place (c ∷ more))
    (numeric_right c.place Unsigned [] (c ∷ more) refl refl))
    (right_if (begins_number (c ∷ more)) (numeric_right c.place Unsigned [] (c ∷ more) refl refl)
    (right_by (is_in class.Mark c.byte) (λ m. nonnumeric_right c more m) (λ _. sign_right before c more))))

both_true : (a b : Bool) → (a && b) ≡ true → b ≡ true
both_true true b e = e
both_true false b e = cc

lexeme_right : (before : Context) (c : Character) (more : List Character) → Right (c ∷ more) (lexeme before c more)
unfolding lexeme
lexeme_right before c more =
    right_by (awaits_picture before && is_in class.Nonblank c.byte)
    (λ e. picture_right before c more (both_true (awaits_picture before) _ e)) (λ _. plain_right before c more)

fact : {cs : List Character} {one : Lexeme} → Right cs (Ok one) → Front one.kind one.size cs
fact (some kind size f) = f

-- what stands at the front is spelled there
pub front_spelled : (before : Context) (c : Character) (more : List Character) (one : Lexeme)
    → lexeme before c more ≡ Ok one → Front one.kind one.size (c ∷ more)
front_spelled before c more one is = fact (subst (λ o. Right (c ∷ more) o) is (lexeme_right before c more))

drop_passed : (passed more : List Character) → drop (length passed) (passed ++ more) ≡ more
drop_passed [] more = refl
drop_passed (c ∷ passed) more = drop_passed passed more

pub spelled : {before : Context} {start : ℕ} {characters : List Character} {found : List Token}
    (passed : List Character) → start ≡ length passed → AreTokens before start characters found
    → AreSpelledBy (passed ++ characters) found
spelled passed h at_end = tt
spelled {start = start} passed h (front {before = before} {others = others} c text rest kind is more) =
    let counts : start + suc (length text) ≡ length (passed ++ (c ∷ text)) = let l =
    length-append passed (c ∷ text) in omega arith in
    go kind is (subst (λ l. AreSpelledBy l others) (append_assoc passed (c ∷ text) rest)
    (spelled (passed ++ (c ∷ text)) counts more))
  where
    go : (k : Option Kind) → IsFront before k (c ∷ text) rest → AreSpelledBy (passed ++ (c ∷ (text ++ rest))) others
        → AreSpelledBy (passed ++ (c ∷ (text ++ rest)))
        (token_of k (span_of start (suc (length text))) c.place ++ others)
    go None is others_are = others_are
    go (Some one) is others_are =
        let size : (start + suc (length text)) - start ≡ suc (length text) = omega arith in
        let at : drop start (passed ++ (c ∷ (text ++ rest))) ≡ c ∷ (text ++ rest) =
        ap (λ n. drop n (passed ++ (c ∷ (text ++ rest)))) h ∙ drop_passed passed (c ∷ (text ++ rest)) in (
          rw (size, at) (front_spelled before c (text ++ rest) (record { kind = Some one; size = suc (length text) })
              (fixed before c text rest (Some one) is)),
          others_are,
        )

-- ---- what lies between spans

gap_more : (gap : List Character) (c : Character) → All class.Separator (bytes gap)
    → is_in class.Separator c.byte ≡ true → All class.Separator (bytes (gap ++ (c ∷ [])))
gap_more [] c all e = (e, tt)
gap_more (g ∷ gap) c all e = (all.0, gap_more gap c all.1 e)

-- `gap` are the separators since the last span
pub separated : {before : Context} {start : ℕ} {characters : List Character} {found : List Token}
    (passed gap : List Character) → start ≡ length passed + length gap
    → All class.Separator (bytes gap) → AreTokens before start characters found
    → AreSeparated (length passed) (passed ++ (gap ++ characters)) found
separated passed gap h all at_end = rw (drop_passed passed (gap ++ []), append-nil gap) all
separated {start = start} passed gap h all (front {before = before} {others = others} c text rest None is more) =
    let fact = front_spelled before c (text ++ rest) (record { kind = None; size = suc (length text) })
    (fixed before c text rest None is) in
    let counts : start + suc (length text) ≡ length passed + length (gap ++ (c ∷ [])) = let l =
    length-append gap (c ∷ []) in omega arith in
    subst (λ l. AreSeparated (length passed) (passed ++ l) others) (append_assoc gap (c ∷ []) rest ∙ alone text fact.0)
    (separated passed (gap ++ (c ∷ [])) counts (gap_more gap c all fact.1) more)
  where
    alone : (text : List Character) → suc (length text) ≡ 1 → gap ++ (c ∷ rest) ≡ gap ++ (c ∷ (text ++ rest))
    alone [] e = refl
    alone (t ∷ text) e = absurd (omega arith)
separated {start = start} passed gap h all (front {others = others} c text rest (Some kind) is more) =
    let size : start - length passed ≡ length gap = omega arith in
    let counts : start + suc (length text) ≡ length (passed ++ (gap ++ (c ∷ text))) + 0 = let l =
    length-append passed (gap ++ (c ∷ text)) in let m = length-append gap (c ∷ text) in omega arith in
    let total : length (passed ++ (gap ++ (c ∷ text))) ≡ start + suc (length text) = omega arith in
    let same : (passed ++ (gap ++ (c ∷ text))) ++ rest ≡ passed ++ (gap ++ (c ∷ (text ++ rest))) =
    append_assoc passed (gap ++ (c ∷ text)) rest ∙ ap (λ l. passed ++ l) (append_assoc gap (c ∷ text) rest) in (
      rw (drop_passed passed (gap ++ (c ∷ (text ++ rest))), size, take_text gap (c ∷ (text ++ rest))) all,
      subst (λ l. AreSeparated (start + suc (length text)) l others)
          same (subst (λ n. AreSeparated n ((passed ++ (gap ++ (c ∷ text))) ++ rest) others) total
          (separated (passed ++ (gap ++ (c ∷ text))) [] counts tt more)),
    )
