-- What the function finds at the front is a token of its kind, or a separator.
use Rattle.std.proofs.Common.{◌≡◌, ◌≤◌, inl, inr, ◌+◌, ◌-◌, ℕ, zero, suc, Bool, true, false, ◌||◌, ◌&&◌, not, cond, eqb}
use Rattle.std.proofs.Common.{List, [], ◌∷◌, ◌++◌, length, take, drop, Option, None, Some, Ok, Err, refl, sym, ap, ◌∙◌}
use Rattle.std.proofs.Common.{subst, arith, one-add}
use Rattle.std.specs.Prelude.{nat_lt, slice_get}
use Rattle.std.proofs.lemmas.Bool.{eqb-true, ltb-false}
use Rattle.std.proofs.lemmas.List.{take-append-drop, drop-drop}
use Rattle.std.proofs.lemmas.List.Folds.{length-prefix_len}
use Rattle.source_lines.specs.declared.lines.Character.{Character}
use Rattle.lexical.specs.declared.place.Place.{Place}
use Rattle.tokens.specs.declared.character.Class.{Class}
use Rattle.tokens.specs.declared.character.Class.TheVariants as class
use Rattle.tokens.specs.declared.context.Context.{Context}
use Rattle.tokens.specs.declared.fault.TokenFault.{TokenFault}
use Rattle.tokens.specs.declared.lexeme.Lexeme.{Lexeme}
use Rattle.tokens.specs.declared.reserved.Reserved.{Reserved}
use Rattle.tokens.specs.declared.reserved.Reserved.TheVariants as w
use Rattle.tokens.specs.declared.token.Kind.{Kind}
use Rattle.tokens.specs.declared.token.Kind.TheVariants as k
use Rattle.tokens.specs.declared.token.Operator.{Operator}
use Rattle.tokens.specs.declared.token.Operator.TheVariants as o
use Rattle.lexical.specs.declared.number.Sign.{Sign}
use Rattle.lexical.specs.declared.number.Sign.TheVariants.{Unsigned, Plus, Minus}
use Rattle.tokens.specs.Characters.{is_in, bytes, bytes_in_upper_case, run_size, begins_with_class, ends_with_class}
use Rattle.tokens.specs.Characters.{is_last}
use Rattle.tokens.specs.Contexts.{awaits_picture, is_joined, may_be_is}
use Rattle.tokens.specs.Kinds.{IsWord, MayBegin, IsPicture, IsToken, IsFront, has_more}
use Rattle.tokens.specs.Lexemes.{lexeme, plain_lexeme, punctuation, comparison, is_equal_sign, begins_word}
use Rattle.tokens.specs.Lexemes.{word_or_number, signed_lexeme, sign_here}
use Rattle.tokens.specs.Literals.{numeric, nonnumeric, quoted_characters, closed_literal, after_point, begins_number}
use Rattle.tokens.specs.Literals.{sign_size, point_size}
use Rattle.tokens.specs.Pictures.{picture, picture_size, is_is}
use Rattle.tokens.specs.Spelled.{All, sign_text, operator_text}
use Rattle.tokens.specs.Spelling.{reserved_word}
use Rattle.tokens.specs.Words.{Outcome, word, word_or_reserved, kind_of_word}
use Rattle.tokens.proofs.Literals.{take_text, drop_text, run_all, run_stops, number_text, number_stops, Closes}
use Rattle.tokens.proofs.Literals.{quoted_closes, quoted_text, quoted_stops}
use Rattle.tokens.proofs.Sizes.{run_le, run_begins, in_word, digit_first, some_digit}
use Rattle.tokens.proofs.Texts.{other_mark, lone, first_is, zero_is}

data Right (before : Context) (cs : List Character) : Outcome → Type 0 where
  none : {fault : TokenFault} → Right before cs (Err fault)
  some : (kind : Option Kind) (size : ℕ) → IsFront before kind (take size cs) (drop size cs)
      → Right before cs (Ok (record { kind = kind; size = size }))

right_by : {before : Context} {cs : List Character} {x y : Outcome} (b : Bool) → (b ≡ true → Right before cs x)
    → (b ≡ false → Right before cs y) → Right before cs (cond b x y)
right_by true s t = s refl
right_by false s t = t refl

right_one : {before : Context} {cs : List Character} (x y : Lexeme) (b : Bool) → (b ≡ true → Right before cs (Ok x))
    → (b ≡ false → Right before cs (Ok y)) → Right before cs (Ok (cond b x y))
right_one x y true s t = s refl
right_one x y false s t = t refl

neither : (a b : Bool) → (a || b) ≡ false → (a ≡ false) × (b ≡ false)
neither true b e = cc
neither false b e = (refl, e)

run_length : (one : Class) (cs : List Character) → length (take (run_size one cs) cs) ≡ run_size one cs
run_length one cs = length-prefix_len (λ c. is_in one c.byte) cs

length_bytes : (cs : List Character) → length (bytes cs) ≡ length cs
length_bytes [] = refl
length_bytes (c ∷ cs) = ap suc (length_bytes cs)

begins_take : (one : Class) (c : Character) (more : List Character) (n : ℕ) → 1 ≤ n → is_in one c.byte ≡ true
    → begins_with_class one (take n (c ∷ more)) ≡ true
begins_take one c more zero h e = absurd (omega arith)
begins_take one c more (suc n) h e = e

-- ---- words

word_kind : (before : Context) (text rest : List Character) (r : Option Reserved) → awaits_picture before ≡ false
    → IsWord text rest → reserved_word (bytes_in_upper_case text) ≡ r
    → IsToken before (word_or_reserved (bytes_in_upper_case text) r) text rest
word_kind before text rest None na is e = (na, is, e, refl)
word_kind before text rest (Some one) na is e = inl (na, is, e)

word_right : (before : Context) (place : Place) (c : Character) (more : List Character) → awaits_picture before ≡ false
    → is_in class.LetterOrDigit c.byte ≡ true → begins_word (c ∷ more) ≡ true
    → Right before (c ∷ more) (word place (c ∷ more))
unfolding word
word_right before place c more na first_in letter =
    let text = take (run_size class.InWord (c ∷ more)) (c ∷ more) in
    right_by (nat_lt 30 (run_size class.InWord (c ∷ more)) || ends_with_class class.Hyphen text) (λ _. none)
    (λ e. let both = neither _ _ e in
    let short : length text ≤ 30 = let l = ltb-false 30 (run_size class.InWord (c ∷ more)) both.0 in let m =
    run_length class.InWord (c ∷ more) in omega arith in
    let begun : begins_with_class class.LetterOrDigit text ≡ true =
    begins_take class.LetterOrDigit c more (run_size class.InWord (c ∷ more))
    (run_begins class.InWord (c ∷ more) (in_word c.byte first_in)) first_in in
    some (Some (kind_of_word (bytes_in_upper_case text))) (run_size class.InWord (c ∷ more))
    (word_kind before text (drop (run_size class.InWord (c ∷ more)) (c ∷ more))
    (reserved_word (bytes_in_upper_case text)) na
    ((run_all class.InWord (c ∷ more), run_stops class.InWord (c ∷ more)), begun, letter, short, both.1) refl))

-- ---- literals

abbrev whole : List Character → ℕ
whole cs = run_size class.Digit cs

abbrev fraction : List Character → List Character
fraction cs = after_point (drop (whole cs) cs)

abbrev number_size : Sign → List Character → ℕ
number_size sign cs = ((sign_size sign + whole cs) + point_size (whole (fraction cs))) + whole (fraction cs)

numeric_right : (before : Context) (place : Place) (sign : Sign) (pre cs : List Character)
    → awaits_picture before ≡ false → bytes pre ≡ sign_text sign → sign_size sign ≡ length pre
    → begins_number cs ≡ true → MayBegin before sign (pre ++ cs) → Right before (pre ++ cs) (numeric place sign cs)
unfolding numeric
numeric_right before place sign pre cs na its_sign size number may =
    right_by (nat_lt 18 (whole cs + whole (fraction cs))) (λ _. none)
    (λ e.
    let w = length_bytes (take (whole cs) cs) ∙ run_length class.Digit cs in
    let d = length_bytes (take (whole (fraction cs)) (fraction cs)) ∙ run_length class.Digit (fraction cs) in
    let few = ltb-false 18 (whole cs + whole (fraction cs)) e in
    let any = some_digit cs number in
    some (Some (k.Numeric _)) (number_size sign cs) (
      na,
      (
        (
          number_text sign pre cs (whole cs) (whole (fraction cs)) its_sign size (run_le class.Digit (fraction cs)),
          run_all class.Digit cs,
          run_all class.Digit (fraction cs),
        ),
        rw (w, d) any,
        rw (w, d) few,
        number_stops sign pre cs size,
        subst (λ l. MayBegin before sign l) (sym (take-append-drop (number_size sign cs) (pre ++ cs))) may,
      ),
    ))

positive : (n : ℕ) → eqb n 0 ≡ false → 1 ≤ n
positive zero e = cc
positive (suc n) e = omega arith

nonnumeric_right : (before : Context) (c : Character) (more : List Character) → awaits_picture before ≡ false
    → is_in class.Mark c.byte ≡ true → Right before (c ∷ more) (nonnumeric c.place c.byte more)
unfolding nonnumeric
nonnumeric_right before c more na m =
    go (quoted_characters c.byte false [] 1 more) (quoted_closes c.byte false [] 1 more)
  where
    go : (x : Option (List ℕ × ℕ)) → Closes c.byte [] [] 1 more x → Right before (c ∷ more) (closed_literal c.place x)
    go None r = none
    go (Some (text, size)) r =
        right_by (eqb (length text) 0 || nat_lt 160 (length text)) (λ _. none)
        (λ e. let both = neither _ _ e in
        some (Some (k.Nonnumeric text)) size (
          na,
          (
            c.byte,
            (
              quoted_text c more m r,
              positive (length text) both.0,
              ltb-false 160 (length text) both.1,
              quoted_stops c more r,
            ),
          ),
        ))

-- ---- pictures

last_begins : (one : Class) (cs : List Character) (m : ℕ) → suc m ≤ length cs
    → is_last one (slice_get (take (suc m) cs) m) ≡ begins_with_class one (drop m cs)
last_begins one [] m h = absurd (omega arith)
last_begins one (c ∷ cs) zero h = refl
last_begins one (c ∷ cs) (suc m) h = last_begins one cs m (omega arith)

all_take : (one : Class) (cs : List Character) (m n : ℕ) → m ≤ n → All one (bytes (take n cs))
    → All one (bytes (take m cs))
all_take one [] zero n h all = tt
all_take one [] (suc m) n h all = tt
all_take one (c ∷ cs) zero n h all = tt
all_take one (c ∷ cs) (suc m) zero h all = absurd (omega arith)
all_take one (c ∷ cs) (suc m) (suc n) h all = (all.0, all_take one cs m n (omega arith) all.1)

length_take : (cs : List Character) (m : ℕ) → m ≤ length cs → length (take m cs) ≡ m
length_take [] zero h = refl
length_take [] (suc m) h = absurd (omega arith)
length_take (c ∷ cs) zero h = refl
length_take (c ∷ cs) (suc m) h = ap suc (length_take cs m (omega arith))

picture_is : (cs : List Character) → 1 ≤ picture_size cs
    → IsPicture (take (picture_size cs) cs) (drop (picture_size cs) cs)
picture_is cs h =
    go (run_size class.Nonblank cs) (ends_with_class class.Ending (take (run_size class.Nonblank cs) cs)) refl refl h
  where
    go : (n : ℕ) (b : Bool) → run_size class.Nonblank cs ≡ n
        → ends_with_class class.Ending (take (run_size class.Nonblank cs) cs) ≡ b → 1 ≤ cond b (n - 1) n
        → IsPicture (take (cond b (n - 1) n) cs) (drop (cond b (n - 1) n) cs)
    go n false r e h =
        let all = subst (λ n. All class.Nonblank (bytes (take n cs))) r (run_all class.Nonblank cs) in
        let stop = subst (λ n. begins_with_class class.Nonblank (drop n cs) ≡ false) r (run_stops class.Nonblank cs) in
        let count : length (take n cs) ≡ n = ap (λ n. length (take n cs)) (sym r) ∙ run_length class.Nonblank cs ∙ r in
        (rw count h, all, inl (subst (λ n. ends_with_class class.Ending (take n cs) ≡ false) r e, stop))
    go zero true r e h = absurd (omega arith)
    go (suc m) true r e h =
        let all = subst (λ n. All class.Nonblank (bytes (take n cs))) r (run_all class.Nonblank cs) in
        let stop = subst (λ n. begins_with_class class.Nonblank (drop n cs) ≡ false) r (run_stops class.Nonblank cs) in
        let within : suc m ≤ length cs = let l = run_le class.Nonblank cs in omega arith in
        let less : suc m - 1 ≡ m = omega arith in
        let more : m + 1 ≡ suc m = omega arith in
        let last = subst (λ n. ends_with_class class.Ending (take n cs) ≡ true) r e in
        let seen : is_last class.Ending (slice_get (take (suc m) cs) m) ≡ true =
        ap (λ n. is_last class.Ending (slice_get (take (suc m) cs) n))
        (sym (ap (λ n. n - 1) (length_take cs (suc m) within) ∙ less)) ∙ last in
        let one : 1 ≤ m = omega arith in
        let count : length (take m cs) ≡ m = length_take cs m (omega arith) in
        let after : begins_with_class class.Nonblank (drop 1 (drop m cs)) ≡ false =
        ap (begins_with_class class.Nonblank) (drop-drop 1 m cs ∙ ap (λ n. drop n cs) more) ∙ stop in
        subst (λ n. IsPicture (take n cs) (drop n cs)) (sym less) (
          rw count one,
          all_take class.Nonblank cs m (suc m) (omega arith) all,
          inr (sym (last_begins class.Ending cs m within) ∙ seen, after),
        )

-- after a mark that stands alone there is a space or the end
alone : (c : Character) (more : List Character) → is_in class.Nonblank c.byte ≡ true → picture_size (c ∷ more) ≡ 0
    → begins_with_class class.Nonblank more ≡ false
alone c more nonblank e = go (run_size class.Nonblank more) refl (rw nonblank at e)
  where
    several : (n : ℕ) (b : Bool) → cond b (suc (suc n) - 1) (suc (suc n)) ≡ 0
        → begins_with_class class.Nonblank more ≡ false
    several n true e = absurd (omega arith)
    several n false e = absurd (omega arith)

    go : (n : ℕ) → run_size class.Nonblank more ≡ n → cond (ends_with_class class.Ending (take (1 + n) (c ∷ more)))
        ((1 + n) - 1) (1 + n) ≡ 0 → begins_with_class class.Nonblank more ≡ false
    go zero r e = subst (λ n. begins_with_class class.Nonblank (drop n more) ≡ false) r (run_stops class.Nonblank more)
    go (suc n) r e = several n (ends_with_class class.Ending (take (suc (suc n)) (c ∷ more))) (rw one-add at e)

third_false : (a b c : Bool) → c ≡ false → (a && (b && c)) ≡ false
third_false true true c e = e
third_false true false c e = refl
third_false false b c e = refl

picture_right : (before : Context) (c : Character) (more : List Character) → awaits_picture before ≡ true
    → is_in class.Nonblank c.byte ≡ true → Right before (c ∷ more) (Ok (picture before c.byte (c ∷ more)))
unfolding picture
picture_right before c more awaits nonblank =
    right_one _ _ (eqb (picture_size (c ∷ more)) 0)
    (λ empty. let blank = alone c more nonblank (zero_is _ empty) in
    right_one _ _ (eqb c.byte 46) (λ e. some (Some k.Period) 1 (first_is e, blank))
    (λ e. some None 1 (
      refl,
      other_mark (eqb c.byte 46) (eqb c.byte 44) (eqb c.byte 59) (eqb c.byte 32)
          (lone c more nonblank (zero_is _ empty)) e,
      third_false (awaits_picture before) (is_in class.Nonblank c.byte) (begins_with_class class.Nonblank more) blank,
    )))
    (λ some_text. let is = picture_is (c ∷ more) (positive (picture_size (c ∷ more)) some_text) in
    right_one _ _ (may_be_is before && is_is (bytes (take (picture_size (c ∷ more)) (c ∷ more))))
    (λ e. some (Some (k.Reserved w.Is)) (picture_size (c ∷ more)) (inr (e, is, refl)))
    (λ e. some (Some (k.Picture (bytes (take (picture_size (c ∷ more)) (c ∷ more))))) (picture_size (c ∷ more))
    (awaits, e, is, refl)))

-- ---- periods, parentheses and operators

comparison_right : (before : Context) (alone both : Operator) (c : Character) (more : List Character)
    → awaits_picture before ≡ false
    → bytes (c ∷ []) ≡ operator_text alone → ((d : Character) → d.byte ≡ 61 → bytes (c ∷ d ∷ []) ≡ operator_text both)
    → ((rest : List Character) → has_more before alone rest ≡ is_equal_sign rest)
    → ((rest : List Character) → has_more before both rest ≡ false)
    → Right before (c ∷ more) (comparison alone both more)
unfolding comparison
comparison_right before alone both c [] na one two stop none_more = some (Some (k.Operator alone)) 1 (na, one, stop [])
comparison_right before alone both c (d ∷ more) na one two stop none_more =
    right_by (eqb d.byte 61) (λ e. some (Some (k.Operator both)) 2 (na, two d (eqb-true d.byte 61 e), none_more more))
    (λ e. some (Some (k.Operator alone)) 1 (na, one, stop (d ∷ more) ∙ e))

punctuation_right : (before : Context) (c : Character) (more : List Character) → awaits_picture before ≡ false
    → (eqb c.byte 43 ≡ true → has_more before o.Plus more ≡ false)
    → (eqb c.byte 45 ≡ true → has_more before o.Minus more ≡ false)
    → Right before (c ∷ more) (punctuation c.place c.byte more)
unfolding punctuation
punctuation_right before c more na plus minus =
    right_by (eqb c.byte 46) (λ e.
    right_by (begins_with_class class.Nonblank more) (λ _. none) (λ blank. some (Some k.Period) 1 (first_is e, blank)))
    (λ _. right_by (eqb c.byte 40) (λ e. some (Some k.LeftParenthesis) 1 (na, first_is e))
    (λ _. right_by (eqb c.byte 41) (λ e. some (Some k.RightParenthesis) 1 (na, first_is e))
    (λ _. right_by (eqb c.byte 58) (λ e. some (Some k.Colon) 1 (na, first_is e))
    (λ _. right_by (eqb c.byte 43) (λ e. some (Some (k.Operator o.Plus)) 1 (na, first_is e, plus e))
    (λ _. right_by (eqb c.byte 45) (λ e. some (Some (k.Operator o.Minus)) 1 (na, first_is e, minus e))
    (λ _. right_by (eqb c.byte 42) (λ e. some (Some (k.Operator o.Times)) 1 (na, first_is e, refl))
    (λ _. right_by (eqb c.byte 47) (λ e. some (Some (k.Operator o.Divide)) 1 (na, first_is e, refl))
    (λ _. right_by (eqb c.byte 61) (λ e. some (Some (k.Operator o.Equal)) 1 (na, first_is e, refl))
    (λ _. right_by (eqb c.byte 62) (λ e. comparison_right before o.Greater o.GreaterOrEqual c more na (first_is e)
    (λ d f. (λ i. eqb-true c.byte 62 e i ∷ f i ∷ [])) (λ rest. refl) (λ rest. refl))
    (λ _. right_by (eqb c.byte 60) (λ e. comparison_right before o.Less o.LessOrEqual c more na (first_is e)
    (λ d f. (λ i. eqb-true c.byte 60 e i ∷ f i ∷ [])) (λ rest. refl) (λ rest. refl))
    (λ _. none)))))))))))

both_true : (a b : Bool) → (a && b) ≡ true → (a ≡ true) × (b ≡ true)
both_true true b e = (refl, e)
both_true false b e = cc

is_no : (b : Bool) → not b ≡ true → b ≡ false
is_no true e = cc
is_no false e = refl

-- a plus or minus directly before a number
sign_right : (before : Context) (c : Character) (more : List Character) → awaits_picture before ≡ false
    → Right before (c ∷ more) (signed_lexeme (sign_here before c.byte more) c.place c.byte more)
sign_right before c more na = go (not (is_joined before) && begins_number more) refl
  where
    number : (not (is_joined before) && begins_number more) ≡ true → begins_number more ≡ true
    number e = (both_true (not (is_joined before)) (begins_number more) e).1

    joined : (not (is_joined before) && begins_number more) ≡ true → is_joined before ≡ false
    joined e = is_no (is_joined before) (both_true (not (is_joined before)) (begins_number more) e).0

    minus : (not (is_joined before) && begins_number more) ≡ true → eqb c.byte 43 ≡ false → (b : Bool)
        → eqb c.byte 45 ≡ b → Right before (c ∷ more) (signed_lexeme (cond b (Some Minus) None) c.place c.byte more)
    minus s p true e = numeric_right before c.place Minus (c ∷ []) more na (first_is e) refl (number s) (joined s)
    minus s p false e = punctuation_right before c more na (λ t. cc) (λ t. cc)

    plus : (not (is_joined before) && begins_number more) ≡ true → (b : Bool) → eqb c.byte 43 ≡ b → Right before
        (c ∷ more) (signed_lexeme (cond b (Some Plus) (cond (eqb c.byte 45) (Some Minus) None)) c.place c.byte more)
    plus s true e = numeric_right before c.place Plus (c ∷ []) more na (first_is e) refl (number s) (joined s)
    plus s false e = minus s e (eqb c.byte 45) refl

    go : (b : Bool) → (not (is_joined before) && begins_number more) ≡ b → Right before (c ∷ more) (signed_lexeme
        (cond b (cond (eqb c.byte 43) (Some Plus) (cond (eqb c.byte 45) (Some Minus) None)) None) c.place c.byte more)
    go false s = punctuation_right before c more na (λ _. s) (λ _. s)
    go true s = plus s (eqb c.byte 43) refl

-- ---- everything at the front

first_false : (a b x : Bool) → (a && b) ≡ false → (a && (b && x)) ≡ false
first_false true true x e = cc
first_false true false x e = refl
first_false false b x e = refl

no_picture : (awaits space comma semicolon : Bool) → (awaits && not space) ≡ false
    → ((space || comma) || semicolon) ≡ false → awaits ≡ false
no_picture true true comma semicolon e f = cc
no_picture true false comma semicolon e f = e
no_picture false space comma semicolon e f = refl

no_word : (c : Character) (more : List Character) → is_in class.LetterOrDigit c.byte ≡ false
    → begins_number (c ∷ more) ≡ true → begins_word (c ∷ more) ≡ false
no_word c more e number = go (eqb c.byte 45) refl
  where
    hyphen_first : (digit upper lower : Bool) → ((digit || upper) || lower) ≡ false → (digit || false) ≡ true
        → false ≡ true
    hyphen_first true upper lower e f = cc
    hyphen_first false upper lower e f = f

    go : (b : Bool) → eqb c.byte 45 ≡ b → begins_word (c ∷ more) ≡ false
    go true f =
        let other : eqb c.byte 46 ≡ false = rw (eqb-true c.byte 45 f) refl in
        let n : (is_in class.Digit c.byte || false) ≡ true = (rw other at number) in
        let a = hyphen_first _ _ _ e n in cc
    go false f = rw (e, f) refl

plain_right : (before : Context) (c : Character) (more : List Character)
    → (awaits_picture before && is_in class.Nonblank c.byte) ≡ false
    → Right before (c ∷ more) (plain_lexeme before c more)
unfolding plain_lexeme
plain_right before c more awaits =
    right_by (is_in class.Separator c.byte) (λ e. some None 1 (
      refl,
      e,
      first_false (awaits_picture before) (is_in class.Nonblank c.byte) (begins_with_class class.Nonblank more) awaits,
    ))
    (λ e. go (no_picture (awaits_picture before) (eqb c.byte 32) (eqb c.byte 44) (eqb c.byte 59) awaits e))
  where
    go : awaits_picture before ≡ false
        → Right before (c ∷ more) (cond (is_in class.LetterOrDigit c.byte) (word_or_number c.place (c ∷ more))
        (cond (begins_number (c ∷ more)) (numeric c.place Unsigned (c ∷ more))
        (cond (is_in class.Mark c.byte) (nonnumeric c.place c.byte more)
        (signed_lexeme (sign_here before c.byte more) c.place c.byte more))))
    go na =
        right_by (is_in class.LetterOrDigit c.byte)
        (λ e. right_by (begins_word (c ∷ more)) (λ letter. word_right before c.place c more na e letter)
        (λ no. numeric_right before c.place Unsigned [] (c ∷ more) na refl refl (rw (digit_first c more e no) refl) no))
        (λ e. right_by (begins_number (c ∷ more)) (λ number.
        numeric_right before c.place Unsigned [] (c ∷ more) na refl refl number (no_word c more e number))
        (λ _. right_by (is_in class.Mark c.byte) (λ m. nonnumeric_right before c more na m)
        (λ _. sign_right before c more na)))

lexeme_right : (before : Context) (c : Character) (more : List Character)
    → Right before (c ∷ more) (lexeme before c more)
unfolding lexeme
lexeme_right before c more =
    right_by (awaits_picture before && is_in class.Nonblank c.byte)
    (λ e. let both = both_true (awaits_picture before) (is_in class.Nonblank c.byte) e in
    picture_right before c more both.0 both.1) (λ e. plain_right before c more e)

fact : {before : Context} {cs : List Character} {one : Lexeme} → Right before cs (Ok one)
    → IsFront before one.kind (take one.size cs) (drop one.size cs)
fact (some kind size f) = f

-- what the function finds at the front is a token of its kind, or a separator
pub front_is : (before : Context) (c : Character) (text rest : List Character) (kind : Option Kind)
    → lexeme before c (text ++ rest) ≡ Ok (record { kind = kind; size = suc (length text) })
    → IsFront before kind (c ∷ text) rest
front_is before c text rest kind is =
    let found = fact (subst (λ o. Right before (c ∷ (text ++ rest)) o) is (lexeme_right before c (text ++ rest))) in
    subst (λ l. IsFront before kind (c ∷ text) l) (drop_text text rest)
    (subst (λ l. IsFront before kind (c ∷ l) (drop (length text) (text ++ rest))) (take_text text rest) found)
