-- The token or separator at the front has at least one character, and no more than there are.
use Rattle.std.proofs.Common.{IfOk, Result, ◌&&◌, not, ◌≡◌, ◌≤◌, ◌+◌, ◌-◌, ℕ, zero, suc, Bool, true, false, ◌||◌, cond}
use Rattle.std.proofs.Common.{eqb, List, [], ◌∷◌, length, drop, Option, None, Some, Ok, Err, refl, subst, arith}
use Rattle.std.proofs.Common.{length-drop, one-add}
use Rattle.std.specs.Prelude.{nat_lt, ◌==◌}
use Rattle.std.proofs.Math.Dec.{eqb-suc-zero}
use Rattle.std.proofs.lemmas.List.Sums.{prefix_len-le-length}
use Rattle.source_lines.specs.declared.lines.Character.{Character}
use Rattle.lexical.specs.declared.place.Place.{Place}
use Rattle.tokens.specs.declared.character.Class.{Class}
use Rattle.tokens.specs.declared.character.Class.TheVariants as class
use Rattle.tokens.specs.declared.context.Context.{Context}
use Rattle.tokens.specs.declared.fault.FaultKind.TheVariants as fault
use Rattle.tokens.specs.declared.fault.TokenFault.{TokenFault}
use Rattle.tokens.specs.declared.lexeme.Lexeme.{Lexeme}
use Rattle.tokens.specs.declared.token.Kind.TheVariants as k
use Rattle.tokens.specs.declared.token.Operator.{Operator}
use Rattle.tokens.specs.declared.token.Operator.TheVariants as o
use Rattle.tokens.specs.declared.fault.TokenError.{TokenError}
use Rattle.lexical.specs.declared.number.Sign.{Sign}
use Rattle.lexical.specs.declared.number.Sign.TheVariants.{Unsigned, Plus, Minus}
use Rattle.tokens.specs.Characters.{is_in, run_size, begins_with_class}
use Rattle.tokens.specs.Contexts.{awaits_picture, is_joined}
use Rattle.answers.specs.Answer.{Gives}
use Rattle.tokens.specs.Faults.{fault_of}
use Rattle.tokens.specs.Lexemes.{lexeme, plain_lexeme, punctuation, comparison, is_equal_sign, begins_word}
use Rattle.tokens.specs.Lexemes.{word_or_number, signed_lexeme, sign_here}
use Rattle.tokens.specs.Literals.{numeric, nonnumeric, quoted_characters, closed_literal, after_point, begins_number}
use Rattle.tokens.specs.Literals.{point_size, sign_size}
use Rattle.tokens.specs.Pictures.{picture, picture_size}
use Rattle.tokens.specs.Words.{Outcome, word, refusal_at, token}

-- what an outcome's size is between
pub data Sized (n : ℕ) : Outcome → Type 0 where
  none : {fault : TokenFault} → Sized n (Err fault)
  some : {one : Lexeme} → 1 ≤ one.size → one.size ≤ n → Sized n (Ok one)

pub low : {n : ℕ} {one : Lexeme} → Sized n (Ok one) → 1 ≤ one.size
low (some l h) = l

pub high : {n : ℕ} {one : Lexeme} → Sized n (Ok one) → one.size ≤ n
high (some l h) = h

pub sized_if : {n : ℕ} {x y : Outcome} (b : Bool) → Sized n x → Sized n y → Sized n (cond b x y)
sized_if true s t = s
sized_if false s t = t

pub sized_by : {n : ℕ} {x y : Outcome} (b : Bool) → (b ≡ true → Sized n x) → (b ≡ false → Sized n y)
    → Sized n (cond b x y)
sized_by true s t = s refl
sized_by false s t = t refl

pub run_le : (c : Class) (cs : List Character) → run_size c cs ≤ length cs
run_le c cs = prefix_len-le-length (λ x. is_in c x.byte) cs

pub run_begins : (c : Class) (cs : List Character) → begins_with_class c cs ≡ true → 1 ≤ run_size c cs
run_begins c [] b = cc
run_begins c (x ∷ more) b = rw b (omega arith)

pub no_run : (c : Class) (cs : List Character) → begins_with_class c cs ≡ false → run_size c cs ≡ 0
no_run c [] is = refl
no_run c (x ∷ more) is = rw is refl

-- ---- literals

fraction_fits : (cs : List Character) (n : ℕ) → n ≤ length (after_point cs) → n + point_size n ≤ length cs
fraction_fits [] n h = let z : n ≡ 0 = omega arith in rw z (omega arith)
fraction_fits (c ∷ more) n h = go (eqb c.byte 46) h
  where
    go : (b : Bool) → n ≤ length (cond b more []) → n + point_size n ≤ suc (length more)
    go true h = elim (eqb n 0) as (λ z. n + cond z 0 1 ≤ suc (length more)) [ true ↦ omega arith | false ↦ omega arith ]
    go false h = let z : n ≡ 0 = omega arith in rw z (omega arith)

pub some_digit : (cs : List Character) → begins_number cs ≡ true
    → 1 ≤ run_size class.Digit cs + run_size class.Digit (after_point (drop (run_size class.Digit cs) cs))
some_digit cs b = go (begins_with_class class.Digit cs) refl b
  where
    go : (x : Bool)
        → begins_with_class class.Digit cs ≡ x → (x || begins_with_class class.Digit (after_point cs)) ≡ true
        → 1 ≤ run_size class.Digit cs + run_size class.Digit (after_point (drop (run_size class.Digit cs) cs))
    go true is b = omega (arith, run_begins class.Digit cs is)
    go false is b = rw (no_run class.Digit cs is) (omega (arith, run_begins class.Digit (after_point cs) b))

pub numeric_sized : (place : Place) (sign : Sign) (cs : List Character) (n : ℕ) → begins_number cs ≡ true
    → sign_size sign + length cs ≤ n → Sized n (numeric place sign cs)
unfolding numeric
numeric_sized place sign cs n b h =
    let whole_fits : run_size class.Digit cs ≤ length cs = run_le class.Digit cs in
    let part_fits : run_size class.Digit (after_point (drop (run_size class.Digit cs) cs))
    + point_size (run_size class.Digit (after_point (drop (run_size class.Digit cs) cs)))
    ≤ length (drop (run_size class.Digit cs) cs) =
    fraction_fits (drop (run_size class.Digit cs) cs)
    (run_size class.Digit (after_point (drop (run_size class.Digit cs) cs)))
    (run_le class.Digit (after_point (drop (run_size class.Digit cs) cs))) in
    let left = length-drop (run_size class.Digit cs) cs in
    let least = some_digit cs b in
    sized_if _ none (some (omega arith) (omega arith))

-- the text of a nonnumeric literal, by the characters passed before and those that follow
data Passed (low high : ℕ) : Option (List ℕ × ℕ) → Type 0 where
  open_text : Passed low high None
  closed_text : {text : List ℕ} {size : ℕ} → low ≤ size → size ≤ high → Passed low high (Some (text, size))

passed_if : {l h : ℕ} {x y : Option (List ℕ × ℕ)} (b : Bool) → Passed l h x → Passed l h y → Passed l h (cond b x y)
passed_if true s t = s
passed_if false s t = t

passed_more : {size : ℕ} (more : ℕ) {x : Option (List ℕ × ℕ)} → Passed (size + 1) ((size + 1) + more) x
    → Passed size (size + suc more) x
passed_more more open_text = open_text
passed_more more (closed_text l h) = closed_text (omega arith) (omega arith)

quoted_passed : (mark : ℕ) (after : Bool) (text : List ℕ) (size : ℕ) (cs : List Character)
    → Passed size (size + length cs) (quoted_characters mark after text size cs)
quoted_passed mark true text size [] = closed_text (omega arith) (omega arith)
quoted_passed mark false text size [] = open_text
quoted_passed mark true text size (c ∷ more) = passed_if (eqb c.byte mark)
    (passed_more (length more) (quoted_passed mark false _ (size + 1) more)) (closed_text (omega arith) (omega arith))
quoted_passed mark false text size (c ∷ more) =
    passed_if (eqb c.byte mark) (passed_more (length more) (quoted_passed mark true _ (size + 1) more))
    (passed_more (length more) (quoted_passed mark false _ (size + 1) more))

-- a text with its marks, by whether it is refused
closed_by : (place : Place) (text : List ℕ) {size n : ℕ} (is_refused : Bool) → 1 ≤ size → size ≤ n
    → Sized n (cond is_refused (refusal_at fault.WrongNonnumericLiteral place) (Ok (token (k.Nonnumeric text) size)))
closed_by place text true l h = none
closed_by place text false l h = some l h

closed_sized : (place : Place) {n : ℕ} {x : Option (List ℕ × ℕ)} → Passed 1 n x → Sized n (closed_literal place x)
closed_sized place open_text = none
closed_sized place (closed_text {text = text} l h) =
    closed_by place text (length text == 0 || nat_lt 160 (length text)) l h

nonnumeric_sized : (place : Place) (mark : ℕ) (cs : List Character) → Sized (suc (length cs)) (nonnumeric place mark cs)
unfolding nonnumeric
nonnumeric_sized place mark cs = closed_sized place (subst (λ n. Passed 1 n (quoted_characters mark false [] 1 cs))
    (one-add (length cs)) (quoted_passed mark false [] 1 cs))

-- ---- words and pictures

word_sized : (place : Place) (cs : List Character) → 1 ≤ run_size class.InWord cs → Sized (length cs) (word place cs)
unfolding word
word_sized place cs h = sized_if _ none (some h (run_le class.InWord cs))

picture_size_le : (cs : List Character) → picture_size cs ≤ length cs
picture_size_le cs =
    let h = run_le class.Nonblank cs in
    go (run_size class.Nonblank cs) _ h
  where
    go : (n : ℕ) (b : Bool) → n ≤ length cs → cond b (n - 1) n ≤ length cs
    go n true h = omega arith
    go n false h = h

abbrev Fits : ℕ → Lexeme → Type 0
Fits most one = (1 ≤ one.size) × (one.size ≤ most)

at_least_one : (n most : ℕ) (x y : Lexeme) → Fits most x → (1 ≤ n → Fits most y) → Fits most (cond (eqb n 0) x y)
at_least_one zero most x y s t = s
at_least_one (suc n) most x y s t = rw eqb-suc-zero (t (omega arith))

fits_if : (most : ℕ) (x y : Lexeme) (b : Bool) → Fits most x → Fits most y → Fits most (cond b x y)
fits_if most x y true s t = s
fits_if most x y false s t = t

pub picture_sized : (before : Context) (first : ℕ) (cs : List Character) → 1 ≤ length cs
    → Sized (length cs) (Ok (picture before first cs))
unfolding picture
picture_sized before first cs h =
    let le = picture_size_le cs in
    let fits : Fits (length cs) (picture before first cs) =
    at_least_one (picture_size cs) (length cs) _ _ (fits_if (length cs) _ _ (eqb first 46) (omega arith, h)
    (omega arith, h)) (λ positive. fits_if (length cs) _ _ _ (positive, le) (positive, le)) in
    some {one = picture before first cs} fits.0 fits.1

-- ---- everything at the front

equal_sign_is_one : (more : List Character) → is_equal_sign more ≡ true → 1 ≤ length more
equal_sign_is_one [] e = cc
equal_sign_is_one (c ∷ more) e = omega arith

comparison_sized : (alone both : Operator) (more : List Character)
    → Sized (suc (length more)) (comparison alone both more)
unfolding comparison
comparison_sized alone both more = sized_by (is_equal_sign more) (λ e. let l =
    equal_sign_is_one more e in some (omega arith) (omega arith)) (λ e. some (omega arith) (omega arith))

one_sized : {n : ℕ} {one : Lexeme} → one.size ≡ 1 → Sized (suc n) (Ok one)
one_sized e = some (omega arith) (omega arith)

punctuation_sized : (place : Place) (first : ℕ) (more : List Character)
    → Sized (suc (length more)) (punctuation place first more)
unfolding punctuation
punctuation_sized place first more =
    sized_if (eqb first 46) (sized_if (begins_with_class class.Nonblank more) none (one_sized refl))
    (sized_if (eqb first 40) (one_sized refl)
    (sized_if (eqb first 41) (one_sized refl)
    (sized_if (eqb first 58) (one_sized refl)
    (sized_if (eqb first 43) (one_sized refl)
    (sized_if (eqb first 45) (one_sized refl)
    (sized_if (eqb first 42) (one_sized refl)
    (sized_if (eqb first 47) (one_sized refl)
    (sized_if (eqb first 61) (one_sized refl)
    (sized_if (eqb first 62) (comparison_sized o.Greater o.GreaterOrEqual more)
    (sized_if (eqb first 60) (comparison_sized o.Less o.LessOrEqual more) none))))))))))

pub in_word : (b : ℕ) → is_in class.LetterOrDigit b ≡ true → is_in class.InWord b ≡ true
in_word b e = rw e refl

is_left : (digit upper lower : Bool) → ((digit || upper) || lower) ≡ true → (upper || lower) ≡ false → digit ≡ true
is_left true upper lower e f = refl
is_left false upper lower e f = cc

-- what begins with a letter or digit and is no word begins with a digit
pub digit_first : (c : Character) (more : List Character) → is_in class.LetterOrDigit c.byte ≡ true
    → begins_word (c ∷ more) ≡ false → begins_with_class class.Digit (c ∷ more) ≡ true
digit_first c more alphanumeric no_word = go (is_in class.Letter c.byte) refl
  where
    letter_is_word : is_in class.Letter c.byte ≡ true → begins_word (c ∷ more) ≡ true
    letter_is_word is = rw (alphanumeric, one-add, is) refl

    go : (b : Bool) → is_in class.Letter c.byte ≡ b → is_in class.Digit c.byte ≡ true
    go true is = let w = letter_is_word is in cc
    go false is = is_left _ _ _ alphanumeric is

word_or_number_sized : (place : Place) (c : Character) (more : List Character) → is_in class.LetterOrDigit c.byte ≡ true
    → Sized (suc (length more)) (word_or_number place (c ∷ more))
word_or_number_sized place c more e =
    sized_by (begins_word (c ∷ more))
    (λ is. word_sized place (c ∷ more) (run_begins class.InWord (c ∷ more) (in_word c.byte e)))
    (λ is.
    numeric_sized place Unsigned (c ∷ more) (suc (length more)) (rw (digit_first c more e is) refl) (omega arith))

signed_sized : (before : Context) (place : Place) (first : ℕ) (more : List Character)
    → Sized (suc (length more)) (signed_lexeme (sign_here before first more) place first more)
signed_sized before place first more = go (not (is_joined before)) (begins_number more) refl
  where
    by_sign : (sign : Option Sign) → begins_number more ≡ true
        → Sized (suc (length more)) (signed_lexeme sign place first more)
    by_sign None b = punctuation_sized place first more
    by_sign (Some Unsigned) b = numeric_sized place Unsigned more (suc (length more)) b (omega arith)
    by_sign (Some Plus) b = numeric_sized place Plus more (suc (length more)) b (omega arith)
    by_sign (Some Minus) b = numeric_sized place Minus more (suc (length more)) b (omega arith)

    go : (apart number : Bool) → begins_number more ≡ number
        → Sized (suc (length more)) (signed_lexeme (cond (apart && number)
        (cond (eqb first 43) (Some Plus) (cond (eqb first 45) (Some Minus) None)) None) place first more)
    go true true b = by_sign _ b
    go true false b = punctuation_sized place first more
    go false true b = punctuation_sized place first more
    go false false b = punctuation_sized place first more

pub plain_sized : (before : Context) (first : Character) (more : List Character)
    → Sized (suc (length more)) (plain_lexeme before first more)
unfolding plain_lexeme
plain_sized before first more =
    sized_if (is_in class.Separator first.byte) (one_sized refl)
    (sized_by (is_in class.LetterOrDigit first.byte) (word_or_number_sized first.place first more)
    (λ _. sized_by (begins_number (first ∷ more))
    (λ is. numeric_sized first.place Unsigned (first ∷ more) (suc (length more)) is (omega arith))
    (λ _. sized_if (is_in class.Mark first.byte) (nonnumeric_sized first.place first.byte more)
    (signed_sized before first.place first.byte more))))

pub lexeme_sized : (before : Context) (first : Character) (more : List Character)
    → Sized (suc (length more)) (lexeme before first more)
unfolding lexeme
lexeme_sized before first more =
    sized_if (awaits_picture before && is_in class.Nonblank first.byte)
    (picture_sized before first.byte (first ∷ more) (omega arith)) (plain_sized before first more)

-- what was returned has a size within
pub returned_sized : {n : ℕ} {says : Outcome} (result : Result Lexeme TokenError) → Sized n says
    → Gives (λ one. one) fault_of result says → IfOk result (λ one. (1 ≤ one.size) × (one.size ≤ n))
returned_sized (Ok one) s e = let t = subst (Sized _) e s in (low t, high t)
returned_sized (Err error) s e = tt
