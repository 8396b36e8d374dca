-- What is a token of its kind, or a separator, is what the function finds at the front.
use Rattle.std.proofs.Common.{◌≡◌, ◌≤◌, ◌⊎◌, inl, inr, ◌+◌, ◌-◌, ℕ, zero, suc, Bool, true, false, ◌||◌, ◌&&◌, not, cond}
use Rattle.std.proofs.Common.{eqb, List, [], ◌∷◌, ◌++◌, length, take, drop, Option, None, Some, Ok, refl, sym, ap, ◌∙◌}
use Rattle.std.proofs.Common.{subst, arith, append_assoc, append-nil, one-add, length-append}
use Rattle.std.proofs.Math.Dec.{eqb-suc-zero}
use Rattle.std.specs.Prelude.{nat_lt, slice_get}
use Rattle.std.proofs.lemmas.Bool.{eqb-true, le-ltb}
use Rattle.source_lines.specs.declared.lines.Character.{Character}
use Rattle.lexical.specs.declared.place.Place.{Place}
use Rattle.tokens.specs.declared.character.Class.{Class}
use Rattle.tokens.specs.declared.character.Class.TheVariants as class
use Rattle.tokens.specs.declared.context.Context.{Context}
use Rattle.tokens.specs.declared.context.Context.TheVariants as context
use Rattle.tokens.specs.declared.reserved.Reserved.TheVariants as w
use Rattle.tokens.specs.declared.token.Kind.{Kind}
use Rattle.tokens.specs.declared.token.Kind.TheVariants as k
use Rattle.tokens.specs.declared.token.Operator.{Operator}
use Rattle.tokens.specs.declared.token.Operator.TheVariants as o
use Rattle.lexical.specs.declared.number.Sign.{Sign}
use Rattle.lexical.specs.declared.number.Sign.TheVariants.{Unsigned, Plus, Minus}
use Rattle.tokens.specs.Characters.{is_in, bytes, bytes_in_upper_case, run_size, begins_with_class, ends_with_class}
use Rattle.tokens.specs.Characters.{is_last, has_class}
use Rattle.tokens.specs.Contexts.{awaits_picture, is_joined, may_be_is}
use Rattle.tokens.specs.Kinds.{IsWord, IsNumericLiteral, IsNonnumericLiteral, begins_with, has_more_digits, IsPicture}
use Rattle.tokens.specs.Kinds.{IsFront, has_more}
use Rattle.tokens.specs.Lexemes.{lexeme, plain_lexeme, punctuation, comparison, is_equal_sign, begins_word}
use Rattle.tokens.specs.Lexemes.{word_or_number, signed_lexeme, sign_here}
use Rattle.tokens.specs.Literals.{numeric, nonnumeric, quoted_characters, closed_literal, after_point, begins_number}
use Rattle.tokens.specs.Literals.{sign_size, point_size}
use Rattle.tokens.specs.Pictures.{picture, picture_size, lone_mark, is_is, separator}
use Rattle.tokens.specs.Spelled.{All, decimals_text, doubled_marks, operator_text}
use Rattle.tokens.specs.Words.{Outcome, token, word, word_or_reserved, kind_of_word}
use Rattle.tokens.proofs.Literals.{take_text, eqb_self}
use Rattle.tokens.proofs.Sizes.{no_run}

-- ---- runs

run_is : (one : Class) (text rest : List Character) → All one (bytes text) → begins_with_class one rest ≡ false
    → run_size one (text ++ rest) ≡ length text
run_is one [] rest all stop = no_run one rest stop
run_is one (c ∷ text) rest all stop = rw (all.0, run_is one text rest all.1 stop) (one-add (length text))

no_separator : (b : ℕ) → is_in class.LetterOrDigit b ≡ true → is_in class.Separator b ≡ false
no_separator b e = go (eqb b 32) refl (eqb b 44) refl (eqb b 59) refl
  where
    go : (x : Bool) → eqb b 32 ≡ x → (y : Bool) → eqb b 44 ≡ y → (z : Bool) → eqb b 59 ≡ z → ((x || y) || z) ≡ false
    go true f y g z h = let t = subst (λ n. is_in class.LetterOrDigit n ≡ true) (eqb-true b 32 f) e in cc
    go false f true g z h = let t = subst (λ n. is_in class.LetterOrDigit n ≡ true) (eqb-true b 44 g) e in cc
    go false f false g true h = let t = subst (λ n. is_in class.LetterOrDigit n ≡ true) (eqb-true b 59 h) e in cc
    go false f false g false h = refl

lexeme_plain : (before : Context) (c : Character) (more : List Character) → awaits_picture before ≡ false
    → lexeme before c more ≡ plain_lexeme before c more
unfolding lexeme
lexeme_plain before c more na = rw na refl

choose : (s l : Bool) (a b c : Outcome) → s ≡ false → l ≡ true → cond s a (cond l b c) ≡ b
choose true l a b c e f = cc
choose false true a b c e f = refl
choose false false a b c e f = cc

-- ---- words

word_of : (place : Place) (cs text : List Character) (n : ℕ) → run_size class.InWord cs ≡ n → take n cs ≡ text
    → has_class class.Letter text ≡ true → nat_lt 30 n ≡ false → ends_with_class class.Hyphen text ≡ false
    → word_or_number place cs ≡ Ok (token (kind_of_word (bytes_in_upper_case text)) n)
unfolding word
word_of place cs text n r front letter few hyphen = rw (r, front, letter, few, hyphen) refl

word_is : (before : Context) (c : Character) (text rest : List Character) → awaits_picture before ≡ false
    → IsWord (c ∷ text) rest
    → lexeme before c (text ++ rest) ≡ Ok (token (kind_of_word (bytes_in_upper_case (c ∷ text))) (suc (length text)))
unfolding plain_lexeme
word_is before c text rest na is = lexeme_plain before c (text ++ rest) na ∙ by_plain
  where
    found : word_or_number c.place (c ∷ (text ++ rest))
        ≡ Ok (token (kind_of_word (bytes_in_upper_case (c ∷ text))) (suc (length text)))
    found = word_of c.place (c ∷ (text ++ rest)) (c ∷ text) (suc (length text)) (run_is class.InWord (c ∷ text) rest
        is.0.0 is.0.1) (take_text (c ∷ text) rest) is.2 (le-ltb 30 (suc (length text)) is.3) is.4

    by_plain : plain_lexeme before c (text ++ rest)
        ≡ Ok (token (kind_of_word (bytes_in_upper_case (c ∷ text))) (suc (length text)))
    by_plain =
        choose (is_in class.Separator c.byte) (is_in class.LetterOrDigit c.byte) (Ok separator)
        (word_or_number c.place (c ∷ (text ++ rest)))
        (cond (begins_number (c ∷ (text ++ rest))) (numeric c.place Unsigned (c ∷ (text ++ rest)))
        (cond (is_in class.Mark c.byte) (nonnumeric c.place c.byte (text ++ rest))
        (signed_lexeme (sign_here before c.byte (text ++ rest)) c.place c.byte (text ++ rest))))
        (no_separator c.byte is.1) is.1
        ∙ found

-- ---- numeric literals

abbrev Digits : List ℕ → List ℕ → List Character → Type 0
Digits whole decimals cs =
    (run_size class.Digit cs ≡ length whole) × (bytes (take (length whole) cs) ≡ whole)
    × (run_size class.Digit (after_point (drop (length whole) cs)) ≡ length decimals)
    × (bytes (take (length decimals) (after_point (drop (length whole) cs))) ≡ decimals)

left_false : (a b : Bool) → (a || b) ≡ false → (a ≡ false) × (b ≡ false)
left_false true b e = cc
left_false false b e = (refl, e)

length_bytes : (cs : List Character) → length (bytes cs) ≡ length cs
length_bytes [] = refl
length_bytes (c ∷ cs) = ap suc (length_bytes cs)

digits_of : (whole decimals : List ℕ) (text rest : List Character) → bytes text ≡ whole ++ decimals_text decimals
    → All class.Digit whole → All class.Digit decimals → has_more_digits decimals rest ≡ false
    → Digits whole decimals (text ++ rest)
digits_of [] [] [] rest is all more_all stop =
    let both =
    left_false (begins_with_class class.Digit rest) (begins_with_class class.Digit (after_point rest)) stop in
    (no_run class.Digit rest both.0, refl, no_run class.Digit (after_point rest) both.1, refl)
digits_of [] [] (p ∷ text) rest is all more_all stop = cc
digits_of [] (d ∷ decimals) [] rest is all more_all stop = cc
digits_of [] (d ∷ decimals) (p ∷ text) rest is all more_all stop =
    let point : p.byte ≡ 46 = cc in
    let others : bytes text ≡ d ∷ decimals = cc in
    let count : length text ≡ suc (length decimals) = sym (length_bytes text) ∙ ap length others in
    let digits : run_size class.Digit (text ++ rest) ≡ suc (length decimals) =
    run_is class.Digit text rest (subst (λ l. All class.Digit l) (sym others) more_all) stop ∙ count in
    let front : bytes (take (suc (length decimals)) (text ++ rest)) ≡ d ∷ decimals =
    ap (λ n. bytes (take n (text ++ rest))) (sym count) ∙ ap bytes (take_text text rest) ∙ others in
    (rw point refl, refl, rw point digits, rw point front)
digits_of (d ∷ whole) decimals [] rest is all more_all stop = cc
digits_of (d ∷ whole) decimals (p ∷ text) rest is all more_all stop =
    let same : p.byte ≡ d = cc in
    let others : bytes text ≡ whole ++ decimals_text decimals = cc in
    let s = digits_of whole decimals text rest others all.1 more_all stop in
    let digit : is_in class.Digit p.byte ≡ true = subst (λ b. is_in class.Digit b ≡ true) (sym same) all.0 in
    (rw (digit, s.0) (one-add (length whole)), (λ i. same i ∷ s.1 i), s.2, s.3)

numeric_of : (place : Place) (sign : Sign) (whole decimals : List ℕ) (cs : List Character) → Digits whole decimals cs
    → length whole + length decimals ≤ 18
    → numeric place sign cs ≡ Ok (token (k.Numeric (record { sign = sign; whole = whole; decimals = decimals }))
    (((sign_size sign + length whole) + point_size (length decimals)) + length decimals))
unfolding numeric
numeric_of place sign whole decimals cs d h = rw (d.0, d.2, le-ltb 18 (length whole + length decimals) h, d.1, d.3) refl

decimals_length : (decimals : List ℕ) → length (decimals_text decimals) ≡ point_size (length decimals) + length decimals
decimals_length [] = refl
decimals_length (d ∷ decimals) = rw eqb-suc-zero (omega arith)

-- the characters of digits and decimals, counted
counted : (whole decimals : List ℕ) (text : List Character) → bytes text ≡ whole ++ decimals_text decimals
    → length text ≡ length whole + (point_size (length decimals) + length decimals)
counted whole decimals text is = sym (length_bytes text) ∙ ap length is ∙ length-append whole (decimals_text decimals)
    ∙ ap (λ n. length whole + n) (decimals_length decimals)

number_begins : (whole decimals : List ℕ) (text rest : List Character) → bytes text ≡ whole ++ decimals_text decimals
    → All class.Digit whole → All class.Digit decimals → 1 ≤ length whole + length decimals
    → begins_number (text ++ rest) ≡ true
number_begins [] [] text rest is all more_all h = absurd (omega arith)
number_begins [] (d ∷ decimals) [] rest is all more_all h = cc
number_begins [] (d ∷ decimals) (p ∷ []) rest is all more_all h = cc
number_begins [] (d ∷ decimals) (p ∷ q ∷ text) rest is all more_all h =
    let point : p.byte ≡ 46 = cc in
    let same : q.byte ≡ d = cc in
    let digit : is_in class.Digit q.byte ≡ true = subst (λ b. is_in class.Digit b ≡ true) (sym same) more_all.0 in
    rw point digit
number_begins (d ∷ whole) decimals [] rest is all more_all h = cc
number_begins (d ∷ whole) decimals (p ∷ text) rest is all more_all h =
    let same : p.byte ≡ d = cc in
    let digit : is_in class.Digit p.byte ≡ true = subst (λ b. is_in class.Digit b ≡ true) (sym same) all.0 in
    rw digit refl

or_true : (a b : Bool) → a ≡ true → (a || b) ≡ true
or_true true b e = refl
or_true false b e = cc

-- what begins a number is no separator
number_no_separator : (c : Character) (more : List Character) → begins_number (c ∷ more) ≡ true
    → is_in class.Separator c.byte ≡ false
number_no_separator c more e = go (is_in class.Digit c.byte) refl (eqb c.byte 46) refl e
  where
    go : (x : Bool) → is_in class.Digit c.byte ≡ x → (y : Bool) → eqb c.byte 46 ≡ y
        → (x || begins_with_class class.Digit (cond y more [])) ≡ true → is_in class.Separator c.byte ≡ false
    go true f y g e = no_separator c.byte (rw f refl)
    go false f true g e = rw (eqb-true c.byte 46 g) refl
    go false f false g e = cc

unsigned_plain : (before : Context) (c : Character) (more : List Character) → begins_number (c ∷ more) ≡ true
    → begins_word (c ∷ more) ≡ false → plain_lexeme before c more ≡ numeric c.place Unsigned (c ∷ more)
unfolding plain_lexeme
unsigned_plain before c more number wordless = go (is_in class.LetterOrDigit c.byte) (number_no_separator c more number)
  where
    go : (b : Bool) → is_in class.Separator c.byte ≡ false
        → cond (is_in class.Separator c.byte) (Ok separator) (cond b (word_or_number c.place (c ∷ more))
        (cond (begins_number (c ∷ more)) (numeric c.place Unsigned (c ∷ more))
        (cond (is_in class.Mark c.byte) (nonnumeric c.place c.byte more)
        (signed_lexeme (sign_here before c.byte more) c.place c.byte more)))) ≡ numeric c.place Unsigned (c ∷ more)
    go true e = rw (e, wordless) refl
    go false e = rw (e, number) refl

plus_plain : (before : Context) (place : Place) (more : List Character) → begins_number more ≡ true → is_joined
    before ≡ false → plain_lexeme before (record { byte = 43; place = place }) more ≡ numeric place Plus more
unfolding plain_lexeme
plus_plain before place more number joined = rw (number, joined) refl

minus_plain : (before : Context) (place : Place) (more : List Character) → begins_number more ≡ true → is_joined
    before ≡ false → plain_lexeme before (record { byte = 45; place = place }) more ≡ numeric place Minus more
unfolding plain_lexeme
minus_plain before place more number joined = rw (number, joined) refl

numeric_is : (before : Context) (c : Character) (text rest : List Character) (sign : Sign) (whole decimals : List ℕ)
    → awaits_picture before ≡ false
    → IsNumericLiteral before (record { sign = sign; whole = whole; decimals = decimals }) (c ∷ text) rest
    → lexeme before c (text ++ rest)
    ≡ Ok (token (k.Numeric (record { sign = sign; whole = whole; decimals = decimals })) (suc (length text)))
numeric_is before c text rest Unsigned whole decimals na is =
    let size : ((0 + length whole) + point_size (length decimals)) + length decimals ≡ suc (length text) = let l =
    counted whole decimals (c ∷ text) is.0.0 in omega arith in
    lexeme_plain before c (text ++ rest) na
    ∙ unsigned_plain before c (text ++ rest) (number_begins whole decimals (c ∷ text) rest is.0.0 is.0.1 is.0.2 is.1)
    is.4
    ∙ numeric_of c.place Unsigned whole decimals (c ∷ (text ++ rest))
    (digits_of whole decimals (c ∷ text) rest is.0.0 is.0.1 is.0.2 is.3) is.2
    ∙ ap (λ n. Ok (token (k.Numeric (record { sign = Unsigned; whole = whole; decimals = decimals })) n)) size
numeric_is before c text rest Plus whole decimals na is =
    let sign : c.byte ≡ 43 = cc in
    let others : bytes text ≡ whole ++ decimals_text decimals = cc in
    let size : ((1 + length whole) + point_size (length decimals)) + length decimals ≡ suc (length text) = let l =
    counted whole decimals text others in omega arith in
    lexeme_plain before c (text ++ rest) na
    ∙ subst (λ b. plain_lexeme before (record { byte = b; place = c.place }) (text ++ rest)
    ≡ numeric c.place Plus (text ++ rest)) (sym sign)
    (plus_plain before c.place (text ++ rest) (number_begins whole decimals text rest others is.0.1 is.0.2 is.1) is.4)
    ∙ numeric_of c.place Plus whole decimals (text ++ rest)
    (digits_of whole decimals text rest others is.0.1 is.0.2 is.3) is.2
    ∙ ap (λ n. Ok (token (k.Numeric (record { sign = Plus; whole = whole; decimals = decimals })) n)) size
numeric_is before c text rest Minus whole decimals na is =
    let sign : c.byte ≡ 45 = cc in
    let others : bytes text ≡ whole ++ decimals_text decimals = cc in
    let size : ((1 + length whole) + point_size (length decimals)) + length decimals ≡ suc (length text) = let l =
    counted whole decimals text others in omega arith in
    lexeme_plain before c (text ++ rest) na
    ∙ subst (λ b. plain_lexeme before (record { byte = b; place = c.place }) (text ++ rest)
    ≡ numeric c.place Minus (text ++ rest)) (sym sign)
    (minus_plain before c.place (text ++ rest) (number_begins whole decimals text rest others is.0.1 is.0.2 is.1) is.4)
    ∙ numeric_of c.place Minus whole decimals (text ++ rest)
    (digits_of whole decimals text rest others is.0.1 is.0.2 is.3) is.2
    ∙ ap (λ n. Ok (token (k.Numeric (record { sign = Minus; whole = whole; decimals = decimals })) n)) size

-- ---- nonnumeric literals

closed_here : (mark : ℕ) (there : List ℕ) (size : ℕ) (rest : List Character) → begins_with mark rest ≡ false
    → quoted_characters mark true there size rest ≡ Some (there, size)
closed_here mark there size [] stop = refl
closed_here mark there size (c ∷ rest) stop = rw stop refl

quoted_is : (mark : ℕ) (literal there : List ℕ) (size : ℕ) (text rest : List Character)
    → bytes text ≡ doubled_marks mark literal ++ (mark ∷ []) → begins_with mark rest ≡ false
    → quoted_characters mark false there size (text ++ rest) ≡ Some (there ++ literal, size + length text)
quoted_is mark [] there size [] rest is stop = cc
quoted_is mark [] there size (c ∷ []) rest is stop =
    let same : c.byte ≡ mark = cc in
    let first : eqb c.byte mark ≡ true = ap (λ b. eqb b mark) same ∙ eqb_self mark in
    rw first (closed_here mark there (size + 1) rest stop ∙ ap (λ l. Some (l, size + 1)) (sym (append-nil there)))
quoted_is mark [] there size (c ∷ d ∷ text) rest is stop = cc
quoted_is mark (b ∷ literal) there size text rest is stop =
    go (eqb b mark) refl text is (λ there size text is. quoted_is mark literal there size text rest is stop)
  where
    go : (x : Bool) → eqb b mark ≡ x → (text : List Character)
        → bytes text ≡ cond x (mark ∷ mark ∷ doubled_marks mark literal) (b ∷ doubled_marks mark literal) ++ (mark ∷ [])
        → ((there : List ℕ) (size : ℕ) (text : List Character) → bytes text ≡ doubled_marks mark literal ++ (mark ∷ [])
        → quoted_characters mark false there size (text ++ rest) ≡ Some (there ++ literal, size + length text))
        → quoted_characters mark false there size (text ++ rest) ≡ Some (there ++ (b ∷ literal), size + length text)
    go true e [] is again = cc
    go true e (c ∷ []) is again = cc
    go true e (c ∷ d ∷ text) is again =
        let same : c.byte ≡ mark = cc in
        let also : d.byte ≡ mark = cc in
        let others : bytes text ≡ doubled_marks mark literal ++ (mark ∷ []) = cc in
        let one : eqb c.byte mark ≡ true = ap (λ b. eqb b mark) same ∙ eqb_self mark in
        let two : eqb d.byte mark ≡ true = ap (λ b. eqb b mark) also ∙ eqb_self mark in
        let count : ((size + 1) + 1) + length text ≡ size + suc (suc (length text)) = omega arith in
        let joined : (there ++ (mark ∷ [])) ++ literal ≡ there ++ (b ∷ literal) =
        append_assoc there (mark ∷ []) literal ∙ ap (λ m. there ++ (m ∷ literal)) (sym (eqb-true b mark e)) in
        rw (one, two) (again (there ++ (mark ∷ [])) ((size + 1) + 1) text others ∙ (λ i. Some (joined i, count i)))
    go false e [] is again = cc
    go false e (c ∷ text) is again =
        let same : c.byte ≡ b = cc in
        let others : bytes text ≡ doubled_marks mark literal ++ (mark ∷ []) = cc in
        let one : eqb c.byte mark ≡ false = ap (λ b. eqb b mark) same ∙ e in
        let count : (size + 1) + length text ≡ size + suc (length text) = omega arith in
        let joined : (there ++ (c.byte ∷ [])) ++ literal ≡ there ++ (b ∷ literal) =
        append_assoc there (c.byte ∷ []) literal ∙ ap (λ m. there ++ (m ∷ literal)) same in
        rw one (again (there ++ (c.byte ∷ [])) (size + 1) text others ∙ (λ i. Some (joined i, count i)))

not_zero : (n : ℕ) → 1 ≤ n → eqb n 0 ≡ false
not_zero zero h = absurd (omega arith)
not_zero (suc n) h = eqb-suc-zero n

mark_plain : (before : Context) (c : Character) (more : List Character) → is_in class.Mark c.byte ≡ true
    → plain_lexeme before c more ≡ nonnumeric c.place c.byte more
unfolding plain_lexeme
mark_plain before c more m = go (eqb c.byte 34) refl (eqb c.byte 39) refl m
  where
    at : (b : ℕ) → plain_lexeme before (record { byte = b; place = c.place }) more ≡ nonnumeric c.place b more
        → c.byte ≡ b → plain_lexeme before c more ≡ nonnumeric c.place c.byte more
    at b e f = subst (λ b. plain_lexeme before (record { byte = b; place = c.place }) more ≡ nonnumeric c.place b more)
        (sym f) e

    quotation : plain_lexeme before (record { byte = 34; place = c.place }) more ≡ nonnumeric c.place 34 more
    quotation = refl

    apostrophe : plain_lexeme before (record { byte = 39; place = c.place }) more ≡ nonnumeric c.place 39 more
    apostrophe = refl

    go : (x : Bool) → eqb c.byte 34 ≡ x → (y : Bool) → eqb c.byte 39 ≡ y → (x || y) ≡ true
        → plain_lexeme before c more ≡ nonnumeric c.place c.byte more
    go true f y g e = at 34 quotation (eqb-true c.byte 34 f)
    go false f true g e = at 39 apostrophe (eqb-true c.byte 39 g)
    go false f false g e = cc

closed_is : (place : Place) (literal : List ℕ) (size : ℕ) → 1 ≤ length literal → length literal ≤ 160
    → closed_literal place (Some (literal, size)) ≡ Ok (token (k.Nonnumeric literal) size)
closed_is place literal size h l = rw (not_zero (length literal) h, le-ltb 160 (length literal) l) refl

nonnumeric_is : (before : Context) (c : Character) (text rest : List Character) (mark : ℕ) (literal : List ℕ)
    → awaits_picture before ≡ false → IsNonnumericLiteral mark literal (c ∷ text) rest
    → lexeme before c (text ++ rest) ≡ Ok (token (k.Nonnumeric literal) (suc (length text)))
unfolding nonnumeric
nonnumeric_is before c text rest mark literal na is =
    lexeme_plain before c (text ++ rest) na ∙ mark_plain before c (text ++ rest) (ap (is_in class.Mark) first ∙ is.0.0)
    ∙ by_quotes
  where
    first : c.byte ≡ mark
    first = let e = is.0.1 in cc

    others : bytes text ≡ doubled_marks mark literal ++ (mark ∷ [])
    others = let e = is.0.1 in cc

    by_quotes : nonnumeric c.place c.byte (text ++ rest) ≡ Ok (token (k.Nonnumeric literal) (suc (length text)))
    by_quotes =
        ap (λ m. closed_literal c.place (quoted_characters m false [] 1 (text ++ rest))) first
        ∙ ap (closed_literal c.place) (quoted_is mark literal [] 1 text rest others is.3)
        ∙ ap (λ n. closed_literal c.place (Some (literal, n))) (one-add (length text))
        ∙ closed_is c.place literal (suc (length text)) is.1 is.2

-- ---- pictures

ending_nonblank : (b : ℕ) → is_in class.Ending b ≡ true → is_in class.Nonblank b ≡ true
ending_nonblank b e = go (eqb b 32) refl
  where
    go : (x : Bool) → eqb b 32 ≡ x → not x ≡ true
    go true f = let t = subst (λ n. is_in class.Ending n ≡ true) (eqb-true b 32 f) e in cc
    go false f = refl

lexeme_picture : (before : Context) (c : Character) (more : List Character) → awaits_picture before ≡ true
    → is_in class.Nonblank c.byte ≡ true → lexeme before c more ≡ Ok (picture before c.byte (c ∷ more))
unfolding lexeme
lexeme_picture before c more awaits nonblank = rw (awaits, nonblank) refl

picture_lone : (before : Context) (first : ℕ) (cs : List Character) → picture_size cs ≡ 0
    → picture before first cs ≡ lone_mark first
unfolding picture
picture_lone before first cs h = rw h refl

lone_size : (c : Character) (rest : List Character) → is_in class.Nonblank c.byte ≡ true
    → is_in class.Ending c.byte ≡ true → begins_with_class class.Nonblank rest ≡ false → picture_size (c ∷ rest) ≡ 0
lone_size c rest nonblank ending blank = rw (nonblank, no_run class.Nonblank rest blank) (rw ending refl)

size_of : (cs text : List Character) (n : ℕ) → run_size class.Nonblank cs ≡ n → take n cs ≡ text
    → picture_size cs ≡ cond (ends_with_class class.Ending text) (n - 1) n
size_of cs text n r front = rw (r, front) refl

all_more : (one : Class) (text : List Character) (m : Character) → All one (bytes text) → is_in one m.byte ≡ true
    → All one (bytes (text ++ (m ∷ [])))
all_more one [] m all e = (e, tt)
all_more one (c ∷ text) m all e = (all.0, all_more one text m all.1 e)

last_is : (text : List Character) (m : Character) → slice_get (text ++ (m ∷ [])) (length text) ≡ Some m
last_is [] m = refl
last_is (c ∷ text) m = last_is text m

picture_size_is : (text rest : List Character) → IsPicture text rest → picture_size (text ++ rest) ≡ length text
picture_size_is text rest is = go rest is.2
  where
    cut : (m : Character) (rest : List Character) → is_in class.Ending m.byte ≡ true
        → begins_with_class class.Nonblank rest ≡ false → picture_size (text ++ (m ∷ rest)) ≡ length text
    cut m rest ending blank =
        let count : length (text ++ (m ∷ [])) ≡ suc (length text) = let l =
        length-append text (m ∷ []) in omega arith in
        let less : length (text ++ (m ∷ [])) - 1 ≡ length text = omega arith in
        let ended : ends_with_class class.Ending (text ++ (m ∷ [])) ≡ true =
        ap (λ n. is_last class.Ending (slice_get (text ++ (m ∷ [])) n)) less
        ∙ ap (is_last class.Ending) (last_is text m) ∙ ending in
        let all = all_more class.Nonblank text m is.1 (ending_nonblank m.byte ending) in
        ap picture_size (sym (append_assoc text (m ∷ []) rest))
        ∙ size_of ((text ++ (m ∷ [])) ++ rest) (text ++ (m ∷ [])) (length (text ++ (m ∷ [])))
        (run_is class.Nonblank (text ++ (m ∷ [])) rest all blank) (take_text (text ++ (m ∷ [])) rest)
        ∙ ap (λ b. cond b (length (text ++ (m ∷ [])) - 1) (length (text ++ (m ∷ [])))) ended ∙ less

    go : (rest : List Character)
        → ((ends_with_class class.Ending text ≡ false) × (begins_with_class class.Nonblank rest ≡ false))
        ⊎ ((begins_with_class class.Ending rest ≡ true) × (begins_with_class class.Nonblank (drop 1 rest) ≡ false))
        → picture_size (text ++ rest) ≡ length text
    go rest (inl e) =
        size_of (text ++ rest) text (length text) (run_is class.Nonblank text rest is.1 e.1) (take_text text rest)
        ∙ ap (λ b. cond b (length text - 1) (length text)) e.0
    go [] (inr e) = let f = e.0 in cc
    go (m ∷ rest) (inr e) = cut m rest e.0 e.1

picture_text : (before : Context) (first : ℕ) (cs text : List Character) (n : ℕ) → picture_size cs ≡ n
    → take n cs ≡ text → eqb n 0 ≡ false
    → picture before first cs
    ≡ cond (may_be_is before && is_is (bytes text)) (token (k.Reserved w.Is) n) (token (k.Picture (bytes text)) n)
unfolding picture
picture_text before first cs text n size front some = rw (size, some, front) refl

picture_is : (before : Context) (c : Character) (text rest : List Character) (b : Bool) → awaits_picture before ≡ true
    → IsPicture (c ∷ text) rest → (may_be_is before && is_is (bytes (c ∷ text))) ≡ b
    → lexeme before c (text ++ rest) ≡ Ok
    (cond b (token (k.Reserved w.Is) (suc (length text))) (token (k.Picture (bytes (c ∷ text))) (suc (length text))))
picture_is before c text rest b awaits is e =
    lexeme_picture before c (text ++ rest) awaits is.1.0
    ∙ ap Ok (picture_text before c.byte (c ∷ (text ++ rest)) (c ∷ text) (suc (length text))
    (picture_size_is (c ∷ text) rest is) (take_text (c ∷ text) rest) (eqb-suc-zero (length text))
    ∙ ap (λ b.
    cond b (token (k.Reserved w.Is) (suc (length text))) (token (k.Picture (bytes (c ∷ text))) (suc (length text)))) e)

awaits_if : (before : Context) (b : Bool) → (may_be_is before && b) ≡ true → awaits_picture before ≡ true
awaits_if context.Joined b e = cc
awaits_if context.Apart b e = cc
awaits_if context.AfterPicture b e = refl
awaits_if context.AfterPictureIs b e = refl

-- ---- periods, parentheses and operators

one_char : (c : Character) (text : List Character) (n : ℕ) → bytes (c ∷ text) ≡ n ∷ [] → (c.byte ≡ n) × (text ≡ [])
one_char c [] n e = let s : c.byte ≡ n = cc in (s, refl)
one_char c (t ∷ text) n e = cc

two_chars : (c : Character) (text : List Character) (n m : ℕ) → bytes (c ∷ text) ≡ n ∷ m ∷ []
    → (c.byte ≡ n) × ((d : Character) × (text ≡ d ∷ []) × (d.byte ≡ m))
two_chars c [] n m e = cc
two_chars c (d ∷ []) n m e = let s : c.byte ≡ n = cc in let t : d.byte ≡ m = cc in (s, (d, refl, t))
two_chars c (d ∷ t ∷ text) n m e = cc

no_sign : (before : Context) (first : ℕ) (more : List Character) → eqb first 43 ≡ false → eqb first 45 ≡ false
    → sign_here before first more ≡ None
no_sign before first more p m = go (not (is_joined before) && begins_number more)
  where
    go : (b : Bool) → cond b (cond (eqb first 43) (Some Plus) (cond (eqb first 45) (Some Minus) None)) None ≡ None
    go true = rw (p, m) refl
    go false = refl

no_sign_here : (before : Context) (first : ℕ) (more : List Character)
    → (not (is_joined before) && begins_number more) ≡ false → sign_here before first more ≡ None
no_sign_here before first more e = rw e refl

blank_no_digit : (more : List Character) → begins_with_class class.Nonblank more ≡ false
    → begins_with_class class.Digit more ≡ false
blank_no_digit [] e = refl
blank_no_digit (c ∷ more) e = go (eqb c.byte 32) refl e
  where
    go : (x : Bool) → eqb c.byte 32 ≡ x → not x ≡ false → is_in class.Digit c.byte ≡ false
    go true f e = rw (eqb-true c.byte 32 f) refl
    go false f e = cc

-- a character that begins no word, number or text
punctuated : (before : Context) (c : Character) (more : List Character) → is_in class.Separator c.byte ≡ false
    → is_in class.LetterOrDigit c.byte ≡ false → begins_number (c ∷ more) ≡ false
    → is_in class.Mark c.byte ≡ false → sign_here before c.byte more ≡ None
    → plain_lexeme before c more ≡ punctuation c.place c.byte more
unfolding plain_lexeme
punctuated before c more a b n m s = rw (a, b, n, m, s) refl

at_byte : (before : Context) (c : Character) (b : ℕ) (more : List Character) (x : Outcome) → c.byte ≡ b
    → is_in class.Separator b ≡ false → is_in class.LetterOrDigit b ≡ false
    → begins_number (record { byte = b; place = c.place } ∷ more) ≡ false → is_in class.Mark b ≡ false
    → sign_here before b more ≡ None
    → punctuation c.place b more ≡ x → plain_lexeme before c more ≡ x
at_byte before c b more x same a l n m s is =
    subst (λ y. plain_lexeme before (record { byte = y; place = c.place }) more ≡ x) (sym same)
    (punctuated before (record { byte = b; place = c.place }) more a l n m s ∙ is)

period_of : (place : Place) (rest : List Character) → begins_with_class class.Nonblank rest ≡ false
    → punctuation place 46 rest ≡ Ok (token k.Period 1)
unfolding punctuation
period_of place rest blank = rw blank refl

left_of : (place : Place) (rest : List Character) → punctuation place 40 rest ≡ Ok (token k.LeftParenthesis 1)
unfolding punctuation
left_of place rest = refl

right_of : (place : Place) (rest : List Character) → punctuation place 41 rest ≡ Ok (token k.RightParenthesis 1)
unfolding punctuation
right_of place rest = refl

colon_of : (place : Place) (rest : List Character) → punctuation place 58 rest ≡ Ok (token k.Colon 1)
unfolding punctuation
colon_of place rest = refl

plus_of : (place : Place) (rest : List Character) → punctuation place 43 rest ≡ Ok (token (k.Operator o.Plus) 1)
unfolding punctuation
plus_of place rest = refl

minus_of : (place : Place) (rest : List Character) → punctuation place 45 rest ≡ Ok (token (k.Operator o.Minus) 1)
unfolding punctuation
minus_of place rest = refl

times_of : (place : Place) (rest : List Character) → punctuation place 42 rest ≡ Ok (token (k.Operator o.Times) 1)
unfolding punctuation
times_of place rest = refl

divide_of : (place : Place) (rest : List Character) → punctuation place 47 rest ≡ Ok (token (k.Operator o.Divide) 1)
unfolding punctuation
divide_of place rest = refl

equal_of : (place : Place) (rest : List Character) → punctuation place 61 rest ≡ Ok (token (k.Operator o.Equal) 1)
unfolding punctuation
equal_of place rest = refl

greater_of : (place : Place) (rest : List Character) (b : Bool) → is_equal_sign rest ≡ b
    → punctuation place 62 rest ≡ Ok (cond b (token (k.Operator o.GreaterOrEqual) 2) (token (k.Operator o.Greater) 1))
unfolding punctuation comparison
greater_of place rest true e = rw e refl
greater_of place rest false e = rw e refl

less_of : (place : Place) (rest : List Character) (b : Bool) → is_equal_sign rest ≡ b
    → punctuation place 60 rest ≡ Ok (cond b (token (k.Operator o.LessOrEqual) 2) (token (k.Operator o.Less) 1))
unfolding punctuation comparison
less_of place rest true e = rw e refl
less_of place rest false e = rw e refl

-- one character that stands for itself
alone_is : (before : Context) (c : Character) (text rest : List Character) (b : ℕ) (kind : Kind)
    → awaits_picture before ≡ false → bytes (c ∷ text) ≡ b ∷ []
    → is_in class.Separator b ≡ false → is_in class.LetterOrDigit b ≡ false
    → begins_number (record { byte = b; place = c.place } ∷ rest) ≡ false → is_in class.Mark b ≡ false
    → sign_here before b rest ≡ None
    → punctuation c.place b rest ≡ Ok (token kind 1)
    → lexeme before c (text ++ rest) ≡ Ok (token kind (suc (length text)))
alone_is before c text rest b kind na is a l n m s e =
    let one = one_char c text b is in
    subst (λ t. lexeme before c (t ++ rest) ≡ Ok (token kind (suc (length t)))) (sym one.1)
    (lexeme_plain before c rest na ∙ at_byte before c b rest (Ok (token kind 1)) one.0 a l n m s e)

equal_follows : (d : Character) (rest : List Character) → d.byte ≡ 61 → is_equal_sign (d ∷ rest) ≡ true
equal_follows d rest e = rw e refl

-- a comparison with an equal sign
both_is : (before : Context) (c : Character) (text rest : List Character) (b : ℕ) (one : Operator)
    → awaits_picture before ≡ false → bytes (c ∷ text) ≡ b ∷ 61 ∷ []
    → is_in class.Separator b ≡ false → is_in class.LetterOrDigit b ≡ false
    → ((more : List Character) → begins_number (record { byte = b; place = c.place } ∷ more) ≡ false)
    → is_in class.Mark b ≡ false
    → ((more : List Character) → sign_here before b more ≡ None)
    → ((more : List Character) → is_equal_sign more ≡ true → punctuation c.place b more ≡ Ok (token (k.Operator one) 2))
    → lexeme before c (text ++ rest) ≡ Ok (token (k.Operator one) (suc (length text)))
both_is before c text rest b one na is a l n m s e =
    let two = two_chars c text b 61 is in
    let d = two.1.0 in
    subst (λ t. lexeme before c (t ++ rest) ≡ Ok (token (k.Operator one) (suc (length t)))) (sym two.1.1)
    (lexeme_plain before c (d ∷ rest) na ∙ at_byte before c b (d ∷ rest) (Ok (token (k.Operator one) 2)) two.0 a l
    (n (d ∷ rest)) m (s (d ∷ rest)) (e (d ∷ rest) (equal_follows d rest two.1.2)))

operator_is : (before : Context) (c : Character) (text rest : List Character) (one : Operator)
    → awaits_picture before ≡ false → bytes (c ∷ text) ≡ operator_text one → has_more before one rest ≡ false
    → lexeme before c (text ++ rest) ≡ Ok (token (k.Operator one) (suc (length text)))
operator_is before c text rest o.Plus na is stop = alone_is before c text rest 43 (k.Operator o.Plus) na is refl refl
    refl refl (no_sign_here before 43 rest stop) (plus_of c.place rest)
operator_is before c text rest o.Minus na is stop = alone_is before c text rest 45 (k.Operator o.Minus) na is refl refl
    refl refl (no_sign_here before 45 rest stop) (minus_of c.place rest)
operator_is before c text rest o.Times na is stop = alone_is before c text rest 42 (k.Operator o.Times) na is refl refl
    refl refl (no_sign before 42 rest refl refl) (times_of c.place rest)
operator_is before c text rest o.Divide na is stop = alone_is before c text rest 47 (k.Operator o.Divide) na is refl
    refl refl refl (no_sign before 47 rest refl refl) (divide_of c.place rest)
operator_is before c text rest o.Equal na is stop = alone_is before c text rest 61 (k.Operator o.Equal) na is refl refl
    refl refl (no_sign before 61 rest refl refl) (equal_of c.place rest)
operator_is before c text rest o.Greater na is stop = alone_is before c text rest 62 (k.Operator o.Greater) na is refl
    refl refl refl (no_sign before 62 rest refl refl) (greater_of c.place rest false stop)
operator_is before c text rest o.Less na is stop = alone_is before c text rest 60 (k.Operator o.Less) na is refl refl
    refl refl (no_sign before 60 rest refl refl) (less_of c.place rest false stop)
operator_is before c text rest o.GreaterOrEqual na is stop =
    both_is before c text rest 62 o.GreaterOrEqual na is refl refl (λ more. refl) refl
    (λ more. no_sign before 62 more refl refl) (λ more e. greater_of c.place more true e)
operator_is before c text rest o.LessOrEqual na is stop =
    both_is before c text rest 60 o.LessOrEqual na is refl refl (λ more. refl) refl
    (λ more. no_sign before 60 more refl refl) (λ more e. less_of c.place more true e)

-- a period, whether a picture is awaited or not
period_is : (before : Context) (c : Character) (rest : List Character) (b : Bool) → awaits_picture before ≡ b
    → c.byte ≡ 46 → begins_with_class class.Nonblank rest ≡ false → lexeme before c rest ≡ Ok (token k.Period 1)
period_is before c rest true awaits same blank =
    let nonblank : is_in class.Nonblank c.byte ≡ true = rw same refl in
    let ending : is_in class.Ending c.byte ≡ true = rw same refl in
    lexeme_picture before c rest awaits nonblank
    ∙ ap Ok (picture_lone before c.byte (c ∷ rest) (lone_size c rest nonblank ending blank) ∙ ap lone_mark same)
period_is before c rest false na same blank =
    lexeme_plain before c rest na ∙ at_byte before c 46 rest (Ok (token k.Period 1)) same refl refl
    (blank_no_digit rest blank) refl (no_sign before 46 rest refl refl) (period_of c.place rest blank)

-- ---- separators

plain_separator : (before : Context) (c : Character) (more : List Character) → is_in class.Separator c.byte ≡ true
    → plain_lexeme before c more ≡ Ok separator
unfolding plain_lexeme
plain_separator before c more e = rw e refl

separator_is : (before : Context) (c : Character) (rest : List Character) → is_in class.Separator c.byte ≡ true
    → (awaits_picture before && (is_in class.Nonblank c.byte && begins_with_class class.Nonblank rest)) ≡ false
    → lexeme before c rest ≡ Ok separator
unfolding lexeme
separator_is before c rest e stop = go (awaits_picture before) refl (is_in class.Nonblank c.byte) refl stop
  where
    not_awaited : (awaits_picture before && is_in class.Nonblank c.byte) ≡ false → lexeme before c rest ≡ Ok separator
    not_awaited f = rw f (plain_separator before c rest e)

    mark : (space comma semicolon period : Bool) → ((space || comma) || semicolon) ≡ true → not space ≡ true
        → ((period || comma) || semicolon) ≡ true
    mark true comma semicolon period e f = cc
    mark false true semicolon true e f = refl
    mark false true semicolon false e f = refl
    mark false false true true e f = refl
    mark false false true false e f = refl
    mark false false false period e f = cc

    no_period : (b : ℕ) → is_in class.Separator b ≡ true → eqb b 46 ≡ false
    no_period b e = by_period (eqb b 46) refl
      where
        by_period : (x : Bool) → eqb b 46 ≡ x → x ≡ false
        by_period true f = let t = subst (λ n. is_in class.Separator n ≡ true) (eqb-true b 46 f) e in cc
        by_period false f = refl

    lone_separator : eqb c.byte 46 ≡ false → lone_mark c.byte ≡ separator
    lone_separator f = rw f refl

    go : (a : Bool) → awaits_picture before ≡ a → (n : Bool) → is_in class.Nonblank c.byte ≡ n
        → (a && (n && begins_with_class class.Nonblank rest)) ≡ false → lexeme before c rest ≡ Ok separator
    go false f n g stop = not_awaited (rw f refl)
    go true f false g stop = not_awaited (rw (f, g) refl)
    go true f true g stop =
        let ending = mark (eqb c.byte 32) (eqb c.byte 44) (eqb c.byte 59) (eqb c.byte 46) e g in
        lexeme_picture before c rest f g ∙ ap Ok (picture_lone before c.byte (c ∷ rest) (lone_size c rest g ending stop)
        ∙ lone_separator (no_period c.byte e))

-- ---- everything at the front

pub fixed : (before : Context) (c : Character) (text rest : List Character) (kind : Option Kind)
    → IsFront before kind (c ∷ text) rest
    → lexeme before c (text ++ rest) ≡ Ok (record { kind = kind; size = suc (length text) })
fixed before c [] rest None is = separator_is before c rest is.1 is.2
fixed before c (t ∷ text) rest None is = let h = is.0 in absurd (omega arith)
fixed before c text rest (Some (k.Word word)) is =
    word_is before c text rest is.0 is.1 ∙ ap (λ x. Ok (token x (suc (length text))))
    (ap (word_or_reserved (bytes_in_upper_case (c ∷ text))) is.2 ∙ ap k.Word (sym is.3))
fixed before c text rest (Some (k.Reserved word)) (inl is) = word_is before c text rest is.0 is.1
    ∙ ap (λ x. Ok (token x (suc (length text)))) (ap (word_or_reserved (bytes_in_upper_case (c ∷ text))) is.2)
fixed before c text rest (Some (k.Reserved word)) (inr is) =
    picture_is before c text rest true (awaits_if before (is_is (bytes (c ∷ text))) is.0) is.1 is.0
    ∙ ap (λ x. Ok (token (k.Reserved x) (suc (length text)))) (sym is.2)
fixed before c text rest (Some (k.Numeric literal)) is =
    numeric_is before c text rest literal.sign literal.whole literal.decimals is.0 is.1
fixed before c text rest (Some (k.Nonnumeric literal)) is = nonnumeric_is before c text rest is.1.0 literal is.0 is.1.1
fixed before c text rest (Some (k.Picture picture)) is = picture_is before c text rest false is.0 is.2 is.1
    ∙ ap (λ x. Ok (token (k.Picture x) (suc (length text)))) (sym is.3)
fixed before c text rest (Some k.Period) is =
    let one = one_char c text 46 is.0 in subst (λ t. lexeme before c (t ++ rest) ≡ Ok (token k.Period (suc (length t))))
    (sym one.1) (period_is before c rest (awaits_picture before) refl one.0 is.1)
fixed before c text rest (Some k.LeftParenthesis) is = alone_is before c text rest 40 k.LeftParenthesis is.0 is.1 refl
    refl refl refl (no_sign before 40 rest refl refl) (left_of c.place rest)
fixed before c text rest (Some k.RightParenthesis) is = alone_is before c text rest 41 k.RightParenthesis is.0 is.1 refl
    refl refl refl (no_sign before 41 rest refl refl) (right_of c.place rest)
fixed before c text rest (Some k.Colon) is = alone_is before c text rest 58 k.Colon is.0 is.1 refl
    refl refl refl (no_sign before 58 rest refl refl) (colon_of c.place rest)
fixed before c text rest (Some (k.Operator one)) is = operator_is before c text rest one is.0 is.1 is.2
