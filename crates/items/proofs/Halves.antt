-- Halves of bytes: two digits a byte.
use Rattle.std.proofs.Common.{◌≡◌, ℕ, zero, suc, ◌+◌, ◌-◌, ◌*◌, ◌/◌, ◌%◌, ◌<◌, ◌≤◌, ◌^◌, ◌⊎◌, inl, inr, Bool, true}
use Rattle.std.proofs.Common.{false, ◌&&◌, List, [], ◌∷◌, ◌++◌, length, take, drop, get_or, set, ℤ, Option, Some, None}
use Rattle.std.proofs.Common.{nat_eq, if◌then◌else◌, refl, ap, sym, ◌∙◌, arith, subst}
use Rattle.std.proofs.lemmas.List.{at_drop_more, drop-set, map-append, length-set, append_assoc, length-take-le}
use Rattle.std.proofs.lemmas.Bool.{and_left, and_right, eq-eqb, ne_eqb, lt-leb}
use Rattle.std.proofs.lemmas.Nat.{pow-add}
use Rattle.std.proofs.Math.Nat.{div-div-eq-div-mul}
use Rattle.std.specs.Char.{is_ascii_digit}
use Rattle.decimal18.specs.Fraction.{signed_integer}
use Rattle.decimal18.specs.Digits.{digits_after, digit_text}
use Rattle.items.specs.Display.{are_digits, integer_of}
use Rattle.items.specs.Packed.{halves, bytes_of_halves, characters_of, digit_halves, sign_half, by_sign_half, of_halves}
use Rattle.items.specs.Packed.{packed_integer, packed_bytes}
use Rattle.items.proofs.Digits.{one_digit, last_same, integer_front, integer_digit, integer_both, next_rest}
use Rattle.items.proofs.Bounds.{hundreds_below}
use Rattle.items.proofs.Ends.{last_is, all_but_last}

-- ---- reading

-- the characters of the halves of bytes
abbrev pub shown : List ℕ → List ℕ
shown bytes = characters_of (halves bytes)

pub no_digit : (d : ℕ) → 9 < d → is_ascii_digit (48 + d) ≡ false
no_digit d h = and_right _ _ (lt-leb (48 + d) 57 (omega arith))

pub digit : (d : ℕ) → d ≤ 9 → is_ascii_digit (48 + d) ≡ true
digit d h = one_digit d (omega arith)

no_pair_front : (b : ℕ) (rest : List ℕ) → (9 < b / 16) ⊎ ((b / 16 ≤ 9) × (9 < b % 16))
    → are_digits (shown (b ∷ rest)) ≡ false
no_pair_front b rest (inl high) = and_left _ _ (no_digit (b / 16) high)
no_pair_front b rest (inr low) = and_right _ _ (and_left _ _ (no_digit (b % 16) low.1))

pub no_pair : (bytes : List ℕ) (i : ℕ) → i < length bytes
    → (9 < get_or bytes i 0 / 16) ⊎ ((get_or bytes i 0 / 16 ≤ 9) × (9 < get_or bytes i 0 % 16))
    → are_digits (shown (drop i bytes)) ≡ false
no_pair bytes i h w =
    at_drop_more (λ rest. are_digits (shown rest)) bytes i 0 h ∙ no_pair_front (get_or bytes i 0) (drop (i + 1) bytes) w

pub none_of : (b : Bool) (n : ℕ) → b ≡ false → None ≡ (if b then Some n else None)
none_of b n e = ap (λ b. if b then Some n else None) (sym e)

pair_digits : (b : ℕ) (rest : List ℕ) → b / 16 ≤ 9 → b % 16 ≤ 9
    → are_digits (shown (b ∷ rest)) ≡ are_digits (shown rest)
pair_digits b rest high low =
    ap (λ t. t && (is_ascii_digit (48 + b % 16) && are_digits (shown rest))) (digit (b / 16) high)
    ∙ ap (λ t. t && are_digits (shown rest)) (digit (b % 16) low)

pub digits_next : (bytes : List ℕ) (i : ℕ) → i < length bytes → get_or bytes i 0 / 16 ≤ 9 → get_or bytes i 0 % 16 ≤ 9
    → are_digits (shown (drop (i + 1) bytes)) ≡ are_digits (shown (drop i bytes))
digits_next bytes i h high low =
    sym (at_drop_more (λ rest. are_digits (shown rest)) bytes i 0 h
    ∙ pair_digits (get_or bytes i 0) (drop (i + 1) bytes) high low)

pub number_next : (bytes : List ℕ) (i number : ℕ) → i < length bytes
    → digits_after (100 * number + (10 * (get_or bytes i 0 / 16) + get_or bytes i 0 % 16)) (shown (drop (i + 1) bytes))
    ≡ digits_after number (shown (drop i bytes))
number_next bytes i number h =
    let b = get_or bytes i 0 in
    let same : 100 * number + (10 * (b / 16) + b % 16) ≡ 10 * (10 * number + (48 + b / 16 - 48)) + (48 + b % 16 - 48) =
    omega arith in
    ap (λ n. digits_after n (shown (drop (i + 1) bytes))) same
    ∙ sym (at_drop_more (λ rest. digits_after number (shown rest)) bytes i 0 h)

hundred : (k : ℕ) → 100 ^ (k + 1) ≡ 100 ^ k * 100
hundred k = pow-add 100 k 1

pub bound_next : (number i pair : ℕ) → number < 100 ^ i → pair ≤ 99 → 100 * number + pair < 100 ^ (i + 1)
bound_next number i pair h k = omega (arith, hundred i)

-- ---- the last byte

halves-append : (xs ys : List ℕ) → halves (xs ++ ys) ≡ halves xs ++ halves ys
halves-append [] ys = refl
halves-append (x ∷ xs) ys = ap (λ r. (x / 16) ∷ (x % 16) ∷ r) (halves-append xs ys)

ends : (signed : Bool) (hs : List ℕ) (half : ℕ)
    → of_halves signed (hs ++ half ∷ []) ≡ by_sign_half signed half (characters_of hs)
ends signed hs half =
    ap (λ h. by_sign_half signed h (characters_of (take (length (hs ++ half ∷ []) - 1) (hs ++ half ∷ []))))
    (last_is hs half)
    ∙ ap (λ t. by_sign_half signed half (characters_of t)) (all_but_last hs half)

split_last : (front : List ℕ) (b : ℕ) → halves (front ++ b ∷ []) ≡ halves front ++ (b / 16) ∷ [] ++ (b % 16) ∷ []
split_last front b = halves-append front (b ∷ []) ∙ sym (append_assoc (halves front) ((b / 16) ∷ []) ((b % 16) ∷ []))

-- the integer of bytes, by those in front and the last one
pub by_last : (signed : Bool) (bytes : List ℕ) → 1 ≤ length bytes
    → packed_integer signed bytes ≡ by_sign_half signed (get_or bytes (length bytes - 1) 0 % 16)
    (shown (take (length bytes - 1) bytes) ++ (48 + get_or bytes (length bytes - 1) 0 / 16) ∷ [])
by_last signed bytes h =
    let front = take (length bytes - 1) bytes in
    let b = get_or bytes (length bytes - 1) 0 in
    ap (λ t. of_halves signed (halves t)) (last_same bytes h)
    ∙ ap (of_halves signed) (split_last front b)
    ∙ ends signed (halves front ++ (b / 16) ∷ []) (b % 16)
    ∙ ap (by_sign_half signed (b % 16)) (map-append (λ h. 48 + h) (halves front) ((b / 16) ∷ []))

same_both : (b : Bool) (x : Option ℤ) → (if b then x else x) ≡ x
same_both true x = refl
same_both false x = refl

neither : (s : Bool) (half : ℕ) (digits : List ℕ) → integer_of false digits ≡ None → integer_of true digits ≡ None
    → by_sign_half s half digits ≡ None
neither s half digits e f =
    let plus = nat_eq half (sign_half s false) in
    let minus = nat_eq half (sign_half s true) in
    ap (λ r. if plus then r else if minus then integer_of true digits else None) e
    ∙ ap (λ r. if plus then None else if minus then r else None) f
    ∙ ap (λ r. if plus then None else r) (same_both minus None)
    ∙ same_both plus None

-- the sign and digits, by what the last byte has
pub no_front : (signed : Bool) (bytes : List ℕ) → 1 ≤ length bytes
    → are_digits (shown (take (length bytes - 1) bytes)) ≡ false → packed_integer signed bytes ≡ None
no_front signed bytes h e =
    let front = shown (take (length bytes - 1) bytes) in
    let d = 48 + get_or bytes (length bytes - 1) 0 / 16 in
    by_last signed bytes h
    ∙ neither signed _ (front ++ d ∷ []) (integer_front false front d e) (integer_front true front d e)

pub no_last : (signed : Bool) (bytes : List ℕ) → 1 ≤ length bytes → 9 < get_or bytes (length bytes - 1) 0 / 16
    → packed_integer signed bytes ≡ None
no_last signed bytes h above =
    let front = shown (take (length bytes - 1) bytes) in
    let d = 48 + get_or bytes (length bytes - 1) 0 / 16 in
    let e = no_digit (get_or bytes (length bytes - 1) 0 / 16) above in
    by_last signed bytes h
    ∙ neither signed _ (front ++ d ∷ []) (integer_digit false front d e) (integer_digit true front d e)

both : (negative : Bool) (front : List ℕ) (d : ℕ) → are_digits front ≡ true → d ≤ 9
    → integer_of negative (front ++ (48 + d) ∷ []) ≡ Some (signed_integer negative (10 * digits_after 0 front + d))
both negative front d e h =
    let same : 48 + d - 48 ≡ d = omega arith in
    integer_both negative front (48 + d) e (digit d h)
    ∙ ap (λ n. Some (signed_integer negative (10 * digits_after 0 front + n))) same

pub of_sign : (s negative : Bool) (half : ℕ) (digits : List ℕ) → half ≡ sign_half s negative
    → (negative ≡ true → (half ≡ sign_half s false → ⊥)) → by_sign_half s half digits ≡ integer_of negative digits
of_sign s false half digits e other = ap (λ t. if t then integer_of false digits else if nat_eq half (sign_half s true)
    then integer_of true digits else None) (eq-eqb half (sign_half s false) e)
of_sign s true half digits e other =
    ap (λ t. if t then integer_of false digits else if nat_eq half (sign_half s true) then integer_of true digits
    else None) (ne_eqb half (sign_half s false) (other refl))
    ∙ ap (λ t. if t then integer_of true digits else None) (eq-eqb half (sign_half s true) e)

pub no_sign : (s : Bool) (half : ℕ) (digits : List ℕ) → (half ≡ sign_half s false → ⊥) → (half ≡ sign_half s true → ⊥)
    → by_sign_half s half digits ≡ None
no_sign s half digits e f =
    ap (λ t. if t then integer_of false digits else if nat_eq half (sign_half s true) then integer_of true digits
    else None) (ne_eqb half (sign_half s false) e)
    ∙ ap (λ t. if t then integer_of true digits else None) (ne_eqb half (sign_half s true) f)

pub both_last : (s negative : Bool) (bytes : List ℕ) → 1 ≤ length bytes
    → are_digits (shown (take (length bytes - 1) bytes)) ≡ true
    → get_or bytes (length bytes - 1) 0 / 16 ≤ 9
    → get_or bytes (length bytes - 1) 0 % 16 ≡ sign_half s negative
    → (negative ≡ true → (get_or bytes (length bytes - 1) 0 % 16 ≡ sign_half s false → ⊥))
    → packed_integer s bytes ≡ Some (signed_integer negative
    (10 * digits_after 0 (shown (take (length bytes - 1) bytes)) + get_or bytes (length bytes - 1) 0 / 16))
both_last s negative bytes h front last sign other =
    by_last s bytes h
    ∙ of_sign s negative (get_or bytes (length bytes - 1) 0 % 16)
    (shown (take (length bytes - 1) bytes) ++ (48 + get_or bytes (length bytes - 1) 0 / 16) ∷ []) sign other
    ∙ both negative (shown (take (length bytes - 1) bytes)) (get_or bytes (length bytes - 1) 0 / 16) front last

pub no_sign_last : (s : Bool) (bytes : List ℕ) → 1 ≤ length bytes
    → (get_or bytes (length bytes - 1) 0 % 16 ≡ sign_half s false → ⊥)
    → (get_or bytes (length bytes - 1) 0 % 16 ≡ sign_half s true → ⊥) → packed_integer s bytes ≡ None
no_sign_last s bytes h e f =
    by_last s bytes h
    ∙ no_sign s (get_or bytes (length bytes - 1) 0 % 16)
    (shown (take (length bytes - 1) bytes) ++ (48 + get_or bytes (length bytes - 1) 0 / 16) ∷ []) e f

pub front_small : (bytes : List ℕ) (n : ℕ) → 1 ≤ length bytes → length bytes ≤ 10
    → n < 100 ^ length (take (length bytes - 1) bytes) → n < 100 ^ 9
front_small bytes n some most small =
    let size : length (take (length bytes - 1) bytes) ≡ length bytes - 1 =
    length-take-le (length bytes - 1) bytes (omega arith) in
    let few : length (take (length bytes - 1) bytes) ≤ 9 = omega (arith, size) in
    hundreds_below n (length (take (length bytes - 1) bytes)) 9 small few

-- ---- writing

ten : (k : ℕ) → 10 ^ (k + 1) ≡ 10 ^ k * 10
ten k = pow-add 10 k 1

pair_front : (k m rest : ℕ) → rest ≡ m / 10 ^ (2 * k)
    → bytes_of_halves (digit_halves (2 * (k + 1)) m)
    ≡ (16 * (rest % 100 / 10) + rest % 100 % 10) ∷ bytes_of_halves (digit_halves (2 * k) m)
pair_front k m rest e =
    let two : 2 * (k + 1) ≡ suc (suc (2 * k)) = omega arith in
    let one : suc (2 * k) ≡ 2 * k + 1 = omega arith in
    let high : m / 10 ^ suc (2 * k) ≡ rest / 10 = ap (λ j. m / 10 ^ j) one ∙ sym (next_rest m rest (2 * k) e) in
    let value : 16 * (48 + rest / 10 % 10 - 48) + (48 + rest % 10 - 48) ≡ 16 * (rest % 100 / 10) + rest % 100 % 10 =
    omega arith in
    ap (λ n. bytes_of_halves (digit_halves n m)) two
    ∙ ap (λ h. (16 * (48 + h % 10 - 48) + (48 + m / 10 ^ (2 * k) % 10 - 48)) ∷ bytes_of_halves (digit_halves (2 * k) m))
    high
    ∙ ap (λ l. (16 * (48 + rest / 10 % 10 - 48) + (48 + l % 10 - 48)) ∷ bytes_of_halves (digit_halves (2 * k) m))
    (sym e)
    ∙ ap (λ b. b ∷ bytes_of_halves (digit_halves (2 * k) m)) value

next_pair_rest : (m rest k : ℕ) → rest ≡ m / 10 ^ (2 * k) → rest / 100 ≡ m / 10 ^ (2 * (k + 1))
next_pair_rest m rest k e =
    let once : rest / 10 ≡ m / 10 ^ (2 * k + 1) = next_rest m rest (2 * k) e in
    let twice : rest / 10 / 10 ≡ m / 10 ^ (2 * k + 1 + 1) = next_rest m (rest / 10) (2 * k + 1) once in
    let same : rest / 100 ≡ rest / 10 / 10 = omega arith in
    let two : 2 * k + 1 + 1 ≡ 2 * (k + 1) = omega arith in
    same ∙ twice ∙ ap (λ j. m / 10 ^ j) two

-- one turn: the pair to the left of those that are written
pub pair_step : (bytes : List ℕ) (at m rest : ℕ) → 0 < at → at ≤ length bytes
    → rest ≡ m / 10 ^ (2 * (length bytes - at))
    → drop at bytes ≡ bytes_of_halves (digit_halves (2 * (length bytes - at)) m)
    → let new = set bytes (at - 1) (16 * (rest % 100 / 10) + rest % 100 % 10) in
    (at - 1 ≤ length new) × (rest / 100 ≡ m / 10 ^ (2 * (length new - (at - 1))))
    × (drop (at - 1) new ≡ bytes_of_halves (digit_halves (2 * (length new - (at - 1))) m))
pair_step bytes at m rest some h e written =
    let value = 16 * (rest % 100 / 10) + rest % 100 % 10 in
    let same = length-set bytes (at - 1) value in
    let one : at - 1 + 1 ≡ at = omega arith in
    let size : length bytes - at + 1 ≡ length bytes - (at - 1) = omega arith in
    let P : ℕ → Type 0 = λ n. (at - 1 ≤ n) × (rest / 100 ≡ m / 10 ^ (2 * (n - (at - 1))))
    × (drop (at - 1) (set bytes (at - 1) value) ≡ bytes_of_halves (digit_halves (2 * (n - (at - 1))) m)) in
    let left : at - 1 ≤ length bytes = omega arith in
    let inside : at - 1 < length bytes = omega arith in
    subst P (sym same) (
      left,
      next_pair_rest m rest (length bytes - at) e ∙ ap (λ k. m / 10 ^ (2 * k)) size,
      drop-set bytes (at - 1) value inside
          ∙ ap (λ j. value ∷ drop j bytes) one
          ∙ ap (λ t. value ∷ t) written
          ∙ sym (pair_front (length bytes - at) m rest e)
          ∙ ap (λ k. bytes_of_halves (digit_halves (2 * k) m)) size,
    )

-- the last digit with the sign after it
pub last_pair : (k m s : ℕ) → bytes_of_halves (digit_halves (suc (2 * k)) m ++ s ∷ []) ≡ bytes_of_halves
    (digit_halves (2 * k) (m / 10)) ++ (16 * (m % 10) + s) ∷ []
last_pair zero m s =
    let value : 16 * (48 + m / 1 % 10 - 48) + s ≡ 16 * (m % 10) + s = omega arith in
    ap (λ b. b ∷ []) value
last_pair (suc k) m s =
    let two : 2 * suc k ≡ suc (suc (2 * k)) = omega arith in
    let digit : (j : ℕ) → m / 10 ^ suc j ≡ m / 10 / 10 ^ j =
    λ j. ap (λ p. m / p) (ap (λ i. 10 ^ i) (let e : suc j ≡ 1 + j = omega arith in e) ∙ pow-add 10 1 j)
    ∙ sym (div-div-eq-div-mul m 10 (10 ^ j)) in
    ap (λ n. bytes_of_halves (digit_halves (suc n) m ++ s ∷ [])) two
    ∙ ap (λ h. (16 * (48 + h % 10 - 48) + (48 + m / 10 ^ suc (2 * k) % 10 - 48))
    ∷ bytes_of_halves (digit_halves (suc (2 * k)) m ++ s ∷ [])) (digit (suc (2 * k)))
    ∙ ap (λ l. (16 * (48 + m / 10 / 10 ^ suc (2 * k) % 10 - 48) + (48 + l % 10 - 48))
    ∷ bytes_of_halves (digit_halves (suc (2 * k)) m ++ s ∷ [])) (digit (2 * k))
    ∙ ap (λ t. (16 * (48 + m / 10 / 10 ^ suc (2 * k) % 10 - 48) + (48 + m / 10 / 10 ^ (2 * k) % 10 - 48)) ∷ t)
    (last_pair k m s)
    ∙ ap (λ n. bytes_of_halves (digit_halves n (m / 10)) ++ (16 * (m % 10) + s) ∷ []) (sym two)

pub put_last : (size m s : ℕ) (front last : List ℕ) → 1 ≤ size
    → front ≡ bytes_of_halves (digit_halves (2 * (size - 1)) (m / 10)) → last ≡ (16 * (m % 10) + s) ∷ []
    → front ++ last ≡ bytes_of_halves (digit_halves (2 * size - 1) m ++ s ∷ [])
put_last size m s front last some e f =
    let odd : suc (2 * (size - 1)) ≡ 2 * size - 1 = omega arith in
    ap (λ t. t ++ last) e ∙ ap (λ t. bytes_of_halves (digit_halves (2 * (size - 1)) (m / 10)) ++ t) f
    ∙ sym (last_pair (size - 1) m s) ∙ ap (λ n. bytes_of_halves (digit_halves n m ++ s ∷ [])) odd

-- ---- the bytes of a number read

half_of_joined : (a b : ℕ) → b < 16 → (16 * a + b) / 16 ≡ a
half_of_joined a b h = omega arith

rest_of_joined : (a b : ℕ) → b < 16 → (16 * a + b) % 16 ≡ b
rest_of_joined a b h = omega arith

halves_joined : (k m s : ℕ) → s < 16
    → halves (bytes_of_halves (digit_halves (suc (2 * k)) m ++ s ∷ [])) ≡ digit_halves (suc (2 * k)) m ++ s ∷ []
halves_joined zero m s h =
    let a = 48 + m / 1 % 10 - 48 in
    ap (λ x. x ∷ (16 * a + s) % 16 ∷ []) (half_of_joined a s h) ∙ ap (λ x. a ∷ x ∷ []) (rest_of_joined a s h)
halves_joined (suc k) m s h =
    let two : 2 * suc k ≡ suc (suc (2 * k)) = omega arith in
    let a = 48 + m / 10 ^ suc (suc (2 * k)) % 10 - 48 in
    let b = 48 + m / 10 ^ suc (2 * k) % 10 - 48 in
    let low : b < 16 = omega arith in
    let rest = digit_halves (suc (2 * k)) m ++ s ∷ [] in
    ap (λ n. halves (bytes_of_halves (digit_halves (suc n) m ++ s ∷ []))) two
    ∙ ap (λ x. x ∷ (16 * a + b) % 16 ∷ halves (bytes_of_halves rest)) (half_of_joined a b low)
    ∙ ap (λ x. a ∷ x ∷ halves (bytes_of_halves rest)) (rest_of_joined a b low)
    ∙ ap (λ t. a ∷ b ∷ t) (halves_joined k m s h)
    ∙ ap (λ n. digit_halves (suc n) m ++ s ∷ []) (sym two)

characters_back : (n m : ℕ) → characters_of (digit_halves n m) ≡ digit_text n m
characters_back zero m = refl
characters_back (suc n) m =
    let same : 48 + (48 + m / 10 ^ n % 10 - 48) ≡ 48 + m / 10 ^ n % 10 = omega arith in
    ap (λ c. c ∷ characters_of (digit_halves n m)) same ∙ ap (λ t. (48 + m / 10 ^ n % 10) ∷ t) (characters_back n m)

sign_small : (s negative : Bool) → sign_half s negative < 16
sign_small true true = omega arith
sign_small true false = omega arith
sign_small false negative = omega arith

pub packed_back : (s negative : Bool) (k m : ℕ) → packed_integer s (packed_bytes s (k + 1) negative m) ≡ by_sign_half s
    (sign_half s negative) (digit_text (suc (2 * k)) m)
packed_back s negative k m =
    let half = sign_half s negative in
    let odd : 2 * (k + 1) - 1 ≡ suc (2 * k) = omega arith in
    ap (λ n. of_halves s (halves (bytes_of_halves (digit_halves n m ++ half ∷ [])))) odd
    ∙ ap (of_halves s) (halves_joined k m half (sign_small s negative))
    ∙ ends s (digit_halves (suc (2 * k)) m) half
    ∙ ap (by_sign_half s half) (characters_back (suc (2 * k)) m)

-- ---- the table of pairs

abbrev pub packed_from : ℕ → ℕ → List ℕ
packed_from zero k = []
packed_from (suc n) k = (16 * (k / 10) + k % 10) ∷ packed_from n (suc k)

packed_at : (n k i d : ℕ) → i < n → get_or (packed_from n k) i d ≡ 16 * ((k + i) / 10) + (k + i) % 10
packed_at zero k i d h = absurd (omega arith)
packed_at (suc n) k zero d h = ap (λ j. 16 * (j / 10) + j % 10) (let e : k ≡ k + 0 = omega arith in e)
packed_at (suc n) k (suc i) d h =
    let here : i < n = omega arith in
    packed_at n (suc k) i d here ∙ ap (λ j. 16 * (j / 10) + j % 10) (let e : suc k + i ≡ k + suc i = omega arith in e)

pub packed_of_table : (i d : ℕ) → i < 100 → get_or (packed_from 100 0) i d ≡ 16 * (i / 10) + i % 10
packed_of_table i d h = packed_at 100 0 i d h ∙ ap (λ j. 16 * (j / 10) + j % 10) (let e : 0 + i ≡ i = omega arith in e)

-- The same turn, where the byte is found otherwise.
pub pair_put : (bytes : List ℕ) (at m rest value : ℕ) → 0 < at → at ≤ length bytes
    → rest ≡ m / 10 ^ (2 * (length bytes - at))
    → drop at bytes ≡ bytes_of_halves (digit_halves (2 * (length bytes - at)) m)
    → value ≡ 16 * (rest % 100 / 10) + rest % 100 % 10
    → let new = set bytes (at - 1) value in
    (at - 1 ≤ length new) × (rest / 100 ≡ m / 10 ^ (2 * (length new - (at - 1))))
    × (drop (at - 1) new ≡ bytes_of_halves (digit_halves (2 * (length new - (at - 1))) m))
pair_put bytes at m rest value some h e written is =
    let P : ℕ → Type 0 = λ v. (at - 1 ≤ length (set bytes (at - 1) v))
    × (rest / 100 ≡ m / 10 ^ (2 * (length (set bytes (at - 1) v) - (at - 1))))
    × (drop (at - 1) (set bytes (at - 1) v)
    ≡ bytes_of_halves (digit_halves (2 * (length (set bytes (at - 1) v) - (at - 1))) m)) in
    subst P (sym is) (pair_step bytes at m rest some h e written)
