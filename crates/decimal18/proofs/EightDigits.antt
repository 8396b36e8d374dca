-- Eight digits in one number, a byte each, the first digit in the lowest byte.
use Rattle.std.proofs.Common.{◌≡◌, ℕ, zero, suc, ◌+◌, ◌-◌, ◌*◌, ◌/◌, ◌%◌, ◌^◌, ◌<◌, ◌≤◌, Bool, true, false, List, []}
use Rattle.std.proofs.Common.{◌∷◌, length, get_or, map, nat_le, Some, None, if◌then◌else◌, refl, ap, sym, ◌∙◌, subst}
use Rattle.std.proofs.Common.{arith}
use Rattle.std.specs.Int.RustNames.{bit_and}
use Rattle.std.specs.Char.{is_ascii_digit}
use Rattle.std.specs.List.{list_all}
use Rattle.std.proofs.lemmas.Bool.{and_parts, and_from, le-leb, leb-true}
use Rattle.std.proofs.lemmas.Nat.{and_block, and_mask, and_le_r, mod-mul-add, div-mul-add}
use Rattle.std.proofs.lemmas.Nat.Bits.{and_high}
use Rattle.byteorder.specs.Endian.{little_from}
use Rattle.byteorder.specs.Numbers.{little_from-cons}
use Rattle.decimal18.specs.Digits.{digits_after, number_after}

-- Numbers below 2^k in places of k bits, the first in the lowest place.
abbrev pub lanes : ℕ → List ℕ → ℕ
lanes k [] = 0
lanes k (x ∷ xs) = lanes k xs * 2 ^ k + x

-- The same number in so many places.
abbrev pub each : ℕ → ℕ → ℕ → ℕ
each k zero m = 0
each k (suc n) m = each k n m * 2 ^ k + m

-- Each is below a bound.
abbrev pub AllBelow : ℕ → List ℕ → Type 0
AllBelow p [] = Unit {0}
AllBelow p (x ∷ xs) = (x < p) × AllBelow p xs

-- The masked numbers, place by place.
pub and_lanes : (k m : ℕ) (xs : List ℕ) → m < 2 ^ k → AllBelow (2 ^ k) xs
    → bit_and (lanes k xs) (each k (length xs) m) ≡ lanes k (map (λ x. bit_and x m) xs)
and_lanes k m [] h below = refl
and_lanes k m (x ∷ xs) h below =
    and_block k (lanes k xs) (each k (length xs) m) x m below.0 h
    ∙ ap (λ t. t * 2 ^ k + bit_and x m) (and_lanes k m xs h below.1)

-- What stands in the lowest place, and in the others.
pub low_lane : (k a b x y : ℕ) → x < 2 ^ k → y < 2 ^ k → a * 2 ^ k + x ≡ b * 2 ^ k + y → x ≡ y
low_lane k a b x y h i e = sym (mod-mul-add a (2 ^ k) x h) ∙ ap (λ t. t % 2 ^ k) e ∙ mod-mul-add b (2 ^ k) y i

pub high_lanes : (k a b x y : ℕ) → x < 2 ^ k → y < 2 ^ k → a * 2 ^ k + x ≡ b * 2 ^ k + y → a ≡ b
high_lanes k a b x y h i e = sym (div-mul-add a (2 ^ k) x h) ∙ ap (λ t. t / 2 ^ k) e ∙ div-mul-add b (2 ^ k) y i

-- ---- the test of one byte

digit_bounds : (c : ℕ) → is_ascii_digit c ≡ true → (48 ≤ c) × (c ≤ 57)
digit_bounds c h = let parts = and_parts (nat_le 48 c) (nat_le c 57) h in (leb-true 48 c parts.0, leb-true c 57 parts.1)

bounds_digit : (c : ℕ) → 48 ≤ c → c ≤ 57 → is_ascii_digit c ≡ true
bounds_digit c low high = and_from (nat_le 48 c) (nat_le c 57) (le-leb 48 c low) (le-leb c 57 high)

high_half : (c : ℕ) → bit_and c 240 ≡ c / 16 % 16 * 16
high_half c = and_high c 4 4

zero_high : (c : ℕ) → 48 ≤ c → c ≤ 57 → bit_and c 240 ≡ 48
zero_high c low high = high_half c ∙ (let e : c / 16 % 16 * 16 ≡ 48 = omega arith in e)

high_zero : (c : ℕ) → c < 256 → bit_and c 240 ≡ 48 → (48 ≤ c) × (c ≤ 63)
high_zero c fits e =
    let f : c / 16 % 16 * 16 ≡ 48 = sym (high_half c) ∙ e in
    (omega arith, omega arith)

none_high : (d : ℕ) → d ≤ 15 → bit_and d 240 ≡ 0
none_high d h = high_half d ∙ (let e : d / 16 % 16 * 16 ≡ 0 = omega arith in e)

high_none : (d : ℕ) → d < 256 → bit_and d 240 ≡ 0 → d ≤ 15
high_none d fits e =
    let f : d / 16 % 16 * 16 ≡ 0 = sym (high_half d) ∙ e in
    omega arith

mask_below : (c : ℕ) → bit_and c 240 < 256
mask_below c = let h = and_le_r c 240 in omega (arith, h)

-- ---- digits pass both tests

-- The digits' values, and those six more.
abbrev pub values_of : List ℕ → List ℕ
values_of cs = map (λ c. c - 48) cs

abbrev pub more_of : List ℕ → List ℕ
more_of cs = map (λ c. c - 48 + 6) cs

first_passes : (cs : List ℕ) → list_all is_ascii_digit cs ≡ true
    → lanes 8 (map (λ c. bit_and c 240) cs) ≡ each 8 (length cs) 48
first_passes [] h = refl
first_passes (c ∷ cs) h =
    let parts = and_parts (is_ascii_digit c) (list_all is_ascii_digit cs) h in
    let bounds = digit_bounds c parts.0 in
    ap (λ t. t * 2 ^ 8 + bit_and c 240) (first_passes cs parts.1)
    ∙ ap (λ t. each 8 (length cs) 48 * 2 ^ 8 + t) (zero_high c bounds.0 bounds.1)

pub digits_pass_first : (cs : List ℕ) → AllBelow (2 ^ 8) cs → list_all is_ascii_digit cs ≡ true
    → bit_and (lanes 8 cs) (each 8 (length cs) 240) ≡ each 8 (length cs) 48
digits_pass_first cs fits h = and_lanes 8 240 cs (omega arith) fits ∙ first_passes cs h

-- All are 48 to 63.
abbrev pub AllHigh : List ℕ → Type 0
AllHigh [] = Unit {0}
AllHigh (c ∷ cs) = (48 ≤ c) × (c ≤ 63) × AllHigh cs

digits_high : (cs : List ℕ) → list_all is_ascii_digit cs ≡ true → AllHigh cs
digits_high [] h = tt
digits_high (c ∷ cs) h =
    let parts = and_parts (is_ascii_digit c) (list_all is_ascii_digit cs) h in
    let bounds = digit_bounds c parts.0 in
    (bounds.0, omega arith, digits_high cs parts.1)

-- What passes the first test is 48 to 63.
first_kept : (cs : List ℕ) → AllBelow (2 ^ 8) cs → lanes 8 (map (λ c. bit_and c 240) cs) ≡ each 8 (length cs) 48
    → AllHigh cs
first_kept [] fits e = tt
first_kept (c ∷ cs) fits e =
    let here = low_lane 8 (lanes 8 (map (λ c. bit_and c 240) cs)) (each 8 (length cs) 48) (bit_and c 240) 48
    (mask_below c) (omega arith) e in
    let rest = high_lanes 8 (lanes 8 (map (λ c. bit_and c 240) cs)) (each 8 (length cs) 48) (bit_and c 240) 48
    (mask_below c) (omega arith) e in
    let bounds = high_zero c fits.0 here in
    (bounds.0, bounds.1, first_kept cs fits.1 rest)

pub passed_first : (cs : List ℕ) → AllBelow (2 ^ 8) cs
    → bit_and (lanes 8 cs) (each 8 (length cs) 240) ≡ each 8 (length cs) 48 → AllHigh cs
passed_first cs fits e = first_kept cs fits (sym (and_lanes 8 240 cs (omega arith) fits) ∙ e)

-- Taking `0` from each byte, and giving it six.
pub zeros_taken : (cs : List ℕ) → AllHigh cs → lanes 8 cs ≡ lanes 8 (values_of cs) + each 8 (length cs) 48
zeros_taken [] h = refl
zeros_taken (c ∷ cs) h = let rest = zeros_taken cs h.2 in let low : 48 ≤ c = h.0 in omega (arith, rest)

pub six_more : (cs : List ℕ) → lanes 8 (more_of cs) ≡ lanes 8 (values_of cs) + each 8 (length cs) 6
six_more [] = refl
six_more (c ∷ cs) = let rest = six_more cs in omega (arith, rest)

more_fits : (cs : List ℕ) → AllHigh cs → AllBelow (2 ^ 8) (more_of cs)
more_fits [] h = tt
more_fits (c ∷ cs) h = let high : c ≤ 63 = h.1 in (omega arith, more_fits cs h.2)

length_more : (cs : List ℕ) → length (more_of cs) ≡ length cs
length_more [] = refl
length_more (c ∷ cs) = ap suc (length_more cs)

second_passes : (cs : List ℕ) → list_all is_ascii_digit cs ≡ true → lanes 8 (map (λ c. bit_and c 240) (more_of cs)) ≡ 0
second_passes [] h = refl
second_passes (c ∷ cs) h =
    let parts = and_parts (is_ascii_digit c) (list_all is_ascii_digit cs) h in
    let bounds = digit_bounds c parts.0 in
    let small : c - 48 + 6 ≤ 15 = omega (arith, bounds.1) in
    let rest = second_passes cs parts.1 in
    let here = none_high (c - 48 + 6) small in
    omega (arith, rest, here)

pub digits_pass_second : (cs : List ℕ) → list_all is_ascii_digit cs ≡ true
    → bit_and (lanes 8 (more_of cs)) (each 8 (length cs) 240) ≡ 0
digits_pass_second cs h =
    ap (λ n. bit_and (lanes 8 (more_of cs)) (each 8 n 240)) (sym (length_more cs))
    ∙ and_lanes 8 240 (more_of cs) (omega arith) (more_fits cs (digits_high cs h)) ∙ second_passes cs h

second_kept : (cs : List ℕ) → AllHigh cs → lanes 8 (map (λ c. bit_and c 240) (more_of cs)) ≡ 0
    → list_all is_ascii_digit cs ≡ true
second_kept [] high e = refl
second_kept (c ∷ cs) high e =
    let low : 48 ≤ c = high.0 in
    let most : c ≤ 63 = high.1 in
    let fits : c - 48 + 6 < 256 = omega arith in
    let here : bit_and (c - 48 + 6) 240 ≡ 0 = omega (arith, e) in
    let rest : lanes 8 (map (λ c. bit_and c 240) (more_of cs)) ≡ 0 = omega (arith, e) in
    let small : c - 48 + 6 ≤ 15 = high_none (c - 48 + 6) fits here in
    and_from (is_ascii_digit c) (list_all is_ascii_digit cs) (bounds_digit c low (omega (arith, small)))
    (second_kept cs high.2 rest)

pub passed_second : (cs : List ℕ) → AllHigh cs → bit_and (lanes 8 (more_of cs)) (each 8 (length cs) 240) ≡ 0
    → list_all is_ascii_digit cs ≡ true
passed_second cs high e =
    second_kept cs high
    (sym (and_lanes 8 240 (more_of cs) (omega arith) (more_fits cs high))
    ∙ ap (λ n. bit_and (lanes 8 (more_of cs)) (each 8 n 240)) (length_more cs) ∙ e)

-- ---- the number

-- Digits as values are at most 9 each.
pub values_small : (cs : List ℕ) → list_all is_ascii_digit cs ≡ true → lanes 8 (values_of cs) ≤ each 8 (length cs) 9
values_small [] h = omega arith
values_small (c ∷ cs) h =
    let parts = and_parts (is_ascii_digit c) (list_all is_ascii_digit cs) h in
    let bounds = digit_bounds c parts.0 in
    let rest = values_small cs parts.1 in
    omega (arith, rest, bounds.1)

-- What is read from bytes.
pub word_of : (cs : List ℕ) → little_from 0 (length cs) cs ≡ lanes 8 cs
word_of [] = refl
word_of (c ∷ cs) =
    ap (λ t. c + 256 * t) (little_from-cons 0 (length cs) c cs ∙ word_of cs)
    ∙ (let e : c + 256 * lanes 8 cs ≡ lanes 8 cs * 2 ^ 8 + c = omega arith in e)

pub below_from : (p : ℕ) (cs : List ℕ) → ((i : ℕ) → get_or cs i 0 < p) → AllBelow p cs
below_from p [] h = tt
below_from p (c ∷ cs) h = (h 0, below_from p cs (λ i. h (suc i)))

-- ---- the steps from digits to their number

one_mask : (k e f : ℕ) → e < 2 ^ k → bit_and (f * 2 ^ k + e) (2 ^ k - 1) ≡ e
one_mask k e f h = and_mask (f * 2 ^ k + e) k ∙ mod-mul-add f (2 ^ k) e h

abbrev pub pairs_in : ℕ → ℕ
pairs_in d = bit_and (10 * d + d / 256) 71777214294589695

abbrev pub fours_in : ℕ → ℕ
fours_in p = bit_and (100 * p + p / 65536) 281470681808895

abbrev pub whole_in : ℕ → ℕ
whole_in f = (10000 * f + f / 4294967296) % 4294967296

pairs_found : (d a b c e f g h i : ℕ) → a ≤ 9 → b ≤ 9 → c ≤ 9 → e ≤ 9 → f ≤ 9 → g ≤ 9 → h ≤ 9 → i ≤ 9
    → d ≡ lanes 8 (a ∷ b ∷ c ∷ e ∷ f ∷ g ∷ h ∷ i ∷ [])
    → pairs_in d ≡ lanes 16 ((10 * a + b) ∷ (10 * c + e) ∷ (10 * f + g) ∷ (10 * h + i) ∷ [])
pairs_found d a b c e f g h i sa sb sc se sf sg sh si is =
    let first : a < 2 ^ 8 = omega arith in
    let shifted : d / 256 ≡ lanes 8 (b ∷ c ∷ e ∷ f ∷ g ∷ h ∷ i ∷ []) =
    ap (λ t. t / 256) is ∙ div-mul-add (lanes 8 (b ∷ c ∷ e ∷ f ∷ g ∷ h ∷ i ∷ [])) (2 ^ 8) a first in
    let one = (10 * b + c) * 2 ^ 8 + (10 * a + b) in
    let two = (10 * e + f) * 2 ^ 8 + (10 * c + e) in
    let three = (10 * g + h) * 2 ^ 8 + (10 * f + g) in
    let four = 10 * i * 2 ^ 8 + (10 * h + i) in
    let all : 10 * d + d / 256 ≡ lanes 16 (one ∷ two ∷ three ∷ four ∷ []) = omega (arith, is, shifted) in
    ap (λ t. bit_and t 71777214294589695) all
    ∙ and_lanes 16 255 (one ∷ two ∷ three ∷ four ∷ []) (omega arith)
    (omega arith, (omega arith, (omega arith, (omega arith, tt))))
    ∙ ap (λ x. lanes 16 (x ∷ bit_and two 255 ∷ bit_and three 255 ∷ bit_and four 255 ∷ []))
    (one_mask 8 (10 * a + b) (10 * b + c) (omega arith))
    ∙ ap (λ x. lanes 16 ((10 * a + b) ∷ x ∷ bit_and three 255 ∷ bit_and four 255 ∷ []))
    (one_mask 8 (10 * c + e) (10 * e + f) (omega arith))
    ∙ ap (λ x. lanes 16 ((10 * a + b) ∷ (10 * c + e) ∷ x ∷ bit_and four 255 ∷ []))
    (one_mask 8 (10 * f + g) (10 * g + h) (omega arith))
    ∙ ap (λ x. lanes 16 ((10 * a + b) ∷ (10 * c + e) ∷ (10 * f + g) ∷ x ∷ []))
    (one_mask 8 (10 * h + i) (10 * i) (omega arith))

fours_found : (p a b c d : ℕ) → a ≤ 99 → b ≤ 99 → c ≤ 99 → d ≤ 99 → p ≡ lanes 16 (a ∷ b ∷ c ∷ d ∷ [])
    → fours_in p ≡ lanes 32 ((100 * a + b) ∷ (100 * c + d) ∷ [])
fours_found p a b c d sa sb sc sd is =
    let first : a < 2 ^ 16 = omega arith in
    let shifted : p / 65536 ≡ lanes 16 (b ∷ c ∷ d ∷ []) =
    ap (λ t. t / 65536) is ∙ div-mul-add (lanes 16 (b ∷ c ∷ d ∷ [])) (2 ^ 16) a first in
    let one = (100 * b + c) * 2 ^ 16 + (100 * a + b) in
    let two = 100 * d * 2 ^ 16 + (100 * c + d) in
    let all : 100 * p + p / 65536 ≡ lanes 32 (one ∷ two ∷ []) = omega (arith, is, shifted) in
    ap (λ t. bit_and t 281470681808895) all
    ∙ and_lanes 32 65535 (one ∷ two ∷ []) (omega arith) (omega arith, (omega arith, tt))
    ∙ ap (λ x. lanes 32 (x ∷ bit_and two 65535 ∷ [])) (one_mask 16 (100 * a + b) (100 * b + c) (omega arith))
    ∙ ap (λ x. lanes 32 ((100 * a + b) ∷ x ∷ [])) (one_mask 16 (100 * c + d) (100 * d) (omega arith))

whole_found : (f a b : ℕ) → a ≤ 9999 → b ≤ 9999 → f ≡ lanes 32 (a ∷ b ∷ []) → whole_in f ≡ 10000 * a + b
whole_found f a b sa sb is =
    let first : a < 2 ^ 32 = omega arith in
    let alone : 0 * 2 ^ 32 + b ≡ b = omega arith in
    let shifted : f / 4294967296 ≡ b =
    ap (λ t. t / 4294967296) is ∙ div-mul-add (0 * 2 ^ 32 + b) (2 ^ 32) a first ∙ alone in
    let small : 10000 * a + b < 2 ^ 32 = omega arith in
    let all : 10000 * f + f / 4294967296 ≡ 10000 * b * 2 ^ 32 + (10000 * a + b) = omega (arith, is, shifted) in
    ap (λ t. t % 4294967296) all ∙ mod-mul-add (10000 * b) (2 ^ 32) (10000 * a + b) small

joined_digits : (a b c e f g h i : ℕ)
    → 10000 * (100 * (10 * a + b) + (10 * c + e)) + (100 * (10 * f + g) + (10 * h + i))
    ≡ 10 * (10 * (10 * (10 * (10 * (10 * (10 * (10 * 0 + a) + b) + c) + e) + f) + g) + h) + i
joined_digits a b c e f g h i = omega arith

-- The number of eight digits, and that it is below 10^8.
abbrev pub IsJoined : ℕ → ℕ → Type 0
IsJoined d n = (whole_in (fours_in (pairs_in d)) ≡ n) × (n < 10 ^ 8)

all_joined : (d a b c e f g h i : ℕ) → a ≤ 9 → b ≤ 9 → c ≤ 9 → e ≤ 9 → f ≤ 9 → g ≤ 9 → h ≤ 9 → i ≤ 9
    → d ≡ lanes 8 (a ∷ b ∷ c ∷ e ∷ f ∷ g ∷ h ∷ i ∷ [])
    → IsJoined d (10 * (10 * (10 * (10 * (10 * (10 * (10 * (10 * 0 + a) + b) + c) + e) + f) + g) + h) + i)
all_joined d a b c e f g h i sa sb sc se sf sg sh si is =
    let pairs = pairs_found d a b c e f g h i sa sb sc se sf sg sh si is in
    let fours = fours_found (pairs_in d) (10 * a + b) (10 * c + e) (10 * f + g) (10 * h + i) (omega arith) (omega arith)
    (omega arith) (omega arith) pairs in
    let whole = whole_found (fours_in (pairs_in d)) (100 * (10 * a + b) + (10 * c + e))
    (100 * (10 * f + g) + (10 * h + i)) (omega arith) (omega arith) fours in
    (whole ∙ joined_digits a b c e f g h i, omega arith)

small_value : (c : ℕ) → is_ascii_digit c ≡ true → c - 48 ≤ 9
small_value c h = let bounds = digit_bounds c h in omega (arith, bounds.1)

-- What is known of the first digit and of the others.
first_digit : (c : ℕ) (cs : List ℕ) → list_all is_ascii_digit (c ∷ cs) ≡ true → c - 48 ≤ 9
first_digit c cs h = small_value c (and_parts (is_ascii_digit c) (list_all is_ascii_digit cs) h).0

other_digits : (c : ℕ) (cs : List ℕ) → list_all is_ascii_digit (c ∷ cs) ≡ true → list_all is_ascii_digit cs ≡ true
other_digits c cs h = (and_parts (is_ascii_digit c) (list_all is_ascii_digit cs) h).1

eight_joined : (d : ℕ) (cs : List ℕ) → length cs ≡ 8 → list_all is_ascii_digit cs ≡ true → d ≡ lanes 8 (values_of cs)
    → IsJoined d (digits_after 0 cs)
eight_joined d (a ∷ b ∷ c ∷ e ∷ f ∷ g ∷ h ∷ i ∷ []) size all is =
    let tb = other_digits a (b ∷ c ∷ e ∷ f ∷ g ∷ h ∷ i ∷ []) all in
    let tc = other_digits b (c ∷ e ∷ f ∷ g ∷ h ∷ i ∷ []) tb in
    let te = other_digits c (e ∷ f ∷ g ∷ h ∷ i ∷ []) tc in
    let tf = other_digits e (f ∷ g ∷ h ∷ i ∷ []) te in
    let tg = other_digits f (g ∷ h ∷ i ∷ []) tf in
    let th = other_digits g (h ∷ i ∷ []) tg in
    let ti = other_digits h (i ∷ []) th in
    all_joined d (a - 48) (b - 48) (c - 48) (e - 48) (f - 48) (g - 48) (h - 48) (i - 48)
    (first_digit a (b ∷ c ∷ e ∷ f ∷ g ∷ h ∷ i ∷ []) all) (first_digit b (c ∷ e ∷ f ∷ g ∷ h ∷ i ∷ []) tb)
    (first_digit c (e ∷ f ∷ g ∷ h ∷ i ∷ []) tc) (first_digit e (f ∷ g ∷ h ∷ i ∷ []) te)
    (first_digit f (g ∷ h ∷ i ∷ []) tf)
    (first_digit g (h ∷ i ∷ []) tg) (first_digit h (i ∷ []) th) (first_digit i [] ti) is
eight_joined d [] size all is = absurd (omega arith)
eight_joined d (a ∷ []) size all is = absurd (omega arith)
eight_joined d (a ∷ b ∷ []) size all is = absurd (omega arith)
eight_joined d (a ∷ b ∷ c ∷ []) size all is = absurd (omega arith)
eight_joined d (a ∷ b ∷ c ∷ e ∷ []) size all is = absurd (omega arith)
eight_joined d (a ∷ b ∷ c ∷ e ∷ f ∷ []) size all is = absurd (omega arith)
eight_joined d (a ∷ b ∷ c ∷ e ∷ f ∷ g ∷ []) size all is = absurd (omega arith)
eight_joined d (a ∷ b ∷ c ∷ e ∷ f ∷ g ∷ h ∷ []) size all is = absurd (omega arith)
eight_joined d (a ∷ b ∷ c ∷ e ∷ f ∷ g ∷ h ∷ i ∷ j ∷ more) size all is = absurd (omega arith)

-- ---- what bytes that pass a test of zeros and one of halves are

-- The word is that of eight bytes.
pub record IsWord (word : ℕ) (cs : List ℕ) : Type 0 where
  pub is : word ≡ lanes 8 cs
  pub size : length cs ≡ 8
  pub fits : AllBelow (2 ^ 8) cs

pub word_read : (word : ℕ) (cs : List ℕ) → word ≡ little_from 0 8 cs → length cs ≡ 8 → ((i : ℕ) → get_or cs i 0 < 256)
    → IsWord word cs
word_read word cs e size fits =
    record {
      is = e ∙ ap (λ n. little_from 0 n cs) (sym size) ∙ word_of cs;
      size = size;
      fits = below_from (2 ^ 8) cs fits;
    }

pub none_unless : (b : Bool) (n : ℕ) → (b ≡ true → ⊥) → None ≡ (if b then Some n else None)
none_unless true n h = absurd (h refl)
none_unless false n h = refl

some_where : (b : Bool) (n m : ℕ) → b ≡ true → m ≡ n → Some m ≡ (if b then Some n else None)
some_where true n m h e = ap Some e
some_where false n m h e = cc

high_bytes : (word : ℕ) (cs : List ℕ) → IsWord word cs → bit_and word 17361641481138401520 ≡ 3472328296227680304
    → AllHigh cs
high_bytes word cs w passes =
    passed_first cs w.fits
    (subst (λ n. bit_and (lanes 8 cs) (each 8 n 240) ≡ each 8 n 48) (sym w.size)
    (ap (λ t. bit_and t 17361641481138401520) (sym w.is) ∙ passes))

values_in : (word : ℕ) (cs : List ℕ) → IsWord word cs → AllHigh cs → word - 3472328296227680304 ≡ lanes 8 (values_of cs)
values_in word cs w high =
    let taken : lanes 8 cs ≡ lanes 8 (values_of cs) + each 8 8 48 =
    subst (λ n. lanes 8 cs ≡ lanes 8 (values_of cs) + each 8 n 48) w.size (zeros_taken cs high) in
    let all : word ≡ lanes 8 (values_of cs) + 3472328296227680304 = w.is ∙ taken in
    omega (arith, all)

more_in : (word : ℕ) (cs : List ℕ) → IsWord word cs → AllHigh cs
    → word - 3472328296227680304 + 434041037028460038 ≡ lanes 8 (more_of cs)
more_in word cs w high =
    let six : lanes 8 (more_of cs) ≡ lanes 8 (values_of cs) + each 8 8 6 =
    subst (λ n. lanes 8 (more_of cs) ≡ lanes 8 (values_of cs) + each 8 n 6) w.size (six_more cs) in
    ap (λ t. t + 434041037028460038) (values_in word cs w high) ∙ sym six

pub are_eight : (word : ℕ) (cs : List ℕ) → IsWord word cs → bit_and word 17361641481138401520 ≡ 3472328296227680304
    → bit_and (word - 3472328296227680304 + 434041037028460038) 17361641481138401520 ≡ 0
    → list_all is_ascii_digit cs ≡ true
are_eight word cs w passes again =
    let high = high_bytes word cs w passes in
    passed_second cs high
    (subst (λ n. bit_and (lanes 8 (more_of cs)) (each 8 n 240) ≡ 0) (sym w.size)
    (ap (λ t. bit_and t 17361641481138401520) (sym (more_in word cs w high)) ∙ again))

pub few_values : (word : ℕ) (cs : List ℕ) → IsWord word cs → bit_and word 17361641481138401520 ≡ 3472328296227680304
    → bit_and (word - 3472328296227680304 + 434041037028460038) 17361641481138401520 ≡ 0
    → word - 3472328296227680304 ≤ 651061555542690057
few_values word cs w passes again =
    let most : lanes 8 (values_of cs) ≤ each 8 8 9 =
    subst (λ n. lanes 8 (values_of cs) ≤ each 8 n 9) w.size (values_small cs (are_eight word cs w passes again)) in
    let same = values_in word cs w (high_bytes word cs w passes) in
    omega (arith, most, same)

pub eight_found : (word : ℕ) (cs : List ℕ) → IsWord word cs → bit_and word 17361641481138401520 ≡ 3472328296227680304
    → bit_and (word - 3472328296227680304 + 434041037028460038) 17361641481138401520 ≡ 0
    → (Some (whole_in (fours_in (pairs_in (word - 3472328296227680304)))) ≡ number_after 0 cs)
    × (whole_in (fours_in (pairs_in (word - 3472328296227680304))) < 10 ^ 8)
eight_found word cs w passes again =
    let all = are_eight word cs w passes again in
    let j =
    eight_joined (word - 3472328296227680304) cs w.size all (values_in word cs w (high_bytes word cs w passes)) in
    (some_where (list_all is_ascii_digit cs) (digits_after 0 cs) _ all j.0, subst (λ n. n < 10 ^ 8) (sym j.0) j.1)
