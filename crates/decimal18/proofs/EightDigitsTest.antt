-- One test of all eight bytes of a word: each is a digit exactly where neither the bytes with `0` taken out nor the
-- same and six more have a bit in a high half.
use Rattle.std.proofs.Common.{◌≡◌, ℕ, ◌+◌, ◌-◌, ◌*◌, ◌/◌, ◌%◌, ◌^◌, ◌<◌, ◌≤◌, true, List, []}
use Rattle.std.proofs.Common.{◌∷◌, length, Some, None, refl, ap, sym, ◌∙◌, subst, arith}
use Rattle.std.specs.Int.{bit_at}
use Rattle.std.specs.Int.RustNames.{bit_and, bit_or, bit_xor}
use Rattle.std.specs.Int.Bits.{xor_zero_r, xor_add_and, xor_self}
use Rattle.std.specs.Char.{is_ascii_digit}
use Rattle.std.specs.List.{list_all}
use Rattle.std.proofs.lemmas.Nat.{and_block, xor_block, xor_lt, or_comm, and_or_apart, and_le_l, and_le_r}
use Rattle.std.proofs.lemmas.Nat.Bits.{and_high, bit_at_and, bit_at_or, bit_at-zero, same_from_bits}
use Rattle.decimal18.specs.Digits.{digits_after, number_after}
use Rattle.decimal18.proofs.EightDigits.{lanes, each, AllBelow, AllHigh, IsWord, values_of, more_of, zeros_taken}
use Rattle.decimal18.proofs.EightDigits.{six_more, digits_pass_first, digits_pass_second, passed_first, few_values}
use Rattle.decimal18.proofs.EightDigits.{none_unless, eight_found, whole_in, fours_in, pairs_in}

-- ---- one byte

half_of : (c : ℕ) → bit_and c 240 ≡ c / 16 % 16 * 16
half_of c = and_high c 4 4

high_value : (c : ℕ) → 48 ≤ c → c ≤ 63 → bit_xor c 48 ≡ c - 48
high_value c low high =
    let r = c - 48 in
    let parts : c ≡ 3 * 2 ^ 4 + r = omega arith in
    let small : r < 2 ^ 4 = omega arith in
    let none : 0 < 2 ^ 4 = omega arith in
    ap (λ t. bit_xor t 48) parts ∙ xor_block 4 3 3 r 0 small none
    ∙ (let high = xor_self 3 in let low = xor_zero_r r in omega (arith, high, low))

-- A byte without a bit in its high half once `0` is taken out of it.
high_byte : (c : ℕ) → c < 256 → bit_and (bit_xor c 48) 240 ≡ 0 → (48 ≤ c) × (c ≤ 63)
high_byte c fits e =
    let q = c / 16 in
    let r = c % 16 in
    let parts : c ≡ q * 2 ^ 4 + r = omega arith in
    let small : r < 2 ^ 4 = omega arith in
    let none : 0 < 2 ^ 4 = omega arith in
    let few : q < 2 ^ 4 = omega arith in
    let three : 3 < 2 ^ 4 = omega arith in
    let split : bit_xor c 48 ≡ bit_xor q 3 * 2 ^ 4 + bit_xor r 0 =
    ap (λ t. bit_xor t 48) parts ∙ xor_block 4 q 3 r 0 small none in
    let low : bit_xor r 0 ≡ r = xor_zero_r r in
    let high : bit_xor q 3 < 2 ^ 4 = xor_lt 4 q 3 few three in
    let zero_half : bit_xor c 48 / 16 % 16 * 16 ≡ 0 = sym (half_of (bit_xor c 48)) ∙ e in
    let is : bit_xor q 3 ≡ 0 = omega (arith, split, low, high, zero_half) in
    let sum = xor_add_and q 3 in
    let one = and_le_l q 3 in
    let other = and_le_r q 3 in
    let three_is : q ≡ 3 = omega (arith, is, sum, one, other) in
    (omega (arith, three_is), omega (arith, three_is))

xor_small : (c : ℕ) → c < 256 → bit_xor c 48 < 2 ^ 8
xor_small c fits = xor_lt 8 c 48 fits (omega arith)

-- ---- all bytes

-- `0` taken out of each byte, and of that the high halves.
abbrev taken : List ℕ → ℕ
taken cs = bit_xor (lanes 8 cs) (each 8 (length cs) 48)

abbrev halves : List ℕ → ℕ
halves cs = bit_and (taken cs) (each 8 (length cs) 240)

taken_next : (c : ℕ) (cs : List ℕ) → c < 256 → taken (c ∷ cs) ≡ taken cs * 2 ^ 8 + bit_xor c 48
taken_next c cs fits = xor_block 8 (lanes 8 cs) (each 8 (length cs) 48) c 48 fits (omega arith)

halves_next : (c : ℕ) (cs : List ℕ) → c < 256 → halves (c ∷ cs) ≡ halves cs * 2 ^ 8 + bit_and (bit_xor c 48) 240
halves_next c cs fits =
    ap (λ t. bit_and t (each 8 (length cs) 240 * 2 ^ 8 + 240)) (taken_next c cs fits)
    ∙ and_block 8 (taken cs) (each 8 (length cs) 240) (bit_xor c 48) 240 (xor_small c fits) (omega arith)

none_in_halves : (cs : List ℕ) → AllBelow (2 ^ 8) cs → halves cs ≡ 0 → AllHigh cs
none_in_halves [] fits e = tt
none_in_halves (c ∷ cs) fits e =
    let next = halves_next c cs fits.0 in
    let here : bit_and (bit_xor c 48) 240 ≡ 0 = omega (arith, next, e) in
    let rest : halves cs ≡ 0 = omega (arith, next, e) in
    let bounds = high_byte c fits.0 here in
    (bounds.0, bounds.1, none_in_halves cs fits.1 rest)

high_taken : (cs : List ℕ) → AllBelow (2 ^ 8) cs → AllHigh cs → taken cs ≡ lanes 8 (values_of cs)
high_taken [] fits high = refl
high_taken (c ∷ cs) fits high =
    taken_next c cs fits.0
    ∙ ap (λ t. t * 2 ^ 8 + bit_xor c 48) (high_taken cs fits.1 high.2)
    ∙ ap (λ t. lanes 8 (values_of cs) * 2 ^ 8 + t) (high_value c high.0 high.1)

high_halves : (cs : List ℕ) → AllBelow (2 ^ 8) cs → AllHigh cs → halves cs ≡ 0
high_halves [] fits high = refl
high_halves (c ∷ cs) fits high =
    let next = halves_next c cs fits.0 in
    let rest = high_halves cs fits.1 high.2 in
    let low : 48 ≤ c = high.0 in
    let most : c ≤ 63 = high.1 in
    let value = high_value c low most in
    let half = half_of (bit_xor c 48) in
    let here : bit_and (bit_xor c 48) 240 ≡ 0 = omega (arith, half, value) in
    omega (arith, next, rest, here)

high_first : (cs : List ℕ) → AllBelow (2 ^ 8) cs → AllHigh cs
    → bit_and (lanes 8 cs) (each 8 (length cs) 240) ≡ each 8 (length cs) 48
high_first [] fits high = refl
high_first (c ∷ cs) fits high =
    let next = and_block 8 (lanes 8 cs) (each 8 (length cs) 240) c 240 fits.0 (omega arith) in
    let rest = high_first cs fits.1 high.2 in
    let low : 48 ≤ c = high.0 in
    let most : c ≤ 63 = high.1 in
    let half = half_of c in
    let here : bit_and c 240 ≡ 48 = omega (arith, half) in
    next ∙ ap (λ t. t * 2 ^ 8 + bit_and c 240) rest ∙ ap (λ t. each 8 (length cs) 48 * 2 ^ 8 + t) here

-- ---- both in one

either_zero : (a b m : ℕ) → bit_and (bit_or a b) m ≡ 0 → bit_and a m ≡ 0
either_zero a b m e =
    same_from_bits (bit_and a m) 0 (λ i.
    let bit = ap (λ t. bit_at t i) e in
    omega (arith, bit, bit_at_and (bit_or a b) m i, bit_at_or a b i, bit_at_and a m i, bit_at-zero i))

other_zero : (a b m : ℕ) → bit_and (bit_or a b) m ≡ 0 → bit_and b m ≡ 0
other_zero a b m e = either_zero b a m (ap (λ t. bit_and t m) (or_comm b a) ∙ e)

both_zero : (a b m : ℕ) → bit_and a m ≡ 0 → bit_and b m ≡ 0 → bit_and (bit_or a b) m ≡ 0
both_zero a b m e f = and_or_apart m a b f ∙ e

-- ---- the test of the code

abbrev pub digits_in : ℕ → ℕ
digits_in word = bit_xor word 3472328296227680304

abbrev pub test_of : ℕ → ℕ
test_of word = bit_and (bit_or (digits_in word) ((digits_in word + 434041037028460038) % 18446744073709551616))
    17361641481138401520

is_taken : (word : ℕ) (cs : List ℕ) → IsWord word cs → digits_in word ≡ taken cs
is_taken word cs w = ap digits_in w.is ∙ ap (λ n. bit_xor (lanes 8 cs) (each 8 n 48)) (sym w.size)

less_zeros : (word : ℕ) (cs : List ℕ) → IsWord word cs → AllHigh cs → digits_in word ≡ word - 3472328296227680304
less_zeros word cs w high =
    let values = is_taken word cs w ∙ high_taken cs w.fits high in
    let sum : lanes 8 cs ≡ lanes 8 (values_of cs) + each 8 8 48 =
    subst (λ n. lanes 8 cs ≡ lanes 8 (values_of cs) + each 8 n 48) w.size (zeros_taken cs high) in
    let is = w.is in
    omega (arith, values, sum, is)

not_wrapped : (word d : ℕ) → word < 2 ^ 64 → d ≡ word - 3472328296227680304
    → (d + 434041037028460038) % 18446744073709551616 ≡ word - 3472328296227680304 + 434041037028460038
not_wrapped word d h e = omega (arith, h, e)

-- What the test shows, in the words of decimal18's two tests.
record Passes (word : ℕ) : Type 0 where
  digits : digits_in word ≡ word - 3472328296227680304
  first : bit_and word 17361641481138401520 ≡ 3472328296227680304
  second : bit_and (word - 3472328296227680304 + 434041037028460038) 17361641481138401520 ≡ 0

passes : (word : ℕ) (cs : List ℕ) → word < 2 ^ 64 → IsWord word cs → test_of word ≡ 0 → Passes word
passes word cs range w e =
    let one = either_zero (digits_in word) ((digits_in word + 434041037028460038) % 18446744073709551616)
    17361641481138401520 e in
    let two =
    other_zero (digits_in word) ((digits_in word + 434041037028460038) % 18446744073709551616) 17361641481138401520 e in
    let none : halves cs ≡ 0 =
    ap (λ n. bit_and (taken cs) (each 8 n 240)) w.size
    ∙ ap (λ t. bit_and t 17361641481138401520) (sym (is_taken word cs w)) ∙ one in
    let high = none_in_halves cs w.fits none in
    let digits = less_zeros word cs w high in
    record {
      digits = digits;
      first = ap (λ t. bit_and t 17361641481138401520) w.is
          ∙ subst (λ n. bit_and (lanes 8 cs) (each 8 n 240) ≡ each 8 n 48) w.size (high_first cs w.fits high);
      second = ap (λ t. bit_and t 17361641481138401520) (sym (not_wrapped word (digits_in word) range digits)) ∙ two;
    }

all_pass : (word : ℕ) (cs : List ℕ) → word < 2 ^ 64 → IsWord word cs → list_all is_ascii_digit cs ≡ true
    → test_of word ≡ 0
all_pass word cs range w all =
    let high = passed_first cs w.fits (digits_pass_first cs w.fits all) in
    let digits = less_zeros word cs w high in
    let none : bit_and (digits_in word) 17361641481138401520 ≡ 0 =
    ap (λ t. bit_and t 17361641481138401520) (is_taken word cs w)
    ∙ ap (λ n. bit_and (taken cs) (each 8 n 240)) (sym w.size) ∙ high_halves cs w.fits high in
    let six : lanes 8 (more_of cs) ≡ lanes 8 (values_of cs) + each 8 8 6 =
    subst (λ n. lanes 8 (more_of cs) ≡ lanes 8 (values_of cs) + each 8 n 6) w.size (six_more cs) in
    let values = is_taken word cs w ∙ high_taken cs w.fits high in
    let more : (digits_in word + 434041037028460038) % 18446744073709551616 ≡ lanes 8 (more_of cs) =
    not_wrapped word (digits_in word) range digits ∙ omega (arith, digits, values, six) in
    both_zero (digits_in word) ((digits_in word + 434041037028460038) % 18446744073709551616) 17361641481138401520 none
    (ap (λ t. bit_and t 17361641481138401520) more
    ∙ ap (λ n. bit_and (lanes 8 (more_of cs)) (each 8 n 240)) (sym w.size) ∙ digits_pass_second cs all)

-- ---- what the code answers

lanes_small : (cs : List ℕ) → AllBelow (2 ^ 8) cs → lanes 8 cs ≤ each 8 (length cs) 255
lanes_small [] fits = omega arith
lanes_small (c ∷ cs) fits =
    let rest = lanes_small cs fits.1 in
    let here : c < 2 ^ 8 = fits.0 in
    omega (arith, rest, here)

word_small : (word : ℕ) (cs : List ℕ) → IsWord word cs → word < 2 ^ 64
word_small word cs w =
    let most : lanes 8 cs ≤ each 8 8 255 = subst (λ n. lanes 8 cs ≤ each 8 n 255) w.size (lanes_small cs w.fits) in
    let is = w.is in
    omega (arith, most, is)

pub no_digits : (word : ℕ) (cs : List ℕ) → IsWord word cs → (test_of word ≡ 0 → ⊥) → None ≡ number_after 0 cs
no_digits word cs w fails =
    none_unless (list_all is_ascii_digit cs) (digits_after 0 cs)
    (λ all. fails (all_pass word cs (word_small word cs w) w all))

pub few_digits : (word : ℕ) (cs : List ℕ) → IsWord word cs → test_of word ≡ 0 → digits_in word ≤ 651061555542690057
few_digits word cs w e =
    let p = passes word cs (word_small word cs w) w e in
    subst (λ n. n ≤ 651061555542690057) (sym p.digits) (few_values word cs w p.first p.second)

-- What the steps from digits to their number give.
abbrev pub joined : ℕ → ℕ
joined d = whole_in (fours_in (pairs_in d))

pub digits_found : (word : ℕ) (cs : List ℕ) → IsWord word cs → test_of word ≡ 0
    → (Some (joined (digits_in word)) ≡ number_after 0 cs) × (joined (digits_in word) < 10 ^ 8)
digits_found word cs w e =
    let p = passes word cs (word_small word cs w) w e in
    subst (λ d. (Some (joined d) ≡ number_after 0 cs) × (joined d < 10 ^ 8)) (sym p.digits)
    (eight_found word cs w p.first p.second)
