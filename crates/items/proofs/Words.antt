-- Binary numbers: two's complement in 2, 4 or 8 bytes.
use Rattle.std.proofs.Common.{◌≡◌, ℕ, suc, ◌-◌, ◌*◌, ◌/◌, ◌<◌, ◌≤◌, ◌^◌, ◌⊎◌, inl, inr, ℤ, pos, negsuc, ◌-ℤ◌}
use Rattle.std.proofs.Common.{unsigned_abs, List, [], ◌++◌, length, drop, nat_le, if◌then◌else◌, FitsSigned, to_z, of_z}
use Rattle.std.proofs.Common.{w16, w32, w64, refl, ap, sym, ◌∙◌, arith}
use Rattle.std.proofs.lemmas.Int.{to_z-of_z, ints, fits_signed_from_abs}
use Rattle.std.proofs.lemmas.List.{drop_all, append-nil}
use Rattle.std.proofs.lemmas.Bool.{le-leb, lt-leb, cases_lt}
use Rattle.std.proofs.Math.Nat.{mod-eq_of_lt}
use Rattle.byteorder.specs.Endian.{big_number, big_bytes}
use Rattle.byteorder.specs.Numbers.{big_from-bytes, length-bytes_high_first}
use Rattle.decimal18.specs.Fraction.{is_negative}
use Rattle.items.specs.Numbers.{binary_length}
use Rattle.items.specs.Binary.{patterns, twos_complement, binary_integer, binary_bytes}
use Rattle.items.proofs.Bounds.{below}

pub two_bytes : (d : ℕ) → d ≤ 4 → binary_length d ≡ 2
two_bytes d h = ap (λ b. if b then 2 else if nat_le d 9 then 4 else 8) (le-leb d 4 h)

pub four_bytes : (d : ℕ) → 4 < d → d ≤ 9 → binary_length d ≡ 4
four_bytes d h k =
    ap (λ b. if b then 2 else if nat_le d 9 then 4 else 8) (lt-leb d 4 h) ∙ ap (λ b. if b then 4 else 8) (le-leb d 9 k)

pub eight_bytes : (d : ℕ) → 9 < d → binary_length d ≡ 8
eight_bytes d h =
    let more : 4 < d = omega arith in
    ap (λ b. if b then 2 else if nat_le d 9 then 4 else 8) (lt-leb d 4 more)
    ∙ ap (λ b. if b then 4 else 8) (lt-leb d 9 h)

-- ---- writing

-- the bits of a number, as many as bytes have room for
abbrev pub bits_in : ℕ → ℤ → ℕ
bits_in n z = if is_negative z then patterns n - unsigned_abs z else unsigned_abs z

sixteen : (z : ℤ) → of_z w16 z ≡ bits_in 2 z
sixteen (pos n) = refl
sixteen (negsuc n) = refl

thirty_two : (z : ℤ) → of_z w32 z ≡ bits_in 4 z
thirty_two (pos n) = refl
thirty_two (negsuc n) = refl

pub halfword : (bytes : List ℕ) (d : ℕ) (z : ℤ) → length bytes ≡ binary_length d → d ≤ 4 → unsigned_abs z < 10 ^ d
    → FitsSigned w64 z
    → big_bytes 2 (of_z w16 (to_z w16 (of_z w16 (to_z w64 (of_z w64 z))))) ++ drop 2 bytes
    ≡ binary_bytes (length bytes) (is_negative z) (unsigned_abs z)
halfword bytes d z size few small wide =
    let two : length bytes ≡ 2 = size ∙ two_bytes d few in
    let less : unsigned_abs z < 10 ^ 4 = below (unsigned_abs z) d 4 small few in
    let fits : FitsSigned w16 z = fits_signed_from_abs w16 z (omega arith) in
    let room : length bytes ≤ 2 = omega arith in
    ap (λ y. big_bytes 2 (of_z w16 (to_z w16 (of_z w16 y))) ++ drop 2 bytes) (to_z-of_z w64 z wide)
    ∙ ap (λ y. big_bytes 2 (of_z w16 y) ++ drop 2 bytes) (to_z-of_z w16 z fits)
    ∙ ap (λ t. big_bytes 2 (of_z w16 z) ++ t) (drop_all 2 bytes room)
    ∙ append-nil (big_bytes 2 (of_z w16 z))
    ∙ ap (big_bytes 2) (sixteen z)
    ∙ ap (λ n. binary_bytes n (is_negative z) (unsigned_abs z)) (sym two)

pub fullword : (bytes : List ℕ) (d : ℕ) (z : ℤ) → length bytes ≡ binary_length d → 4 < d → d ≤ 9
    → unsigned_abs z < 10 ^ d → FitsSigned w64 z
    → big_bytes 4 (of_z w32 (to_z w32 (of_z w32 (to_z w64 (of_z w64 z))))) ++ drop 4 bytes
    ≡ binary_bytes (length bytes) (is_negative z) (unsigned_abs z)
fullword bytes d z size many few small wide =
    let four : length bytes ≡ 4 = size ∙ four_bytes d many few in
    let less : unsigned_abs z < 10 ^ 9 = below (unsigned_abs z) d 9 small few in
    let fits : FitsSigned w32 z = fits_signed_from_abs w32 z (omega arith) in
    let room : length bytes ≤ 4 = omega arith in
    ap (λ y. big_bytes 4 (of_z w32 (to_z w32 (of_z w32 y))) ++ drop 4 bytes) (to_z-of_z w64 z wide)
    ∙ ap (λ y. big_bytes 4 (of_z w32 y) ++ drop 4 bytes) (to_z-of_z w32 z fits)
    ∙ ap (λ t. big_bytes 4 (of_z w32 z) ++ t) (drop_all 4 bytes room)
    ∙ append-nil (big_bytes 4 (of_z w32 z))
    ∙ ap (big_bytes 4) (thirty_two z)
    ∙ ap (λ n. binary_bytes n (is_negative z) (unsigned_abs z)) (sym four)

-- ---- the bytes of a number read

-- the number of the bits of a number that has room in them
signed_back : (n half : ℕ) (z : ℤ) → patterns n ≡ 2 * half → unsigned_abs z < half → twos_complement n (bits_in n z) ≡ z
signed_back n half (pos m) e h =
    let middle : patterns n / 2 ≡ half = omega arith in
    let low : m < patterns n / 2 = omega arith in
    ap (λ b. if b then pos m -ℤ pos (patterns n) else pos m) (lt-leb (patterns n / 2) m low)
signed_back n half (negsuc m) e h =
    let p = patterns n in
    let high : p / 2 ≤ p - suc m = omega arith in
    ap (λ b. if b then pos (p - suc m) -ℤ pos p else pos (p - suc m)) (le-leb (p / 2) (p - suc m) high)
    ∙ (let some : suc m ≤ p = omega arith in omega (arith, ints))

bits_fit : (n half : ℕ) (z : ℤ) → patterns n ≡ 2 * half → unsigned_abs z < half → bits_in n z < patterns n
bits_fit n half (pos m) e h = omega arith
bits_fit n half (negsuc m) e h = omega arith

word_back : (n half : ℕ) (z : ℤ) → patterns n ≡ 2 * half → unsigned_abs z < half
    → binary_integer (binary_bytes n (is_negative z) (unsigned_abs z)) ≡ z
word_back n half z e h =
    let v = bits_in n z in
    let bytes = big_bytes n v in
    let read : big_number n bytes ≡ v =
    ap (big_number n) (sym (append-nil bytes)) ∙ big_from-bytes n v [] ∙ mod-eq_of_lt (bits_fit n half z e h) in
    ap (λ k. twos_complement k (big_number k bytes)) (length-bytes_high_first n v)
    ∙ ap (twos_complement n) read
    ∙ signed_back n half z e h

pub binary_back : (d : ℕ) (z : ℤ) → d ≤ 18 → unsigned_abs z < 10 ^ d
    → binary_integer (binary_bytes (binary_length d) (is_negative z) (unsigned_abs z)) ≡ z
binary_back d z most h = by_size (cases_lt 4 d) (cases_lt 9 d)
  where
    by_size : (4 < d) ⊎ (d ≤ 4) → (9 < d) ⊎ (d ≤ 9)
        → binary_integer (binary_bytes (binary_length d) (is_negative z) (unsigned_abs z)) ≡ z
    by_size (inr few) w =
        let less : unsigned_abs z < 10 ^ 4 = below (unsigned_abs z) d 4 h few in
        let small : unsigned_abs z < 32768 = omega arith in
        ap (λ n. binary_integer (binary_bytes n (is_negative z) (unsigned_abs z))) (two_bytes d few)
        ∙ word_back 2 32768 z refl small
    by_size (inl many) (inr few) =
        let less : unsigned_abs z < 10 ^ 9 = below (unsigned_abs z) d 9 h few in
        let small : unsigned_abs z < 2147483648 = omega arith in
        ap (λ n. binary_integer (binary_bytes n (is_negative z) (unsigned_abs z))) (four_bytes d many few)
        ∙ word_back 4 2147483648 z refl small
    by_size (inl many) (inl more) =
        let less : unsigned_abs z < 10 ^ 18 = below (unsigned_abs z) d 18 h most in
        let small : unsigned_abs z < 9223372036854775808 = omega arith in
        ap (λ n. binary_integer (binary_bytes n (is_negative z) (unsigned_abs z))) (eight_bytes d more)
        ∙ word_back 8 9223372036854775808 z refl small
