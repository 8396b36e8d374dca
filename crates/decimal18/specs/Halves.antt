-- How a coefficient is kept: as a low part, which fits 64 bits with its sign, and a high part, which counts multiples of
-- 2^64. A coefficient that fits 64 bits is its own low part, and its high part is zero.
use Rattle.std.proofs.Common.{◌≡◌, ℕ, zero, suc, ◌+◌, ◌-◌, ◌*◌, ◌/◌, ◌^◌, ◌<◌, ◌≤◌, refl, ap, sym, ◌∙◌, arith, ℤ, pos, negsuc, neg_ℤ, ◌+ℤ◌, ◌-ℤ◌, ◌*ℤ◌, FitsSigned, cond}
use Rattle.std.specs.Int.{w64}
use Rattle.std.proofs.Math.IntN.{sub_ℕ, +ℤ-neg_ℤ_cancel, -ℤ-+ℤ_cancel, +ℤ_idr}
use Rattle.std.proofs.lemmas.Bool.{lt-ltb, le-ltb}
use Rattle.std.proofs.lemmas.Nat.{div-mul-add}

abbrev pub number_of_halves : ℤ → ℤ → ℤ
number_of_halves low high = low +ℤ high *ℤ pos (2 ^ 64)

-- The nearest multiple of 2^64.
abbrev pub high_part : ℤ → ℤ
high_part (pos n) = pos ((n + 2 ^ 63) / 2 ^ 64)
high_part (negsuc n) = neg_ℤ (pos ((n + 2 ^ 63) / 2 ^ 64))

abbrev pub low_part : ℤ → ℤ
low_part z = z -ℤ high_part z *ℤ pos (2 ^ 64)

pub number_of_halves_law : (z : ℤ) → number_of_halves (low_part z) (high_part z) ≡ z
number_of_halves_law z = -ℤ-+ℤ_cancel z (high_part z *ℤ pos (2 ^ 64))

pub short_joined : (low : ℤ) → number_of_halves low (pos 0) ≡ low
short_joined low = +ℤ_idr low

pub sub_less : (a b : ℕ) → a < b → sub_ℕ a b ≡ negsuc (b - suc a)
sub_less a b h = ap (λ t. cond t (negsuc (b - suc a)) (pos (a - b))) (lt-ltb a b h)

pub sub_more : (a b : ℕ) → b ≤ a → sub_ℕ a b ≡ pos (a - b)
sub_more a b h = ap (λ t. cond t (negsuc (b - suc a)) (pos (a - b))) (le-ltb a b h)

pub less_by : (a b : ℕ) → pos a +ℤ neg_ℤ (pos b) ≡ sub_ℕ a b
less_by a zero = let same : a + 0 ≡ a - 0 = omega arith in ap pos same ∙ sym (sub_more a 0 (omega arith))
less_by a (suc b) = refl

pub negated_some : (n : ℕ) → 0 < n → neg_ℤ (pos n) ≡ negsuc (n - 1)
negated_some zero h = absurd (omega arith)
negated_some (suc n) h = ap negsuc (omega arith)

quotient_is : (n q r : ℕ) → n ≡ q * 2 ^ 64 + r → r < 2 ^ 64 → n / 2 ^ 64 ≡ q
quotient_is n q r e h = ap (λ t. t / 2 ^ 64) e ∙ div-mul-add q (2 ^ 64) r h

-- The high part is found again.
high_of : (low high : ℤ) → FitsSigned w64 low → high_part (number_of_halves low high) ≡ high
high_of (pos l) (pos h) fits =
    let small : l < 2 ^ 63 = fits.sfits in
    ap pos (quotient_is (l + h * 2 ^ 64 + 2 ^ 63) h (l + 2 ^ 63) (omega arith) (omega arith))
high_of (negsuc l) (pos zero) fits =
    let small : l < 2 ^ 63 = fits.sfits in
    let same : suc l - suc 0 ≡ l = omega arith in
    ap high_part (sub_less 0 (suc l) (omega arith) ∙ ap negsuc same)
    ∙ ap (λ n. neg_ℤ (pos n)) (quotient_is (l + 2 ^ 63) 0 (l + 2 ^ 63) (omega arith) (omega arith))
high_of (negsuc l) (pos (suc h)) fits =
    let small : l < 2 ^ 63 = fits.sfits in
    let less : suc l ≤ suc h * 2 ^ 64 = omega arith in
    ap high_part (sub_more (suc h * 2 ^ 64) (suc l) less)
    ∙ ap pos (quotient_is (suc h * 2 ^ 64 - suc l + 2 ^ 63) (suc h) (2 ^ 63 - suc l) (omega arith) (omega arith))
high_of (pos l) (negsuc h) fits =
    let small : l < 2 ^ 63 = fits.sfits in
    let less : l < suc h * 2 ^ 64 = omega arith in
    ap high_part (less_by l (suc h * 2 ^ 64) ∙ sub_less l (suc h * 2 ^ 64) less)
    ∙ ap (λ n. neg_ℤ (pos n)) (quotient_is (suc h * 2 ^ 64 - suc l + 2 ^ 63) (suc h) (2 ^ 63 - suc l) (omega arith) (omega arith))
high_of (negsuc l) (negsuc h) fits =
    let small : l < 2 ^ 63 = fits.sfits in
    let some : 0 < suc h * 2 ^ 64 = omega arith in
    ap (λ t. high_part (negsuc l +ℤ t)) (negated_some (suc h * 2 ^ 64) some)
    ∙ ap (λ n. neg_ℤ (pos n)) (quotient_is (suc (l + (suc h * 2 ^ 64 - 1)) + 2 ^ 63) (suc h) (l + 2 ^ 63) (omega arith) (omega arith))

low_of : (low high : ℤ) → FitsSigned w64 low → low_part (number_of_halves low high) ≡ low
low_of low high fits =
    ap (λ t. number_of_halves low high -ℤ t *ℤ pos (2 ^ 64)) (high_of low high fits) ∙ +ℤ-neg_ℤ_cancel low (high *ℤ pos (2 ^ 64))

-- Both parts of what they join are found again.
pub parts_of : {X : Type 0} (kept : ℤ → ℤ → X) (low high : ℤ) → FitsSigned w64 low → kept (low_part (number_of_halves low high)) (high_part (number_of_halves low high)) ≡ kept low high
parts_of kept low high fits =
    ap (λ l. kept l (high_part (number_of_halves low high))) (low_of low high fits) ∙ ap (kept low) (high_of low high fits)
