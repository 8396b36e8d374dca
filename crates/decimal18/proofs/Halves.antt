-- The two parts of a coefficient fit 64 bits.
use Rattle.std.proofs.Common.{◌≡◌, ℕ, suc, ◌+◌, ◌-◌, ◌*◌, ◌/◌, ◌^◌, ◌<◌, ◌≤◌, Bool, ap, sym, ◌∙◌, arith, ℤ, pos, negsuc}
use Rattle.std.proofs.Common.{neg_ℤ, ◌+ℤ◌, ◌-ℤ◌, ◌*ℤ◌, unsigned_abs, FitsSigned, to_z, of_z, inl, inr, subst}
use Rattle.std.proofs.Common.{if◌then◌else◌}
use Rattle.std.specs.Int.{w64, w128}
use Rattle.std.proofs.Math.IntN.{sub_ℕ, neg_ℤ-neg_ℤ}
use Rattle.std.proofs.Math.Nat.{div-mul-le_self, lt-div-mul-add}
use Rattle.std.proofs.lemmas.Bool.{cases_lt}
use Rattle.std.proofs.lemmas.Nat.{div_below}
use Rattle.std.proofs.lemmas.Int.{to_z-of_z, fits_signed_from_abs}
use Rattle.decimal18.specs.Fraction.{Fraction, signed_integer, is_negative}
use Rattle.decimal18.specs.Halves.{number_of_halves, high_part, low_part, number_of_halves_law, less_by, sub_less}
use Rattle.decimal18.specs.Halves.{sub_more, negated_some}
use Rattle.decimal18.proofs.Difference.{neg-mul}

near_fits : (a b : ℕ) → b ≤ a + 2 ^ 63 → a + 2 ^ 63 < b + 2 ^ 64 → FitsSigned w64 (sub_ℕ a b)
near_fits a b h k = elim (cases_lt a b) [
  | inl less ↦ subst (FitsSigned w64) (sym (sub_less a b less)) (record { sfits = omega arith })
  | inr more ↦ subst (FitsSigned w64) (sym (sub_more a b more)) (record { sfits = omega arith })
]

far_fits : (a b : ℕ) → b ≤ a + 2 ^ 63 → a + 2 ^ 63 < b + 2 ^ 64 → FitsSigned w64 (sub_ℕ b (suc a))
far_fits a b h k = elim (cases_lt b (suc a)) [
  | inl less ↦ subst (FitsSigned w64) (sym (sub_less b (suc a) less)) (record { sfits = omega arith })
  | inr more ↦ subst (FitsSigned w64) (sym (sub_more b (suc a) more)) (record { sfits = omega arith })
]

units_below : (n : ℕ) → (n + 2 ^ 63) / 2 ^ 64 * 2 ^ 64 ≤ n + 2 ^ 63
units_below n = div-mul-le_self (n + 2 ^ 63) (2 ^ 64)

units_above : (n : ℕ) → n + 2 ^ 63 < (n + 2 ^ 63) / 2 ^ 64 * 2 ^ 64 + 2 ^ 64
units_above n = lt-div-mul-add (omega arith)

pub low_fits : (z : ℤ) → FitsSigned w64 (low_part z)
low_fits (pos n) =
    let units = (n + 2 ^ 63) / 2 ^ 64 in
    subst (FitsSigned w64) (sym (less_by n (units * 2 ^ 64)))
    (near_fits n (units * 2 ^ 64) (units_below n) (units_above n))
low_fits (negsuc n) =
    let units = (n + 2 ^ 63) / 2 ^ 64 in
    let turned : negsuc n -ℤ neg_ℤ (pos units) *ℤ pos (2 ^ 64) ≡ negsuc n +ℤ pos (units * 2 ^ 64) =
    ap (λ t. negsuc n -ℤ t) (neg-mul (pos units) (2 ^ 64))
    ∙ ap (λ t. negsuc n +ℤ t) (neg_ℤ-neg_ℤ (pos (units * 2 ^ 64))) in
    subst (FitsSigned w64) (sym turned) (far_fits n (units * 2 ^ 64) (units_below n) (units_above n))

-- The multiples of 2^64 in a coefficient.
pub units_fit : (n : ℕ) → n < 10 ^ 38 → (n + 2 ^ 63) / 2 ^ 64 < 2 ^ 63
units_fit n h = div_below (n + 2 ^ 63) (2 ^ 64) (2 ^ 63) (omega arith) (omega (arith, h))

-- The high part as code finds it, from the sign and the absolute value.
pub high_by : (z : ℤ) (m : ℕ) (b : Bool) → b ≡ is_negative z → m ≡ unsigned_abs z
    → signed_integer b (((if b then m - 1 else m) + 2 ^ 63) / 2 ^ 64) ≡ high_part z
high_by (pos n) m b s e = ap (λ t. signed_integer t (((if t then m - 1 else m) + 2 ^ 63) / 2 ^ 64)) s
    ∙ ap (λ t. pos ((t + 2 ^ 63) / 2 ^ 64)) e
high_by (negsuc n) m b s e =
    let less : m - 1 ≡ n = omega (arith, e) in
    ap (λ t. signed_integer t (((if t then m - 1 else m) + 2 ^ 63) / 2 ^ 64)) s
    ∙ ap (λ t. neg_ℤ (pos ((t + 2 ^ 63) / 2 ^ 64))) less

-- Numbers of 64 bits as those of 128 bits.
wider : (z : ℤ) → FitsSigned w64 z → FitsSigned w128 z
wider (pos n) fits = let small : n < 2 ^ 63 = fits.sfits in record { sfits = omega arith }
wider (negsuc n) fits = let small : n < 2 ^ 63 = fits.sfits in record { sfits = omega arith }

widened : (z : ℤ) → FitsSigned w64 z → to_z w128 (of_z w128 (to_z w64 (of_z w64 z))) ≡ z
widened z fits = ap (λ t. to_z w128 (of_z w128 t)) (to_z-of_z w64 z fits) ∙ to_z-of_z w128 z (wider z fits)

scaled_fits : (z : ℤ) → FitsSigned w64 z → FitsSigned w128 (z *ℤ pos (2 ^ 64))
scaled_fits (pos n) fits = let small : n < 2 ^ 63 = fits.sfits in record { sfits = omega arith }
scaled_fits (negsuc n) fits =
    let small : n < 2 ^ 63 = fits.sfits in
    let some : 0 < suc n * 2 ^ 64 = omega arith in
    subst (FitsSigned w128) (sym (negated_some (suc n * 2 ^ 64) some)) (record { sfits = omega arith })

scaled : (z : ℤ) → FitsSigned w64 z
    → to_z w128 (of_z w128 (to_z w128 (of_z w128 (to_z w64 (of_z w64 z))) *ℤ pos (2 ^ 64))) ≡ z *ℤ pos (2 ^ 64)
scaled z fits =
    ap (λ t. to_z w128 (of_z w128 (t *ℤ pos (2 ^ 64)))) (widened z fits)
    ∙ to_z-of_z w128 (z *ℤ pos (2 ^ 64)) (scaled_fits z fits)

-- The coefficient as code joins it.
pub joined_again : (low high z : ℤ) → FitsSigned w64 low
    → FitsSigned w64 high → unsigned_abs (number_of_halves low high) < 10 ^ 38
    → number_of_halves low high ≡ z → to_z w128 (of_z w128 (to_z w128 (of_z w128 (to_z w64 (of_z w64 low))) +ℤ to_z w128
    (of_z w128 (to_z w128 (of_z w128 (to_z w64 (of_z w64 high))) *ℤ pos (2 ^ 64))))) ≡ z
joined_again low high z f g bound e =
    ap (λ t. to_z w128 (of_z w128
    (t +ℤ to_z w128 (of_z w128 (to_z w128 (of_z w128 (to_z w64 (of_z w64 high))) *ℤ pos (2 ^ 64)))))) (widened low f)
    ∙ ap (λ t. to_z w128 (of_z w128 (low +ℤ t))) (scaled high g)
    ∙ to_z-of_z w128 (number_of_halves low high)
    (fits_signed_from_abs w128 (number_of_halves low high) (omega (arith, bound))) ∙ e

-- The low part as code finds it.
pub low_again : (z high : ℤ) → FitsSigned w128 z → FitsSigned w64 high
    → high ≡ high_part z → to_z w64 (of_z w64 (to_z w128 (of_z w128 (to_z w128 (of_z w128 z) -ℤ to_z w128
    (of_z w128 (to_z w128 (of_z w128 (to_z w64 (of_z w64 high))) *ℤ pos (2 ^ 64))))))) ≡ low_part z
low_again z high f g e =
    let kept : ℤ → ℤ = λ t. to_z w64 (of_z w64 (to_z w128 (of_z w128 t))) in
    ap (λ t. kept (t -ℤ to_z w128 (of_z w128 (to_z w128 (of_z w128 (to_z w64 (of_z w64 high))) *ℤ pos (2 ^ 64)))))
    (to_z-of_z w128 z f)
    ∙ ap (λ t. kept (z -ℤ t)) (scaled high g) ∙ ap (λ t. kept (z -ℤ t *ℤ pos (2 ^ 64))) e
    ∙ ap (λ t. to_z w64 (of_z w64 t)) (to_z-of_z w128 (low_part z) (wider (low_part z) (low_fits z)))
    ∙ to_z-of_z w64 (low_part z) (low_fits z)

rejoined_by : (z l h : ℤ) → l ≡ low_part z → h ≡ high_part z → number_of_halves l h ≡ z
rejoined_by z l h e f = ap (λ t. number_of_halves t h) e ∙ ap (number_of_halves (low_part z)) f ∙ number_of_halves_law z

pub parts_kept : (z l h : ℤ) (scale : ℕ) → l ≡ low_part z → h ≡ high_part z → unsigned_abs z < 10 ^ 38 → scale ≤ 18
    → (unsigned_abs (number_of_halves l h) < 10 ^ 38) × (scale ≤ 18) × FitsSigned w64 l
parts_kept z l h scale e f bound most = (
  subst (λ t. unsigned_abs t < 10 ^ 38) (sym (rejoined_by z l h e f)) bound,
  most,
  subst (FitsSigned w64) (sym e) (low_fits z),
)

abbrev number : ℤ → ℕ → Fraction
number z scale = record { coefficient = z; scale = scale }

pub parts_view : (z l h : ℤ) (scale : ℕ) → l ≡ low_part z → h ≡ high_part z
    → number (number_of_halves l h) scale ≡ number z scale
parts_view z l h scale e f = ap (λ t. number t scale) (rejoined_by z l h e f)
