-- A difference is the sum with the other sign.
use Rattle.std.proofs.Common.{◌≡◌, ℕ, zero, suc, ◌*◌, ◌-◌, ◌^◌, max, refl, ap, sym, ◌∙◌, ℤ, pos, negsuc, neg_ℤ, ◌*ℤ◌}
use Rattle.std.proofs.Common.{◌+ℤ◌, nat_lt, if◌then◌else◌, ◌&&◌}
use Rattle.std.proofs.Math.Nat.{zero-mul}
use Rattle.std.proofs.Math.IntN.{neg_ℤ-neg_ℤ}
use Rattle.decimal18.specs.Fraction.{Fraction, aligned_coefficient}
use Rattle.decimal18.specs.Arithmetic.{sum, difference, opposite_of, is_within, intermediate, size_error}
use Rattle.decimal18.proofs.Signs.{abs-neg}

pub neg-mul : (z : ℤ) (p : ℕ) → neg_ℤ z *ℤ pos p ≡ neg_ℤ (z *ℤ pos p)
neg-mul (pos zero) p = ap pos (zero-mul p) ∙ sym (ap (λ m. neg_ℤ (pos m)) (zero-mul p))
neg-mul (pos (suc n)) p = refl
neg-mul (negsuc n) p = sym (neg_ℤ-neg_ℤ (pos (suc n * p)))

pub as_sum : (x y : Fraction) → difference x y ≡ sum x (opposite_of y)
unfolding sum difference
as_sum x y =
    let scale = max x.scale y.scale in
    let turned : aligned_coefficient (opposite_of y) scale ≡ neg_ℤ (aligned_coefficient y scale) =
    neg-mul y.coefficient (10 ^ (scale - y.scale)) in
    let same : is_within (aligned_coefficient (opposite_of y) scale) ≡ is_within (aligned_coefficient y scale) =
    ap is_within turned ∙ ap (λ m. nat_lt m (10 ^ 38)) (abs-neg (aligned_coefficient y scale)) in
    ap (λ b. if is_within (aligned_coefficient x scale) && b then intermediate
    (aligned_coefficient x scale +ℤ neg_ℤ (aligned_coefficient y scale)) scale else size_error) (sym same)
    ∙ ap (λ z. if is_within (aligned_coefficient x scale) && is_within (aligned_coefficient (opposite_of y) scale)
    then intermediate (aligned_coefficient x scale +ℤ z) scale else size_error) (sym turned)
