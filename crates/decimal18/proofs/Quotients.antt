-- What code divides, and what it makes of the result.
use Rattle.std.proofs.Common.{◌≡◌, ℕ, ◌+◌, ◌-◌, ◌*◌, ◌/◌, ◌^◌, ◌≤◌, Bool, true, false, not, refl, ap, sym}
use Rattle.std.proofs.Common.{◌∙◌, suc, ℤ, pos, negsuc, ◌*ℤ◌, int_div, unsigned_abs, nat_le, ◌&&◌}
use mathlib.Core.Bool.{beq}
use Rattle.std.proofs.lemmas.Bool.{leb-true}
use Rattle.decimal18.specs.Fraction.{Fraction, signed_integer, is_negative}
use Rattle.decimal18.specs.Quotient.{admits, extended_dividend}
use Rattle.decimal18.proofs.Signs.{div-signed}
use Rattle.decimal18.proofs.QuotientLaws.{div-both}

left : (a b : Bool) → (a && b) ≡ true → a ≡ true
left true b e = refl
left false b e = e

-- An admitted scale takes some zeros or none.
pub zeros_taken : (x y : Fraction) (q : ℕ) → admits x y q ≡ true → x.scale ≤ q + y.scale
zeros_taken x y q h = leb-true x.scale (q + y.scale) (left (nat_le x.scale (q + y.scale)) _ h)

-- The quotient of absolute values has the sign that makes it the quotient.
by_signs : (x y : ℤ) (k : ℕ)
    → signed_integer (not (beq (is_negative x) (is_negative y))) (unsigned_abs x * k / unsigned_abs y)
    ≡ int_div (x *ℤ pos k) y
by_signs (pos a) (pos b) k = refl
by_signs (pos a) (negsuc b) k = refl
by_signs (negsuc a) (pos b) k = sym (div-signed true (suc a * k) b)
by_signs (negsuc a) (negsuc b) k = sym (div-both (suc a * k) b)

abbrev pub number : ℕ → ℤ → Fraction
number scale z = record { coefficient = z; scale = scale }

pub quotient_made : (x y : Fraction) (scale m k p d q : ℕ) (a b : Bool) (z : ℤ) → m ≡ unsigned_abs x.coefficient
    → k ≡ scale + y.scale - x.scale → p ≡ 10 ^ k → d ≡ unsigned_abs y.coefficient
    → a ≡ is_negative x.coefficient → b ≡ is_negative y.coefficient → z ≡ signed_integer (not (beq a b)) q
    → q ≡ m * p / d
    → number scale z ≡ number scale (int_div (extended_dividend x y scale) y.coefficient)
quotient_made x y scale m k p d q a b z em ek ep ed ea eb ez eq =
    let unit = 10 ^ (scale + y.scale - x.scale) in
    let value : q ≡ unsigned_abs x.coefficient * unit / unsigned_abs y.coefficient =
    eq ∙ ap (λ n. m * p / n) ed ∙ ap (λ n. n * p / unsigned_abs y.coefficient) em
    ∙ ap (λ n. unsigned_abs x.coefficient * n / unsigned_abs y.coefficient) (ep ∙ ap (λ n. 10 ^ n) ek) in
    ap (number scale) (ez ∙ ap (λ t. signed_integer (not (beq t b)) q) ea
    ∙ ap (λ t. signed_integer (not (beq (is_negative x.coefficient) t)) q) eb
    ∙ ap (signed_integer (not (beq (is_negative x.coefficient) (is_negative y.coefficient)))) value
    ∙ by_signs x.coefficient y.coefficient unit)
