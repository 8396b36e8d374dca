-- Signed numbers by their sign and absolute value.
use Rattle.std.proofs.Common.{◌≡◌, ℕ, zero, suc, ◌/◌, ◌%◌, ◌^◌, Bool, true, false, refl, ap, sym, ◌∙◌, arith, ℤ, pos}
use Rattle.std.proofs.Common.{negsuc, neg_ℤ, unsigned_abs, int_div, int_rem, nat_lt, FitsSigned, inl, inr}
use Rattle.std.specs.Int.{w128}
use Rattle.std.specs.Int.Signed.{lt_z}
use mir.Val.{SFits}
use Rattle.std.proofs.Math.Nat.{zero-div, zero-mod}
use Rattle.std.proofs.lemmas.Int.{fits_signed_from_abs}
use Rattle.std.proofs.lemmas.Bool.{cases_lt, le-ltb}
use Rattle.decimal18.specs.Fraction.{signed_integer, is_negative}
use Rattle.decimal18.specs.Arithmetic.{is_within}

pub signed_itself : (z : ℤ) → signed_integer (is_negative z) (unsigned_abs z) ≡ z
signed_itself (pos n) = refl
signed_itself (negsuc n) = refl

pub abs-signed : (b : Bool) (n : ℕ) → unsigned_abs (signed_integer b n) ≡ n
abs-signed false n = refl
abs-signed true zero = refl
abs-signed true (suc n) = refl

pub abs-neg : (z : ℤ) → unsigned_abs (neg_ℤ z) ≡ unsigned_abs z
abs-neg (pos zero) = refl
abs-neg (pos (suc n)) = refl
abs-neg (negsuc n) = refl

pub div-signed : (b : Bool) (n d : ℕ) → int_div (signed_integer b n) (pos d) ≡ signed_integer b (n / d)
div-signed false n d = refl
div-signed true zero d = ap pos (zero-div d) ∙ sym (ap (λ m. neg_ℤ (pos m)) (zero-div d))
div-signed true (suc n) d = refl

pub rem-signed : (b : Bool) (n d : ℕ) → int_rem (signed_integer b n) (pos d) ≡ signed_integer b (n % d)
rem-signed false n d = refl
rem-signed true zero d = ap pos (zero-mod d) ∙ sym (ap (λ m. neg_ℤ (pos m)) (zero-mod d))
rem-signed true (suc n) d = refl

pub within_signed : (b : Bool) (n : ℕ) → is_within (signed_integer b n) ≡ nat_lt n (10 ^ 38)
within_signed b n = ap (λ m. nat_lt m (10 ^ 38)) (abs-signed b n)

-- What is no i128 is past the limit.
pub not_within : (z : ℤ) → (FitsSigned w128 z → ⊥) → is_within z ≡ false
not_within z h = elim (cases_lt (unsigned_abs z) (10 ^ 38)) [
  | inl below ↦ absurd (h (fits_signed_from_abs w128 z (omega (arith, below))))
  | inr above ↦ le-ltb (unsigned_abs z) (10 ^ 38) above
]

pub below_zero : (z : ℤ) → lt_z z (pos 0) ≡ is_negative z
below_zero (pos n) = le-ltb n 0 (omega arith)
below_zero (negsuc n) = refl

-- The sign and the absolute value of a number, as code finds them by `z < 0` and `z.unsigned_abs()`.
pub seen : (z y : ℤ) → SFits w128 z → y ≡ z → signed_integer (lt_z y (pos 0)) (unsigned_abs y) ≡ z
seen z y fits e = ap (λ t. signed_integer t (unsigned_abs y)) (below_zero y) ∙ signed_itself y ∙ e
