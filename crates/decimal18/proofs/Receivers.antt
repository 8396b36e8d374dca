-- What a receiver holds, by sign and digits.
use Rattle.std.proofs.Common.{◌≡◌, ℕ, IfOk, refl, inl, inr, Bool, subst, ◌-◌, ◌/◌, ◌%◌, ◌^◌, ◌<◌, ◌≤◌, ap, sym, ◌∙◌}
use Rattle.std.proofs.Common.{unsigned_abs, ℤ, pos, int_div, nat_lt, if◌then◌else◌, Result, Ok}
use Rattle.std.proofs.lemmas.Bool.{le-leb, lt-leb, cases_lt, lt-ltb, le-ltb}
use Rattle.std.proofs.lemmas.Nat.{mod_below}
use Rattle.decimal18.specs.TotalOrder.{ten_pos}
use Rattle.decimal18.specs.Fraction.{Fraction, is_negative, of_parts, signed_integer}
use Rattle.decimal18.specs.Arithmetic.{size_error}
use Rattle.decimal18.specs.Receiver.{digits_at, at_scale, fitted_decimal, low_digits, truncated_decimal}
use Rattle.decimal18.specs.declared.size_error.Size.{Size}
use Rattle.decimal18.specs.declared.receiver.Rounding.{Rounding}
use Rattle.decimal18.proofs.Signs.{abs-signed, div-signed, rem-signed, signed_itself}

pub fitted_by : (x : Fraction) (digits scale : ℕ) (rounding : Rounding) → fitted_decimal x digits scale rounding
    ≡ (if nat_lt (digits_at (unsigned_abs x.coefficient) x.scale scale rounding) (10 ^ digits) then Ok (record {
      coefficient =
          signed_integer (is_negative x.coefficient) (digits_at (unsigned_abs x.coefficient) x.scale scale rounding);
      scale = scale;
    }) else size_error)
unfolding fitted_decimal
fitted_by x digits scale rounding =
    let held : Result Fraction Size = Ok (record { coefficient = at_scale x scale rounding; scale = scale }) in
    ap (λ n. if nat_lt n (10 ^ digits) then held else size_error)
    (abs-signed (is_negative x.coefficient) (digits_at (unsigned_abs x.coefficient) x.scale scale rounding))

pub low_by : (x : Fraction) (digits scale : ℕ) (rounding : Rounding) → low_digits x digits scale rounding ≡ record {
  coefficient = signed_integer (is_negative x.coefficient)
      (digits_at (unsigned_abs x.coefficient) x.scale scale rounding % 10 ^ digits);
  scale = scale;
}
unfolding low_digits
low_by x digits scale rounding =
    let kept : ℤ → Fraction = λ z. record { coefficient = z; scale = scale } in
    ap kept (rem-signed (is_negative x.coefficient) (digits_at (unsigned_abs x.coefficient) x.scale scale rounding)
    (10 ^ digits))

pub truncated_same : (x : Fraction) (scale : ℕ) → x.scale ≤ scale → truncated_decimal x scale ≡ x
unfolding truncated_decimal
truncated_same x scale h =
    let short : Fraction =
    record { coefficient = int_div x.coefficient (pos (10 ^ (x.scale - scale))); scale = scale } in
    ap (λ b. if b then x else short) (le-leb x.scale scale h)

pub truncated_by : (x : Fraction) (scale : ℕ) → scale < x.scale → truncated_decimal x scale ≡ record {
  coefficient = signed_integer (is_negative x.coefficient) (unsigned_abs x.coefficient / 10 ^ (x.scale - scale));
  scale = scale;
}
unfolding truncated_decimal
truncated_by x scale h =
    let at : ℤ → Fraction = λ z. record { coefficient = z; scale = scale } in
    let unit = pos (10 ^ (x.scale - scale)) in
    ap (λ b. if b then x else at (int_div x.coefficient unit)) (lt-leb x.scale scale h)
    ∙ ap (λ z. at (int_div z unit)) (sym (signed_itself x.coefficient))
    ∙ ap at (div-signed (is_negative x.coefficient) (unsigned_abs x.coefficient) (10 ^ (x.scale - scale)))

pub parts_below : (b : Bool) (n digits : ℕ) → n < 10 ^ digits → unsigned_abs (signed_integer b n) < 10 ^ digits
parts_below b n digits h = subst (λ m. m < 10 ^ digits) (sym (abs-signed b n)) h

-- What is held is below the limit, and has the receiver's scale.
pub fitted_below : (x : Fraction) (digits scale : ℕ) (rounding : Rounding)
    → IfOk (fitted_decimal x digits scale rounding) (λ kept. unsigned_abs kept.coefficient < 10 ^ digits)
unfolding fitted_decimal
fitted_below x digits scale rounding =
    let n = unsigned_abs (at_scale x scale rounding) in
    let held : Result Fraction Size = Ok (record { coefficient = at_scale x scale rounding; scale = scale }) in
    let P : Result Fraction Size → Type 0 = λ r. IfOk r (λ kept. unsigned_abs kept.coefficient < 10 ^ digits) in
    elim (cases_lt n (10 ^ digits)) [
      | inl below ↦ subst P (sym (ap (λ b. if b then held else size_error) (lt-ltb n (10 ^ digits) below))) below
      | inr over ↦ subst P (sym (ap (λ b. if b then held else size_error) (le-ltb n (10 ^ digits) over))) tt
    ]

pub fitted_at : (x : Fraction) (digits scale : ℕ) (rounding : Rounding)
    → IfOk (fitted_decimal x digits scale rounding) (λ kept. kept.scale ≡ scale)
unfolding fitted_decimal
fitted_at x digits scale rounding =
    let n = unsigned_abs (at_scale x scale rounding) in
    let held : Result Fraction Size = Ok (record { coefficient = at_scale x scale rounding; scale = scale }) in
    let P : Result Fraction Size → Type 0 = λ r. IfOk r (λ kept. kept.scale ≡ scale) in
    elim (cases_lt n (10 ^ digits)) [
      | inl below ↦ subst P (sym (ap (λ b. if b then held else size_error) (lt-ltb n (10 ^ digits) below))) refl
      | inr over ↦ subst P (sym (ap (λ b. if b then held else size_error) (le-ltb n (10 ^ digits) over))) tt
    ]

pub low_below_limit : (x : Fraction) (digits scale : ℕ) (rounding : Rounding)
    → unsigned_abs (low_digits x digits scale rounding).coefficient < 10 ^ digits
low_below_limit x digits scale rounding =
    let n = digits_at (unsigned_abs x.coefficient) x.scale scale rounding in
    let size : unsigned_abs (low_digits x digits scale rounding).coefficient ≡ n % 10 ^ digits =
    ap (λ (f : Fraction). unsigned_abs f.coefficient) (low_by x digits scale rounding)
    ∙ abs-signed (is_negative x.coefficient) (n % 10 ^ digits) in
    subst (λ m. m < 10 ^ digits) (sym size) (mod_below n (10 ^ digits) (ten_pos digits))

pub low_at : (x : Fraction) (digits scale : ℕ) (rounding : Rounding)
    → (low_digits x digits scale rounding).scale ≡ scale
unfolding low_digits
low_at x digits scale rounding = refl

-- The same of what a call returned.
pub held_below : (x : Fraction) (digits scale : ℕ) (rounding : Rounding) (r : Result Fraction Size)
    → r ≡ fitted_decimal x digits scale rounding → IfOk r (λ kept. unsigned_abs kept.coefficient < 10 ^ digits)
held_below x digits scale rounding r e =
    subst (λ r. IfOk r (λ kept. unsigned_abs kept.coefficient < 10 ^ digits)) (sym e)
    (fitted_below x digits scale rounding)

pub held_at : (x : Fraction) (digits scale : ℕ) (rounding : Rounding) (r : Result Fraction Size)
    → r ≡ fitted_decimal x digits scale rounding → IfOk r (λ kept. kept.scale ≡ scale)
held_at x digits scale rounding r e =
    subst (λ r. IfOk r (λ kept. kept.scale ≡ scale)) (sym e) (fitted_at x digits scale rounding)

pub kept_below : (x : Fraction) (digits scale : ℕ) (rounding : Rounding) (z : Fraction)
    → z ≡ low_digits x digits scale rounding → unsigned_abs z.coefficient < 10 ^ digits
kept_below x digits scale rounding z e =
    subst (λ (f : Fraction). unsigned_abs f.coefficient < 10 ^ digits) (sym e) (low_below_limit x digits scale rounding)

pub kept_at : (x : Fraction) (digits scale : ℕ) (rounding : Rounding) (z : Fraction)
    → z ≡ low_digits x digits scale rounding → z.scale ≡ scale
kept_at x digits scale rounding z e =
    ap (λ (f : Fraction). f.scale) e ∙ low_at x digits scale rounding

-- The number of low digits, by its sign and its digits.
pub low_made : (x : Fraction) (digits scale : ℕ) (rounding : Rounding) (b : Bool) (m from kept : ℕ) (z : Fraction)
    → b ≡ is_negative x.coefficient → m ≡ unsigned_abs x.coefficient → from ≡ x.scale
    → kept ≡ digits_at m from scale rounding % 10 ^ digits → z ≡ of_parts b kept scale
    → z ≡ low_digits x digits scale rounding
low_made x digits scale rounding b m from kept z eb em ef ek ez =
    let same : kept ≡ digits_at (unsigned_abs x.coefficient) x.scale scale rounding % 10 ^ digits = ek
    ∙ ap (λ n. digits_at n from scale rounding % 10 ^ digits) em
    ∙ ap (λ n. digits_at (unsigned_abs x.coefficient) n scale rounding % 10 ^ digits) ef in
    ez ∙ ap (λ t. of_parts t kept scale) eb ∙ ap (λ n. of_parts (is_negative x.coefficient) n scale) same
    ∙ sym (low_by x digits scale rounding)
