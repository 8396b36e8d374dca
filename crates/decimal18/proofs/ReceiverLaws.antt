-- What a receiver keeps is the number truncated or rounded, or the low digits of that.
use Rattle.std.proofs.Common.{◌≡◌, ℕ, zero, suc, ◌+◌, ◌-◌, ◌*◌, ◌/◌, ◌%◌, ◌^◌, ◌<◌, ◌≤◌, Bool, true, false, refl, ap}
use Rattle.std.proofs.Common.{sym, ◌∙◌, arith, subst, pos, unsigned_abs, int_rem, if◌then◌else◌, Ok, nat_lt, nat_le}
use Rattle.std.proofs.Common.{inl, inr}
use Rattle.std.proofs.lemmas.Bool.{cases_lt, leb-true, leb-false, ltb-false, le-ltb}
use Rattle.std.proofs.lemmas.Nat.{div-add-mod', mod_below, le-div, div_below}
use Rattle.std.proofs.Math.Nat.{mul-le-mul_right, mul-lt-mul_of_pos_right, mul_assoc, pow-suc}
use Rattle.decimal18.specs.Fraction.{Fraction, signed_integer, is_negative}
use Rattle.decimal18.specs.Arithmetic.{size_error}
use Rattle.decimal18.specs.Receiver.{carry, digits_at, at_scale, fitted_decimal, low_digits}
use Rattle.decimal18.specs.Laws.{IsKept, HasLowDigits}
use Rattle.decimal18.specs.TotalOrder.{ten_pos}
use Rattle.decimal18.specs.declared.receiver.Rounding.{Rounding}
use Rattle.decimal18.specs.declared.receiver.Rounding.TheVariants.{Truncated, Rounded}
use Rattle.decimal18.proofs.Signs.{abs-signed, rem-signed}
use Rattle.decimal18.proofs.Powers.{split_power}
use Rattle.decimal18.proofs.Rounds.{rounded_up, not_rounded}
use Rattle.decimal18.proofs.SumLaws.{passed, inside, answer}

-- k times 10^s against m times 10^t: cut towards zero, or the nearest.
pub record Cut (k m s t : ℕ) : Type 0 where
  pub under : k * 10 ^ s ≤ m * 10 ^ t
  pub over : m * 10 ^ t < (k + 1) * 10 ^ s

record Near (k m s t : ℕ) : Type 0 where
  under : 2 * k * 10 ^ s ≤ 2 * m * 10 ^ t + 10 ^ s
  over : 2 * m * 10 ^ t < (2 * k + 1) * 10 ^ s

-- With zeros after it the number is as it was.
longer : (m s t : ℕ) → s ≤ t → m * 10 ^ (t - s) * 10 ^ s ≡ m * 10 ^ t
longer m s t h = mul_assoc m (10 ^ (t - s)) (10 ^ s) ∙ ap (λ n. m * n) (sym (split_power s t h))

cut_longer : (m s t k : ℕ) → s ≤ t → k ≡ m * 10 ^ (t - s) → Cut k m s t
cut_longer m s t k h e =
    let same : k * 10 ^ s ≡ m * 10 ^ t = ap (λ n. n * 10 ^ s) e ∙ longer m s t h in
    let unit : 0 < 10 ^ s = ten_pos s in
    record { under = omega (arith, same); over = omega (arith, same, unit) }

near_longer : (m s t k : ℕ) → s ≤ t → k ≡ m * 10 ^ (t - s) → Near k m s t
near_longer m s t k h e =
    let same : k * 10 ^ s ≡ m * 10 ^ t = ap (λ n. n * 10 ^ s) e ∙ longer m s t h in
    let unit : 0 < 10 ^ s = ten_pos s in
    record { under = omega (arith, same); over = omega (arith, same, unit) }

-- With digits dropped: bounds by the unit u = 10^(s - t), times p = 10^t.
cut_by : (v m u p : ℕ) → 0 < u → 0 < p → v ≡ m / u → (v * (u * p) ≤ m * p) × (m * p < (v + 1) * (u * p))
cut_by v m u p h k e =
    let whole : m / u * u + m % u ≡ m = div-add-mod' m u in
    let rest : m % u < u = mod_below m u h in
    let value : v * u ≡ m / u * u = ap (λ n. n * u) e in
    let low : v * u ≤ m = omega (arith, whole, value) in
    let high : m < (v + 1) * u = omega (arith, whole, value, rest) in
    (omega (arith, mul-le-mul_right p low), omega (arith, mul-lt-mul_of_pos_right high k))

pub cut_shorter : (m s t k : ℕ) → t ≤ s → k ≡ m / 10 ^ (s - t) → Cut k m s t
cut_shorter m s t k h e =
    let unit : 10 ^ s ≡ 10 ^ (s - t) * 10 ^ t = split_power t s h in
    let bounds = cut_by k m (10 ^ (s - t)) (10 ^ t) (ten_pos (s - t)) (ten_pos t) e in
    record {
      under = subst (λ n. k * n ≤ m * 10 ^ t) (sym unit) bounds.0;
      over = subst (λ n. m * 10 ^ t < (k + 1) * n) (sym unit) bounds.1;
    }

-- A number rounded up or not, by the dropped part r = m - v * u and half a unit h.
near_up : (v m u half p : ℕ) → 0 < p → u ≡ 2 * half → v * u ≤ m → m < (v + 1) * u → half ≤ m - v * u
    → (2 * (v + 1) * (u * p) ≤ 2 * m * p + u * p) × (2 * m * p < (2 * (v + 1) + 1) * (u * p))
near_up v m u half p k e low high above =
    let under : 2 * (v + 1) * u ≤ 2 * m + u = omega arith in
    let over : 2 * m < (2 * (v + 1) + 1) * u = omega arith in
    (omega (arith, mul-le-mul_right p under), omega (arith, mul-lt-mul_of_pos_right over k))

near_same : (v m u half p : ℕ) → 0 < p → u ≡ 2 * half → v * u ≤ m → m - v * u < half
    → (2 * v * (u * p) ≤ 2 * m * p + u * p) × (2 * m * p < (2 * v + 1) * (u * p))
near_same v m u half p k e low below =
    let under : 2 * v * u ≤ 2 * m + u = omega arith in
    let over : 2 * m < (2 * v + 1) * u = omega arith in
    (omega (arith, mul-le-mul_right p under), omega (arith, mul-lt-mul_of_pos_right over k))

half_of : (d : ℕ) → 0 < d → 10 ^ d ≡ 2 * (5 * 10 ^ (d - 1))
half_of zero h = absurd (omega arith)
half_of (suc j) h =
    let back : suc j - 1 ≡ j = omega arith in
    pow-suc 10 j ∙ omega arith ∙ ap (λ n. 2 * (5 * 10 ^ n)) (sym back)

near_shorter : (m s t k : ℕ) → t < s → k ≡ m / 10 ^ (s - t) + carry Rounded m (s - t) → Near k m s t
near_shorter m s t k h e =
    let d = s - t in
    let u = 10 ^ d in
    let v = m / u in
    let some : 0 < d = omega arith in
    let unit : 10 ^ s ≡ u * 10 ^ t = split_power t s (omega arith) in
    let whole : v * u + m % u ≡ m = div-add-mod' m u in
    let rest : m % u < u = mod_below m u (ten_pos d) in
    let low : v * u ≤ m = omega (arith, whole) in
    let high : m < (v + 1) * u = omega (arith, whole, rest) in
    elim (cases_lt (m - v * u) (5 * 10 ^ (d - 1))) [
      | inl below ↦
          let same : k ≡ v = e ∙ omega (arith, not_rounded m d some below) in
          let bounds = near_same v m u (5 * 10 ^ (d - 1)) (10 ^ t) (ten_pos t) (half_of d some) low below in
          record {
            under = subst (λ n. 2 * n * 10 ^ s ≤ 2 * m * 10 ^ t + 10 ^ s) (sym same)
                (subst (λ n. 2 * v * n ≤ 2 * m * 10 ^ t + n) (sym unit) bounds.0);
            over = subst (λ n. 2 * m * 10 ^ t < (2 * n + 1) * 10 ^ s) (sym same)
                (subst (λ n. 2 * m * 10 ^ t < (2 * v + 1) * n) (sym unit) bounds.1);
          }
      | inr above ↦
          let more : k ≡ v + 1 = e ∙ omega (arith, rounded_up m d some above) in
          let bounds = near_up v m u (5 * 10 ^ (d - 1)) (10 ^ t) (ten_pos t) (half_of d some) low high above in
          record {
            under = subst (λ n. 2 * n * 10 ^ s ≤ 2 * m * 10 ^ t + 10 ^ s) (sym more)
                (subst (λ n. 2 * (v + 1) * n ≤ 2 * m * 10 ^ t + n) (sym unit) bounds.0);
            over = subst (λ n. 2 * m * 10 ^ t < (2 * n + 1) * 10 ^ s) (sym more)
                (subst (λ n. 2 * m * 10 ^ t < (2 * (v + 1) + 1) * n) (sym unit) bounds.1);
          }
    ]

cut_of : (m s t k : ℕ) (b : Bool) → nat_le s t ≡ b
    → k ≡ (if b then m * 10 ^ (t - s) else m / 10 ^ (s - t) + carry Truncated m (s - t)) → Cut k m s t
cut_of m s t k true h e = cut_longer m s t k (leb-true s t h) e
cut_of m s t k false h e = cut_shorter m s t k (omega (arith, leb-false s t h)) (e ∙ omega arith)

near_of : (m s t k : ℕ) (b : Bool) → nat_le s t ≡ b
    → k ≡ (if b then m * 10 ^ (t - s) else m / 10 ^ (s - t) + carry Rounded m (s - t)) → Near k m s t
near_of m s t k true h e = near_longer m s t k (leb-true s t h) e
near_of m s t k false h e = near_shorter m s t k (leb-false s t h) e

kept_at : (x : Fraction) (scale : ℕ) (rounding : Rounding)
    → IsKept rounding x (record { coefficient = at_scale x scale rounding; scale = scale })
kept_at x scale Truncated =
    let m = unsigned_abs x.coefficient in
    let k = digits_at m x.scale scale Truncated in
    let size : unsigned_abs (signed_integer (is_negative x.coefficient) k) ≡ k =
    abs-signed (is_negative x.coefficient) k in
    let bounds = cut_of m x.scale scale (unsigned_abs (signed_integer (is_negative x.coefficient) k))
    (nat_le x.scale scale) refl size in
    record {
      sign = ap (signed_integer (is_negative x.coefficient)) (sym size);
      not_over = bounds.under;
      close = bounds.over;
    }
kept_at x scale Rounded =
    let m = unsigned_abs x.coefficient in
    let k = digits_at m x.scale scale Rounded in
    let size : unsigned_abs (signed_integer (is_negative x.coefficient) k) ≡ k =
    abs-signed (is_negative x.coefficient) k in
    let bounds = near_of m x.scale scale (unsigned_abs (signed_integer (is_negative x.coefficient) k))
    (nat_le x.scale scale) refl size in
    record {
      sign = ap (signed_integer (is_negative x.coefficient)) (sym size);
      not_under = bounds.under;
      close = bounds.over;
    }

pub fitted_kept : (x z : Fraction) (digits scale : ℕ) (rounding : Rounding)
    → fitted_decimal x digits scale rounding ≡ Ok z → (z.scale ≡ scale) × IsKept rounding x z
unfolding fitted_decimal
fitted_kept x z digits scale rounding e =
    let held : Fraction = record { coefficient = at_scale x scale rounding; scale = scale } in
    let is : held ≡ z =
    inside held z (passed (nat_lt (unsigned_abs (at_scale x scale rounding)) (10 ^ digits)) (Ok held) z e).1 in
    (sym (ap (λ (w : Fraction). w.scale) is), subst (IsKept rounding x) is (kept_at x scale rounding))

-- More whole digits than a receiver has.
whole_digits : (n digits scale : ℕ) → scale ≤ digits → 10 ^ digits ≤ n → 10 ^ (digits - scale) ≤ n / 10 ^ scale
whole_digits n digits scale h above =
    le-div (10 ^ (digits - scale)) n (10 ^ scale) (ten_pos scale)
    (subst (λ m. m ≤ n) (split_power scale digits h) above)

fewer_digits : (n digits scale : ℕ) → scale ≤ digits → n < 10 ^ digits → n / 10 ^ scale < 10 ^ (digits - scale)
fewer_digits n digits scale h below =
    div_below n (10 ^ scale) (10 ^ (digits - scale)) (ten_pos scale)
    (subst (λ m. n < m) (split_power scale digits h) below)

refused_by : (n limit : ℕ) (z : Fraction) (b : Bool) → nat_lt n limit ≡ b
    → (if b then answer z else size_error) ≡ size_error → limit ≤ n
refused_by n limit z true t e = cc
refused_by n limit z false t e = ltb-false n limit t

pub fitted_size : (x : Fraction) (digits scale : ℕ) (rounding : Rounding) → scale ≤ digits → (fitted_decimal x
    digits scale rounding ≡ size_error → 10 ^ (digits - scale) ≤ unsigned_abs (at_scale x scale rounding) / 10 ^ scale)
    × (10 ^ (digits - scale) ≤ unsigned_abs (at_scale x scale rounding) / 10 ^ scale
    → fitted_decimal x digits scale rounding ≡ size_error)
unfolding fitted_decimal
fitted_size x digits scale rounding h =
    let n = unsigned_abs (at_scale x scale rounding) in
    let held : Fraction = record { coefficient = at_scale x scale rounding; scale = scale } in (
      (λ e. whole_digits n digits scale h (refused_by n (10 ^ digits) held (nat_lt n (10 ^ digits)) refl e)),
      (λ above. elim (cases_lt n (10 ^ digits)) [
        | inl below ↦ absurd (omega (arith, fewer_digits n digits scale h below))
        | inr over ↦ ap (λ b. if b then answer held else size_error) (le-ltb n (10 ^ digits) over)
      ]),
    )

pub low_kept : (x : Fraction) (digits scale : ℕ) (rounding : Rounding)
    → HasLowDigits digits (at_scale x scale rounding) (low_digits x digits scale rounding).coefficient
unfolding low_digits
low_kept x digits scale rounding =
    let n = digits_at (unsigned_abs x.coefficient) x.scale scale rounding in
    let sign = is_negative x.coefficient in
    let size : unsigned_abs (int_rem (signed_integer sign n) (pos (10 ^ digits))) ≡ n % 10 ^ digits =
    ap unsigned_abs (rem-signed sign n (10 ^ digits)) ∙ abs-signed sign (n % 10 ^ digits) in
    record {
      below = subst (λ m. m < 10 ^ digits) (sym size) (mod_below n (10 ^ digits) (ten_pos digits));
      rest = (
        n / 10 ^ digits,
        abs-signed sign n ∙ sym (div-add-mod' n (10 ^ digits)) ∙ ap (λ m. n / 10 ^ digits * 10 ^ digits + m) (sym size),
      );
    }

pub low_sign : (x : Fraction) (digits scale : ℕ) (rounding : Rounding)
    → (low_digits x digits scale rounding).coefficient ≡ signed_integer (is_negative x.coefficient)
    (unsigned_abs (low_digits x digits scale rounding).coefficient)
unfolding low_digits
low_sign x digits scale rounding =
    let n = digits_at (unsigned_abs x.coefficient) x.scale scale rounding in
    let sign = is_negative x.coefficient in
    let is = rem-signed sign n (10 ^ digits) in
    is ∙ ap (signed_integer sign) (sym (ap unsigned_abs is ∙ abs-signed sign (n % 10 ^ digits)))
