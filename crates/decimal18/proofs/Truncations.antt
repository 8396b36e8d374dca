-- A number cut at a scale, in the words of fractions.
use Rattle.std.proofs.Common.{◌≡◌, ℕ, ◌+◌, ◌-◌, ◌/◌, ◌^◌, ◌<◌, ◌≤◌, min, refl, ap, sym, ◌∙◌, arith, subst, unsigned_abs}
use Rattle.std.proofs.Common.{inl, inr}
use Rattle.std.proofs.lemmas.Bool.{cases_lt}
use Rattle.std.proofs.Math.Nat.{div-div-eq-div-mul, mul-lt-mul_of_pos_right}
use Rattle.decimal18.specs.Fraction.{Fraction, signed_integer, is_negative}
use Rattle.decimal18.specs.Receiver.{truncated_decimal}
use Rattle.decimal18.specs.Laws.{IsTruncation}
use Rattle.decimal18.specs.TotalOrder.{ten_pos}
use Rattle.decimal18.proofs.Powers.{split_power}
use Rattle.decimal18.proofs.ReceiverLaws.{cut_shorter}
use Rattle.decimal18.proofs.Receivers.{truncated_by, truncated_same}
use Rattle.decimal18.proofs.Signs.{abs-signed, signed_itself}

-- The number with fewer decimals.
abbrev shorter : Fraction → ℕ → Fraction
shorter x scale = record {
  coefficient = signed_integer (is_negative x.coefficient) (unsigned_abs x.coefficient / 10 ^ (x.scale - scale));
  scale = scale;
}

itself_cut : (x : Fraction) → IsTruncation x x
itself_cut x =
    let m = unsigned_abs x.coefficient in
    let more : m < m + 1 = omega arith in
    record {
      sign = sym (signed_itself x.coefficient);
      not_over = omega arith;
      close = mul-lt-mul_of_pos_right more (ten_pos x.scale);
    }

shorter_cut : (x : Fraction) (scale : ℕ) → scale < x.scale → IsTruncation x (shorter x scale)
shorter_cut x scale h =
    let k = unsigned_abs x.coefficient / 10 ^ (x.scale - scale) in
    let sign = is_negative x.coefficient in
    let size : unsigned_abs (signed_integer sign k) ≡ k = abs-signed sign k in
    let below : scale ≤ x.scale = omega arith in
    let bounds =
    cut_shorter (unsigned_abs x.coefficient) x.scale scale (unsigned_abs (signed_integer sign k)) below size in
    record { sign = ap (signed_integer sign) (sym size); not_over = bounds.under; close = bounds.over }

pub truncated_cut : (x : Fraction) (scale : ℕ) → ((truncated_decimal x scale).scale ≡ min x.scale scale)
    × IsTruncation x (truncated_decimal x scale)
truncated_cut x scale =
    let P : Fraction → Type 0 = λ w. (w.scale ≡ min x.scale scale) × IsTruncation x w in
    elim (cases_lt scale x.scale) [
      | inl below ↦ subst P (sym (truncated_by x scale below)) (omega arith, shorter_cut x scale below)
      | inr above ↦ subst P (sym (truncated_same x scale above)) (omega arith, itself_cut x)
    ]

shorter_whole : (x : Fraction) (scale : ℕ) → scale < x.scale
    → unsigned_abs (shorter x scale).coefficient / 10 ^ scale ≡ unsigned_abs x.coefficient / 10 ^ x.scale
shorter_whole x scale h =
    let m = unsigned_abs x.coefficient in
    let below : scale ≤ x.scale = omega arith in
    ap (λ t. t / 10 ^ scale) (abs-signed (is_negative x.coefficient) (m / 10 ^ (x.scale - scale)))
    ∙ div-div-eq-div-mul m (10 ^ (x.scale - scale)) (10 ^ scale)
    ∙ ap (λ t. m / t) (sym (split_power scale x.scale below))

pub truncated_whole : (x : Fraction) (scale : ℕ) → unsigned_abs (truncated_decimal x scale).coefficient / 10 ^
    (truncated_decimal x scale).scale ≡ unsigned_abs x.coefficient / 10 ^ x.scale
truncated_whole x scale =
    let P : Fraction → Type 0 =
    λ w. unsigned_abs w.coefficient / 10 ^ w.scale ≡ unsigned_abs x.coefficient / 10 ^ x.scale in
    elim (cases_lt scale x.scale) [
      | inl below ↦ subst P (sym (truncated_by x scale below)) (shorter_whole x scale below)
      | inr above ↦ subst P (sym (truncated_same x scale above)) refl
    ]
