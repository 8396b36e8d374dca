-- A product is the exact one cut towards zero.
use Rattle.std.proofs.Common.{◌≡◌, ℕ, ◌+◌, ◌-◌, ◌/◌, ◌^◌, ◌≤◌, min, refl, ap, sym, ◌∙◌, arith, subst, ℤ, pos, ◌*ℤ◌}
use Rattle.std.proofs.Common.{int_div, unsigned_abs, Ok}
use Rattle.decimal18.specs.Fraction.{Fraction, signed_integer, is_negative}
use Rattle.decimal18.specs.Arithmetic.{product, is_within}
use Rattle.decimal18.specs.Laws.{IsTruncation, times}
use Rattle.decimal18.proofs.ReceiverLaws.{cut_shorter}
use Rattle.decimal18.proofs.Signs.{abs-signed, div-signed, signed_itself}
use Rattle.decimal18.proofs.SumLaws.{passed, inside}

abbrev limited : ℤ → ℕ → Fraction
limited v s = record { coefficient = int_div v (pos (10 ^ (s - 18))); scale = min s 18 }

limited_cut : (v : ℤ) (s : ℕ) → IsTruncation (record { coefficient = v; scale = s }) (limited v s)
limited_cut v s =
    let m = unsigned_abs v in
    let d = 10 ^ (s - 18) in
    let value : int_div v (pos d) ≡ signed_integer (is_negative v) (m / d) =
    ap (λ t. int_div t (pos d)) (sym (signed_itself v)) ∙ div-signed (is_negative v) m d in
    let size : unsigned_abs (int_div v (pos d)) ≡ m / d = ap unsigned_abs value ∙ abs-signed (is_negative v) (m / d) in
    let least : min s 18 ≤ s = omega arith in
    let dropped : s - 18 ≡ s - min s 18 = omega arith in
    let bounds =
    cut_shorter m s (min s 18) (unsigned_abs (int_div v (pos d))) least (size ∙ ap (λ n. m / 10 ^ n) dropped) in
    record {
      sign = value ∙ ap (signed_integer (is_negative v)) (sym size);
      not_over = bounds.under;
      close = bounds.over;
    }

pub product_cut : (x y z : Fraction) → product x y ≡ Ok z → (z.scale ≡ min (x.scale + y.scale) 18)
    × IsTruncation (times x y) z
unfolding product
product_cut x y z e =
    let v = x.coefficient *ℤ y.coefficient in
    let s = x.scale + y.scale in
    let is : limited v s ≡ z = inside (limited v s) z (passed (is_within v) (Ok (limited v s)) z e).1 in
    subst (λ (w : Fraction). (w.scale ≡ min s 18) × IsTruncation (times x y) w) is (refl, limited_cut v s)
