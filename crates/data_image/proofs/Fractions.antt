-- Decimal numbers, read and spelled.
use Rattle.std.proofs.Common.{◌≡◌, ℕ, zero, suc, ◌^◌, ◌<◌, ◌≤◌, Bool, true, false, cond, List, [], ◌∷◌, ◌++◌, Ok, Err}
use Rattle.std.proofs.Common.{refl, ap, subst, ◌∙◌, append_assoc, arith}
use Rattle.std.specs.Prelude.{ℤ, pos, negsuc, unsigned_abs, nat_lt, nat_le, not, ◌&&◌, ◌==◌}
use Rattle.std.proofs.Math.Dec.{eqb-suc-zero}
use Rattle.std.proofs.lemmas.Bool.{ltb-true, leb-true, lt-ltb, le-leb}
use Rattle.decimal18.specs.Fraction.{Fraction, is_negative, signed_integer, of_parts}
use Rattle.data_image.specs.declared.fault.ImageFault.TheVariants as faults
use Rattle.data_image.specs.Spelling.{IsBytes, wide_bytes, flag_byte}
use Rattle.data_image.specs.Reading.{ReadResult, ◌>>=◌, byte_at, wide_at}
use Rattle.data_image.specs.Fractions.{fraction_bytes, IsFractionSpelled, is_fraction, fraction_at}
use Rattle.data_image.proofs.Forms.{guard_passed, Takes, takes_then, IsForm, part, part_again, Took, form_of}
use Rattle.data_image.proofs.Numbers.{byte_form, flag_form, wide_form}

both : (a b : Bool) → a && b ≡ true → (a ≡ true) × (b ≡ true)
both true true e = (refl, refl)
both true false e = absurd cc
both false b e = absurd cc

-- what the parts of a number say
record Says (negative : Bool) (magnitude scale : ℕ) : Type 0 where
  sign : is_negative (signed_integer negative magnitude) ≡ negative
  absolute : unsigned_abs (signed_integer negative magnitude) ≡ magnitude
  low : magnitude < 10 ^ 38
  most : scale ≤ 18

signed_is : (negative : Bool) (magnitude : ℕ) → not (negative && magnitude == 0) ≡ true
    → (is_negative (signed_integer negative magnitude) ≡ negative)
    × (unsigned_abs (signed_integer negative magnitude) ≡ magnitude)
signed_is false magnitude e = (refl, refl)
signed_is true zero e = absurd cc
signed_is true (suc n) e = (refl, refl)

says : (negative : Bool) (magnitude scale : ℕ) → is_fraction negative magnitude scale ≡ true
    → Says negative magnitude scale
says negative magnitude scale e =
    let a = both (nat_lt magnitude (10 ^ 38) && nat_le scale 18) (not (negative && magnitude == 0)) e in
    let b = both (nat_lt magnitude (10 ^ 38)) (nat_le scale 18) a.0 in
    let s = signed_is negative magnitude a.1 in
    record { sign = s.0; absolute = s.1; low = ltb-true _ _ b.0; most = leb-true _ _ b.1 }

-- the parts of a number, put together
whole : (z : ℤ) → signed_integer (is_negative z) (unsigned_abs z) ≡ z
whole (pos n) = refl
whole (negsuc n) = refl

not_minus_zero : (z : ℤ) → not (is_negative z && unsigned_abs z == 0) ≡ true
not_minus_zero (pos n) = refl
not_minus_zero (negsuc n) = ap not (eqb-suc-zero n)

is_said : (x : Fraction) → IsFractionSpelled x
    → is_fraction (is_negative x.coefficient) (unsigned_abs x.coefficient) x.scale ≡ true
is_said x h = rw (lt-ltb _ _ h.coefficient, le-leb _ _ h.scale, not_minus_zero x.coefficient) refl

abbrev fraction_from : Bool → ℕ → ℕ × List ℕ → ReadResult Fraction
fraction_from negative magnitude scale =
    cond (is_fraction negative magnitude scale.0) (Ok (of_parts negative magnitude scale.0, scale.1)) (Err faults.Value)

abbrev magnitude_from : Bool → ℕ × List ℕ → ReadResult Fraction
magnitude_from negative magnitude = byte_at magnitude.1 >>= fraction_from negative magnitude.0

fraction_took : (bytes : List ℕ) (x : Fraction × List ℕ) → IsBytes bytes → fraction_at bytes ≡ Ok x
    → Took fraction_bytes IsFractionSpelled bytes x
unfolding fraction_at
fraction_took bytes x is e =
    let a = part flag_form bytes (λ negative. wide_at negative.1 >>= magnitude_from negative.0) x is e in
    let b = part wide_form a.rest (magnitude_from a.value) x a.takes.rest_fits a.goes in
    let c = part byte_form b.rest (fraction_from a.value b.value) x b.takes.rest_fits b.goes in
    let g = guard_passed (is_fraction a.value b.value c.value) faults.Value (of_parts a.value b.value c.value, c.rest) x
    c.goes in
    let s = says a.value b.value c.value g.0 in
    let two = takes_then a.rest (wide_bytes b.value) b.rest (c.value ∷ []) c.rest b.takes c.takes in
    let three =
    takes_then bytes (flag_byte a.value ∷ []) a.rest (wide_bytes b.value ++ c.value ∷ []) c.rest a.takes two in
    let t : Takes bytes (fraction_bytes (of_parts a.value b.value c.value)) c.rest = rw (s.sign, s.absolute) three in
    let low : unsigned_abs (signed_integer a.value b.value) < 10 ^ 38 = rw s.absolute s.low in
    subst (Took fraction_bytes IsFractionSpelled bytes) {x =
    (of_parts a.value b.value c.value, c.rest)} g.1 (t, record { coefficient = low; scale = s.most })

fraction_again : (x : Fraction) (rest : List ℕ) → IsFractionSpelled x
    → fraction_at (fraction_bytes x ++ rest) ≡ Ok (x, rest)
unfolding fraction_at
fraction_again x rest h =
    let negative = is_negative x.coefficient in
    let magnitude = unsigned_abs x.coefficient in
    let wide : magnitude < 2 ^ 128 = let low = h.coefficient in omega arith in
    let small : x.scale < 2 ^ 8 = let most = h.scale in omega arith in
    ap (λ (t : List ℕ). fraction_at (flag_byte negative ∷ t)) (append_assoc (wide_bytes magnitude) (x.scale ∷ []) rest)
    ∙ part_again flag_form negative (wide_bytes magnitude ++ (x.scale ∷ rest)) (λ n. wide_at n.1 >>= magnitude_from n.0)
    tt
    ∙ part_again wide_form magnitude (x.scale ∷ rest) (magnitude_from negative) wide
    ∙ part_again byte_form x.scale rest (fraction_from negative magnitude) small
    ∙ ap (λ b. cond b (Ok (of_parts negative magnitude x.scale, rest)) (Err faults.Value)) (is_said x h)
    ∙ ap (λ (z : ℤ). Ok (record { coefficient = z; scale = x.scale }, rest)) (whole x.coefficient)

pub fraction_form : IsForm fraction_at fraction_bytes IsFractionSpelled
fraction_form = form_of fraction_at fraction_bytes IsFractionSpelled fraction_took fraction_again
