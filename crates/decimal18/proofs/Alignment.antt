-- A coefficient with zeros after it, and the test of what it may be.
use Rattle.std.proofs.Common.{◌≡◌, ℕ, ◌+◌, ◌-◌, ◌*◌, ◌^◌, ◌<◌, ◌≤◌, Bool, true, false, refl, ap, sym, ◌∙◌, ℤ, pos, ◌*ℤ◌}
use Rattle.std.proofs.Common.{unsigned_abs, nat_lt, nat_le, subst, ◌&&◌, Some, None, if◌then◌else◌}
use Rattle.std.proofs.lemmas.Bool.{le-ltb, lt-ltb, le-leb}
use Rattle.decimal18.specs.Fraction.{Fraction, signed_integer, is_negative}
use Rattle.decimal18.specs.Arithmetic.{is_within}
use Rattle.decimal18.proofs.Powers.{shifted_below, shifted_above, shifted_test}
use Rattle.decimal18.specs.TotalOrder.{mul-signed}
use Rattle.decimal18.specs.Quotient.{admits, extended_dividend}
use Rattle.decimal18.proofs.Signs.{abs-signed}

pub raised_abs : (z : ℤ) (p : ℕ) → unsigned_abs (z *ℤ pos p) ≡ unsigned_abs z * p
raised_abs z p = ap unsigned_abs (mul-signed z p) ∙ abs-signed (is_negative z) (unsigned_abs z * p)

pub raised_within : (z : ℤ) (k : ℕ) → k ≤ 38 → unsigned_abs z < 10 ^ (38 - k) → is_within (z *ℤ pos (10 ^ k)) ≡ true
raised_within z k h below =
    ap (λ m. nat_lt m (10 ^ 38)) (raised_abs z (10 ^ k)) ∙ lt-ltb _ _ (shifted_below (unsigned_abs z) k 38 h below)

pub raised_outside : (z : ℤ) (k : ℕ) → k ≤ 38 → 10 ^ (38 - k) ≤ unsigned_abs z → is_within (z *ℤ pos (10 ^ k)) ≡ false
raised_outside z k h above =
    ap (λ m. nat_lt m (10 ^ 38)) (raised_abs z (10 ^ k)) ∙ le-ltb _ _ (shifted_above (unsigned_abs z) k 38 h above)

pub product_below : (m k p q : ℕ) → k ≤ 38 → p ≡ 10 ^ (38 - k) → q ≡ 10 ^ k → m < p → m * q < 10 ^ 38
product_below m k p q h e f below =
    subst (λ n. m * n < 10 ^ 38) (sym f) (shifted_below m k 38 h (subst (λ n. m < n) e below))

-- What the code answers, by the two sides of its test.
pub raised_none : (z : ℤ) (m k p : ℕ) → k ≤ 38 → m ≡ unsigned_abs z → p ≡ 10 ^ (38 - k) → p ≤ m
    → None ≡ (if is_within (z *ℤ pos (10 ^ k)) then Some (z *ℤ pos (10 ^ k)) else None)
raised_none z m k p h e f above =
    let high : 10 ^ (38 - k) ≤ unsigned_abs z = subst (λ n. n ≤ unsigned_abs z) f (subst (λ n. p ≤ n) e above) in
    rw (raised_outside z k h high) refl

pub raised_some : (z : ℤ) (r : ℤ) (b : Bool) (m k p q : ℕ) → k ≤ 38
    → m ≡ unsigned_abs z → p ≡ 10 ^ (38 - k) → q ≡ 10 ^ k → m < p → b ≡ is_negative z → r ≡ signed_integer b (m * q)
    → Some r ≡ (if is_within (z *ℤ pos (10 ^ k)) then Some (z *ℤ pos (10 ^ k)) else None)
raised_some z r b m k p q h e f g below s v =
    let low : unsigned_abs z < 10 ^ (38 - k) = subst (λ n. n < 10 ^ (38 - k)) e (subst (λ n. m < n) f below) in
    let value : r ≡ z *ℤ pos (10 ^ k) =
    v ∙ ap (λ t. signed_integer t (m * q)) s ∙ ap (λ t. signed_integer (is_negative z) (t * q)) e
    ∙ ap (λ t. signed_integer (is_negative z) (unsigned_abs z * t)) g ∙ sym (mul-signed z (10 ^ k)) in
    rw (raised_within z k h low) (ap Some value)

raised_test : (z : ℤ) (k : ℕ) → k ≤ 38 → is_within (z *ℤ pos (10 ^ k)) ≡ nat_lt (unsigned_abs z) (10 ^ (38 - k))
raised_test z k h = ap (λ m. nat_lt m (10 ^ 38)) (raised_abs z (10 ^ k)) ∙ shifted_test (unsigned_abs z) k 38 h

pub admits_is : (x y : Fraction) (q m p : ℕ) → x.scale ≤ q + y.scale → q + y.scale - x.scale ≤ 38
    → m ≡ unsigned_abs x.coefficient → p ≡ 10 ^ (38 - (q + y.scale - x.scale)) → nat_lt m p ≡ admits x y q
admits_is x y q m p above room e f =
    let same : nat_lt m p ≡ is_within (extended_dividend x y q) = ap (λ t. nat_lt t p) e
    ∙ ap (nat_lt (unsigned_abs x.coefficient)) f ∙ sym (raised_test x.coefficient (q + y.scale - x.scale) room) in
    let holds : nat_le x.scale (q + y.scale) ≡ true = le-leb _ _ above in
    same ∙ sym (ap (λ b. b && is_within (extended_dividend x y q)) holds)
