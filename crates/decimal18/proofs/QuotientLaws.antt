-- A quotient is cut towards zero at the greatest scale that is admitted.
use Rattle.std.proofs.Common.{◌≡◌, ◌≢◌, ℕ, zero, suc, ◌+◌, ◌-◌, ◌*◌, ◌/◌, ◌%◌, ◌^◌, ◌<◌, ◌≤◌, Bool, true, false, refl}
use Rattle.std.proofs.Common.{ap, sym, ◌∙◌, arith, subst, ℤ, pos, negsuc, neg_ℤ, ◌*ℤ◌, int_div, unsigned_abs}
use Rattle.std.proofs.Common.{if◌then◌else◌, Ok, Option, Some, None, ◌&&◌, ◌⊎◌, inl, inr}
use Rattle.std.specs.Ordering.{int_eq}
use Rattle.std.proofs.lemmas.Bool.{leb-true}
use Rattle.std.proofs.lemmas.Bool.Decides.{Decides-int_eq}
use Rattle.std.proofs.lemmas.Nat.{pow-add, div-add-mod', mod_below}
use Rattle.std.proofs.Math.Nat.{zero-mul, zero-div, mul-le-mul_right, mul-lt-mul_of_pos_right, eq-or-lt_of_le}
use Rattle.std.proofs.Math.Nat.{mul_assoc}
use mathlib.Core.Bool.{true≢false}
use Rattle.decimal18.specs.Fraction.{Fraction, signed_integer, is_negative}
use Rattle.decimal18.specs.Arithmetic.{size_error}
use Rattle.decimal18.specs.Quotient.{quotient, quotient_at, admits, greatest, extended_dividend}
use Rattle.decimal18.specs.Laws.{IsQuotient}
use Rattle.decimal18.specs.TotalOrder.{ten_pos}
use Rattle.decimal18.proofs.Alignment.{raised_abs}
use Rattle.decimal18.proofs.Signs.{abs-neg, div-signed}
use Rattle.decimal18.proofs.SumLaws.{inside}

abs-div : (z d : ℤ) → unsigned_abs (int_div z d) ≡ unsigned_abs z / unsigned_abs d
abs-div (pos a) (pos b) = refl
abs-div (pos a) (negsuc b) = abs-neg (pos (a / suc b))
abs-div (negsuc a) (pos b) = abs-neg (pos (suc a / b))
abs-div (negsuc a) (negsuc b) = refl

-- A quotient's sign is the product's.
minus : (n m : ℕ) → (n ≡ 0 → m ≡ 0) → neg_ℤ (pos m) ≡ signed_integer (is_negative (neg_ℤ (pos n))) m
minus zero m h = ap (λ k. neg_ℤ (pos k)) (h refl) ∙ sym (ap pos (h refl))
minus (suc n) m h = refl

pub div-both : (n b : ℕ) → int_div (signed_integer true n) (negsuc b) ≡ pos (n / suc b)
div-both zero b = ap (λ m. neg_ℤ (pos m)) (zero-div (suc b)) ∙ sym (ap pos (zero-div (suc b)))
div-both (suc n) b = refl

quotient_sign : (x y : ℤ) (k : ℕ) → y ≢ pos 0
    → int_div (x *ℤ pos k) y ≡ signed_integer (is_negative (x *ℤ y)) (unsigned_abs x * k / unsigned_abs y)
quotient_sign (pos a) (pos b) k h = refl
quotient_sign (pos zero) (negsuc b) k h =
    minus (0 * suc b) (0 * k / suc b) (λ e. ap (λ n. n / suc b) (zero-mul k) ∙ zero-div (suc b))
quotient_sign (pos (suc a)) (negsuc b) k h =
    let some : 0 < suc a * suc b = grind arith in
    minus (suc a * suc b) (suc a * k / suc b) (λ e. absurd (omega (arith, some, e)))
quotient_sign (negsuc a) (pos zero) k h = absurd (h refl)
quotient_sign (negsuc a) (pos (suc b)) k h =
    let some : 0 < suc a * suc b = grind arith in
    div-signed true (suc a * k) (suc b)
    ∙ minus (suc a * suc b) (suc a * k / suc b) (λ e. absurd (omega (arith, some, e)))
quotient_sign (negsuc a) (negsuc b) k h = div-both (suc a * k) b

-- What `greatest` found.
record Found (test : ℕ → Bool) (bound q : ℕ) : Type 0 where
  most : q ≤ bound
  passes : test q ≡ true
  above : (r : ℕ) → q < r → r ≤ bound → test r ≡ false

at_most : (r n : ℕ) → r ≤ suc n → (r ≡ suc n) ⊎ (r ≤ n)
at_most r n h = elim (eq-or-lt_of_le h) [ inl same ↦ inl same | inr less ↦ inr (omega arith) ]

found_by : (test : ℕ → Bool) (n q : ℕ) (b : Bool) → test (suc n) ≡ b → (greatest test n ≡ Some q → Found test n q)
    → (if b then Some (suc n) else greatest test n) ≡ Some q → Found test (suc n) q
found_by test n q true t below e =
    let same : suc n ≡ q = cc in
    record { most = omega arith; passes = subst (λ m. test m ≡ true) same t; above = λ r h k. absurd (omega arith) }
found_by test n q false t below e =
    let f = below e in
    record {
      most = omega (arith, f.most);
      passes = f.passes;
      above = λ r h k.
          elim (at_most r n k) [ inl same ↦ subst (λ m. test m ≡ false) (sym same) t | inr less ↦ f.above r h less ];
    }

found_zero : (test : ℕ → Bool) (q : ℕ) (b : Bool) → test zero ≡ b → (if b then Some zero else None) ≡ Some q
    → Found test zero q
found_zero test q true t e =
    let same : zero ≡ q = cc in
    record { most = omega arith; passes = subst (λ m. test m ≡ true) same t; above = λ r h k. absurd (omega arith) }
found_zero test q false t e = cc

found : (test : ℕ → Bool) (n q : ℕ) → greatest test n ≡ Some q → Found test n q
unfolding greatest
found test zero q e = found_zero test q (test zero) refl e
found test (suc n) q e = found_by test n q (test (suc n)) refl (found test n q) e

none_by : (test : ℕ → Bool) (n : ℕ) (b : Bool) → test (suc n) ≡ b
    → (greatest test n ≡ None → (r : ℕ) → r ≤ n → test r ≡ false) → (if b then Some (suc n) else greatest test n) ≡ None
    → (r : ℕ) → r ≤ suc n → test r ≡ false
none_by test n true t below e r k = cc
none_by test n false t below e r k =
    elim (at_most r n k) [ inl same ↦ subst (λ m. test m ≡ false) (sym same) t | inr less ↦ below e r less ]

none_zero : (test : ℕ → Bool) (b : Bool) → test zero ≡ b → (if b then Some zero else None) ≡ None → (r : ℕ) → r ≤ 0
    → test r ≡ false
none_zero test true t e r k = cc
none_zero test false t e r k = let same : zero ≡ r = omega arith in subst (λ m. test m ≡ false) same t

none_found : (test : ℕ → Bool) (n : ℕ) → greatest test n ≡ None → (r : ℕ) → r ≤ n → test r ≡ false
unfolding greatest
none_found test zero e = none_zero test (test zero) refl e
none_found test (suc n) e = none_by test n (test (suc n)) refl (none_found test n) e

both : (a b : Bool) → (a && b) ≡ true → a ≡ true
both true b e = refl
both false b e = e

positive : (d : ℤ) → d ≢ pos 0 → 0 < unsigned_abs d
positive (pos zero) h = absurd (h refl)
positive (pos (suc n)) h = omega arith
positive (negsuc n) h = omega arith

-- n is at least n / d times d, and below one more.
near : (n d p : ℕ) → 0 < d → 0 < p → (n / d * d * p ≤ n * p) × (n * p < (n / d + 1) * d * p)
near n d p h k =
    let whole : n / d * d + n % d ≡ n = div-add-mod' n d in
    let rest : n % d < d = mod_below n d h in
    let under : n / d * d ≤ n = omega arith in
    let over : n < (n / d + 1) * d = omega arith in
    (mul-le-mul_right p under, mul-lt-mul_of_pos_right over k)

scaled : (a s k t : ℕ) → k + s ≡ t → a * 10 ^ k * 10 ^ s ≡ a * 10 ^ t
scaled a s k t e = mul_assoc a (10 ^ k) (10 ^ s) ∙ ap (λ n. a * n) (sym (pow-add 10 k s) ∙ ap (λ n. 10 ^ n) e)

quotient_of : (x y z : Fraction) (o : Option ℕ) → y.coefficient ≢ pos 0 → greatest (admits x y) 18 ≡ o
    → quotient_at x y o ≡ Ok z → IsQuotient x y z
quotient_of x y z None h g e = cc
quotient_of x y z (Some q) h g e =
    let f = found (admits x y) 18 q g in
    let is = inside _ z e in
    let scale : q ≡ z.scale = ap (λ (w : Fraction). w.scale) is in
    let k = q + y.scale - x.scale in
    let n = unsigned_abs x.coefficient * 10 ^ k in
    let d = unsigned_abs y.coefficient in
    let v : n / d ≡ unsigned_abs z.coefficient =
    sym (abs-div (extended_dividend x y q) y.coefficient ∙ ap (λ m. m / d) (raised_abs x.coefficient (10 ^ k)))
    ∙ ap (λ (w : Fraction). unsigned_abs w.coefficient) is in
    let enough : x.scale ≤ q + y.scale = leb-true _ _ (both _ _ f.passes) in
    let widths : k + x.scale ≡ z.scale + y.scale = omega arith in
    let whole : n * 10 ^ x.scale ≡ unsigned_abs x.coefficient * 10 ^ (z.scale + y.scale) =
    scaled (unsigned_abs x.coefficient) x.scale k (z.scale + y.scale) widths in
    let bounds = near n d (10 ^ x.scale) (positive y.coefficient h) (ten_pos x.scale) in
    record {
      sign = sym (ap (λ (w : Fraction). w.coefficient) is) ∙ quotient_sign x.coefficient y.coefficient (10 ^ k) h
          ∙ ap (signed_integer (is_negative (x.coefficient *ℤ y.coefficient))) v;
      not_over = subst (λ m. unsigned_abs z.coefficient * d * 10 ^ x.scale ≤ m) whole
          (subst (λ m. m * d * 10 ^ x.scale ≤ n * 10 ^ x.scale) v bounds.0);
      close = subst (λ m. m < (unsigned_abs z.coefficient + 1) * d * 10 ^ x.scale) whole
          (subst (λ m. n * 10 ^ x.scale < (m + 1) * d * 10 ^ x.scale) v bounds.1);
      admitted = subst (λ m. admits x y m ≡ true) scale f.passes;
      most = subst (λ m. m ≤ 18) scale f.most;
      greatest = λ r a b. f.above r (subst (λ m. m < r) (sym scale) a) b;
    }

nonzero : (x y z : Fraction) (b : Bool) → int_eq y.coefficient (pos 0) ≡ b
    → (if b then size_error else quotient_at x y (greatest (admits x y) 18)) ≡ Ok z → IsQuotient x y z
nonzero x y z true t e = cc
nonzero x y z false t e = quotient_of x y z (greatest (admits x y) 18)
    (λ zero_divisor. true≢false (sym ((Decides-int_eq y.coefficient (pos 0)).1 zero_divisor) ∙ t)) refl e

pub quotient_cut : (x y z : Fraction) → quotient x y ≡ Ok z → IsQuotient x y z
unfolding quotient
quotient_cut x y z e = nonzero x y z (int_eq y.coefficient (pos 0)) refl e

refused_of : (x y : Fraction) (o : Option ℕ) → greatest (admits x y) 18 ≡ o → quotient_at x y o ≡ size_error → (q : ℕ)
    → q ≤ 18 → admits x y q ≡ false
refused_of x y None g e = none_found (admits x y) 18 g
refused_of x y (Some q) g e = cc

refused_by : (x y : Fraction) (b : Bool) → int_eq y.coefficient (pos 0) ≡ b
    → (if b then size_error else quotient_at x y (greatest (admits x y) 18)) ≡ size_error → y.coefficient ≢ pos 0
    → (q : ℕ) → q ≤ 18 → admits x y q ≡ false
refused_by x y true t e h = absurd (h ((Decides-int_eq y.coefficient (pos 0)).0 t))
refused_by x y false t e h = refused_of x y (greatest (admits x y) 18) refl e

pub quotient_refused : (x y : Fraction) → quotient x y ≡ size_error → y.coefficient ≢ pos 0 → (q : ℕ) → q ≤ 18
    → admits x y q ≡ false
unfolding quotient
quotient_refused x y e = refused_by x y (int_eq y.coefficient (pos 0)) refl e
