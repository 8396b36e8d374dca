-- The order of fractions is total: three of them are compared as integers over one denominator.
use Rattle.std.proofs.Common.{◌≡◌, ℕ, zero, suc, ◌+◌, ◌-◌, ◌*◌, ◌^◌, ◌<◌, ◌≤◌, Bool, true, false, refl, ap, sym, ◌∙◌, arith, ℤ, pos, negsuc, neg_ℤ, ◌*ℤ◌, unsigned_abs, nat_lt, cond, inl, inr}
use mathlib.Core.Bool.{true≢false}
use Rattle.std.proofs.lemmas.Nat.{pow-add}
use Rattle.std.specs.Prelude.{int_lt}
use Rattle.std.specs.Ordering.{int_cmp, is_eq, ordering_reverse}
use Rattle.std.specs.declared.cmp.Ordering.{Ordering}
use Rattle.std.specs.declared.cmp.Ordering.TheVariants.{Less, Equal, Greater}
use Rattle.std.specs.Cmp.{IsTotalOrder, IsEquivalence, tied_itself}
use Rattle.std.proofs.lemmas.Cmp.{int_cmp_total}
use Rattle.std.proofs.lemmas.Bool.{cases_lt, le-ltb, lt-ltb}
use Rattle.std.proofs.Math.Nat.{zero-mul, mul-lt-mul_of_pos_right, mul-le-mul_right, mul_comm, mul_assoc, one-le-pow}
use Rattle.decimal18.specs.Fraction.{Fraction, signed_integer, is_negative}
use Rattle.decimal18.specs.Order.{order, equals}

pub ten_pos : (k : ℕ) → 0 < 10 ^ k
ten_pos k = one-le-pow k 10 (omega arith)

pub mul-signed : (z : ℤ) (p : ℕ) → z *ℤ pos p ≡ signed_integer (is_negative z) (unsigned_abs z * p)
mul-signed (pos n) p = refl
mul-signed (negsuc n) p = refl

signed-mul : (b : Bool) (n k : ℕ) → signed_integer b n *ℤ pos k ≡ signed_integer b (n * k)
signed-mul false n k = refl
signed-mul true zero k = ap pos (zero-mul k) ∙ sym (ap (λ m. neg_ℤ (pos m)) (zero-mul k))
signed-mul true (suc n) k = refl

pub mul-mul : (z : ℤ) (m n : ℕ) → z *ℤ pos m *ℤ pos n ≡ z *ℤ pos (m * n)
mul-mul z m n =
    ap (λ t. t *ℤ pos n) (mul-signed z m) ∙ signed-mul (is_negative z) (unsigned_abs z * m) n
    ∙ ap (signed_integer (is_negative z)) (mul_assoc (unsigned_abs z) m n) ∙ sym (mul-signed z (m * n))

lt-scaled : (a b k : ℕ) → 0 < k → nat_lt (a * k) (b * k) ≡ nat_lt a b
lt-scaled a b k h = elim (cases_lt a b) [
  | inl below ↦ lt-ltb _ _ (mul-lt-mul_of_pos_right below h) ∙ sym (lt-ltb a b below)
  | inr above ↦ le-ltb _ _ (mul-le-mul_right k above) ∙ sym (le-ltb a b above)
]

pred_lt : (m n : ℕ) → 0 < m → 0 < n → nat_lt (m - 1) (n - 1) ≡ nat_lt m n
pred_lt m n h k = elim (cases_lt m n) [
  | inl below ↦ lt-ltb _ _ (omega arith) ∙ sym (lt-ltb m n below)
  | inr above ↦ le-ltb _ _ (omega arith) ∙ sym (le-ltb m n above)
]

negated_pos : (n : ℕ) → 0 < n → neg_ℤ (pos n) ≡ negsuc (n - 1)
negated_pos zero h = absurd (omega arith)
negated_pos (suc n) h = ap negsuc (omega arith)

negsuc-mul : (a k : ℕ) → 0 < k → negsuc a *ℤ pos k ≡ negsuc (suc a * k - 1)
negsuc-mul a k h = negated_pos (suc a * k) (grind arith)

int_lt-scaled : (x y : ℤ) (k : ℕ) → 0 < k → int_lt (x *ℤ pos k) (y *ℤ pos k) ≡ int_lt x y
int_lt-scaled (pos a) (pos b) k h = lt-scaled a b k h
int_lt-scaled (pos a) (negsuc b) k h = ap (λ t. int_lt (pos (a * k)) t) (negsuc-mul b k h)
int_lt-scaled (negsuc a) (pos b) k h = ap (λ t. int_lt t (pos (b * k))) (negsuc-mul a k h)
int_lt-scaled (negsuc a) (negsuc b) k h =
    let left : 0 < suc a * k = grind arith in
    let right : 0 < suc b * k = grind arith in
    ap (λ t. int_lt t (negsuc b *ℤ pos k)) (negsuc-mul a k h)
    ∙ ap (λ t. int_lt (negsuc (suc a * k - 1)) t) (negsuc-mul b k h)
    ∙ pred_lt (suc b * k) (suc a * k) right left ∙ lt-scaled (suc b) (suc a) k h
    ∙ sym (pred_lt (suc b) (suc a) (omega arith) (omega arith)) ∙ ap (λ t. nat_lt t (suc a - 1)) (omega arith) ∙ ap (λ t. nat_lt b t) (omega arith)

pub int_cmp-scaled : (x y : ℤ) (k : ℕ) → 0 < k → int_cmp (x *ℤ pos k) (y *ℤ pos k) ≡ int_cmp x y
int_cmp-scaled x y k h =
    ap (λ b. cond b Less (cond (int_lt (y *ℤ pos k) (x *ℤ pos k)) Greater Equal)) (int_lt-scaled x y k h)
    ∙ ap (λ b. cond (int_lt x y) Less (cond b Greater Equal)) (int_lt-scaled y x k h)

-- Over one denominator.
over : (a b : ℤ) (p q r : ℕ) → 0 < r → int_cmp (a *ℤ pos q) (b *ℤ pos p) ≡ int_cmp (a *ℤ pos (q * r)) (b *ℤ pos (p * r))
over a b p q r h =
    sym (int_cmp-scaled (a *ℤ pos q) (b *ℤ pos p) r h)
    ∙ ap (λ t. int_cmp t (b *ℤ pos p *ℤ pos r)) (mul-mul a q r) ∙ ap (int_cmp (a *ℤ pos (q * r))) (mul-mul b p r)

-- A coefficient over the denominator that three numbers have in common.
abbrev wide : Fraction → Fraction → Fraction → ℤ
wide x y z = x.coefficient *ℤ pos (10 ^ y.scale * 10 ^ z.scale)

order_at_scale : (x y z : Fraction) → order x y ≡ int_cmp (wide x y z) (wide y x z)
unfolding order
order_at_scale x y z = over x.coefficient y.coefficient (10 ^ x.scale) (10 ^ y.scale) (10 ^ z.scale) (ten_pos z.scale)

second : (x y z : Fraction) → order y z ≡ int_cmp (wide y x z) (wide z x y)
second x y z =
    order_at_scale y z x
    ∙ ap (λ n. int_cmp (y.coefficient *ℤ pos n) (wide z y x)) (mul_comm (10 ^ z.scale) (10 ^ x.scale))
    ∙ ap (λ n. int_cmp (wide y x z) (z.coefficient *ℤ pos n)) (mul_comm (10 ^ y.scale) (10 ^ x.scale))

outer_order : (x y z : Fraction) → order x z ≡ int_cmp (wide x y z) (wide z x y)
outer_order x y z = order_at_scale x z y ∙ ap (λ n. int_cmp (x.coefficient *ℤ pos n) (wide z x y)) (mul_comm (10 ^ z.scale) (10 ^ y.scale))

pub order_reversed : (x y : Fraction) → order x y ≡ ordering_reverse (order y x)
unfolding order
order_reversed x y = int_cmp_total.antisymm (x.coefficient *ℤ pos (10 ^ y.scale)) (y.coefficient *ℤ pos (10 ^ x.scale))

pub order_total : IsTotalOrder order
order_total = record {
  antisymm = order_reversed;
  trans = λ x y z p q. outer_order x y z ∙ int_cmp_total.trans (wide x y z) (wide y x z) (wide z x y) (sym (order_at_scale x y z) ∙ p) (sym (second x y z) ∙ q);
  congr = λ x y z p. outer_order x y z ∙ int_cmp_total.congr (wide x y z) (wide y x z) (wide z x y) (sym (order_at_scale x y z) ∙ p) ∙ sym (second x y z);
}

is_eq-reverse : (r : Ordering) → is_eq (ordering_reverse r) ≡ is_eq r
is_eq-reverse Less = refl
is_eq-reverse Equal = refl
is_eq-reverse Greater = refl

equal-is_eq : (r : Ordering) → is_eq r ≡ true → r ≡ Equal
equal-is_eq Less e = absurd (true≢false (sym e))
equal-is_eq Equal e = refl
equal-is_eq Greater e = absurd (true≢false (sym e))

pub equals_equiv : IsEquivalence equals
equals_equiv = record {
  refl = λ x. ap is_eq (tied_itself order_total x);
  symm = λ x y. ap is_eq (order_reversed x y) ∙ is_eq-reverse (order y x);
  congr = λ x y z e. ap is_eq (order_total.congr x y z (equal-is_eq (order x y) e));
}

-- A comparison with zeros after the coefficient of the smaller scale.
pub order_raised : (x y : Fraction) → x.scale ≤ y.scale → int_cmp (x.coefficient *ℤ pos (10 ^ (y.scale - x.scale))) y.coefficient ≡ order x y
unfolding order
order_raised x y h =
    let k = y.scale - x.scale in
    let whole : y.scale ≡ k + x.scale = omega arith in
    let power : 10 ^ y.scale ≡ 10 ^ k * 10 ^ x.scale = ap (λ n. 10 ^ n) whole ∙ pow-add 10 k x.scale in
    sym (int_cmp-scaled (x.coefficient *ℤ pos (10 ^ k)) y.coefficient (10 ^ x.scale) (ten_pos x.scale))
    ∙ ap (λ t. int_cmp t (y.coefficient *ℤ pos (10 ^ x.scale))) (mul-mul x.coefficient (10 ^ k) (10 ^ x.scale) ∙ ap (λ n. x.coefficient *ℤ pos n) (sym power))
