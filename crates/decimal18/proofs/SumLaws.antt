-- Sums, differences and products are exact, and the order of the operands is free.
use Rattle.std.proofs.Common.{◌≡◌, ℕ, zero, suc, ◌+◌, ◌-◌, ◌^◌, ◌≤◌, max, min, Bool, true, false, ◌&&◌, refl, ap, sym}
use Rattle.std.proofs.Common.{◌∙◌, arith, ℤ, pos, negsuc, neg_ℤ, ◌*ℤ◌, ◌+ℤ◌, int_div, if◌then◌else◌, Result, Ok, Some}
use Rattle.std.proofs.Common.{None}
use Rattle.std.proofs.Math.IntN.{+ℤ_assoc, +ℤ_comm, *ℤ_comm, suc_ℤ-*ℤ, *ℤ-zero}
use Rattle.std.proofs.Math.Nat.{div-one, add_comm, max_comm}
use Rattle.std.proofs.lemmas.Nat.{pow-add}
use Rattle.decimal18.specs.Fraction.{Fraction, aligned_coefficient}
use Rattle.decimal18.specs.Arithmetic.{sum, difference, product, intermediate, aligned_operation, is_within, size_error}
use Rattle.decimal18.specs.Arithmetic.{opposite_of}
use Rattle.decimal18.specs.Laws.{IsSum, IsDifference, IsProduct}
use Rattle.decimal18.specs.TotalOrder.{mul-mul}
use Rattle.decimal18.specs.declared.size_error.Size.{Size}
use Rattle.decimal18.proofs.Difference.{as_sum, neg-mul}

-- An answer that is no size error passed its test.
pub passed : (b : Bool) (r : Result Fraction Size) (z : Fraction) → (if b then r else size_error) ≡ Ok z
    → (b ≡ true) × (r ≡ Ok z)
passed true r z e = (refl, e)
passed false r z e = cc

abbrev pub answer : Fraction → Result Fraction Size
answer x = Ok x

pub inside : (x z : Fraction) → answer x ≡ answer z → x ≡ z
inside x z e = cc

pub div_one : (z : ℤ) → int_div z (pos 1) ≡ z
div_one (pos n) = ap pos (div-one n)
div_one (negsuc n) = ap (λ m. neg_ℤ (pos m)) (div-one (suc n))

-- Up to 18 decimals an intermediate result is as it is.
pub uncut : (v : ℤ) (scale : ℕ) (z : Fraction) → scale ≤ 18 → intermediate v scale ≡ Ok z
    → (z.coefficient ≡ v) × (z.scale ≡ scale)
uncut v scale z h e =
    let is = inside _ z (passed (is_within v)
    (Ok (record { coefficient = int_div v (pos (10 ^ (scale - 18))); scale = min scale 18 })) z e).1 in
    let none : scale - 18 ≡ 0 = omega arith in (
      sym (ap (λ (f : Fraction). f.coefficient) is) ∙ ap (λ n. int_div v (pos (10 ^ n))) none ∙ div_one v,
      sym (ap (λ (f : Fraction). f.scale) is) ∙ omega arith,
    )

plus_same : (a b c d : ℤ) → (a +ℤ b) +ℤ (c +ℤ d) ≡ (a +ℤ c) +ℤ (b +ℤ d)
plus_same a b c d =
    +ℤ_assoc a b (c +ℤ d) ∙ ap (λ t. a +ℤ t) (sym (+ℤ_assoc b c d) ∙ ap (λ t. t +ℤ d) (+ℤ_comm b c) ∙ +ℤ_assoc c b d)
    ∙ sym (+ℤ_assoc a c (b +ℤ d))

times_suc : (z : ℤ) (n : ℕ) → z *ℤ pos (suc n) ≡ z *ℤ pos n +ℤ z
times_suc z n = *ℤ_comm z (pos (suc n)) ∙ suc_ℤ-*ℤ (pos n) z ∙ ap (λ t. t +ℤ z) (*ℤ_comm (pos n) z)

pub spread : (a b : ℤ) (n : ℕ) → (a +ℤ b) *ℤ pos n ≡ a *ℤ pos n +ℤ b *ℤ pos n
spread a b zero = *ℤ-zero (a +ℤ b) ∙ sym (ap (λ t. t +ℤ b *ℤ pos 0) (*ℤ-zero a) ∙ ap (λ t. pos 0 +ℤ t) (*ℤ-zero b))
spread a b (suc n) =
    times_suc (a +ℤ b) n ∙ ap (λ t. t +ℤ (a +ℤ b)) (spread a b n) ∙ plus_same (a *ℤ pos n) (b *ℤ pos n) a b
    ∙ sym (ap (λ t. t +ℤ b *ℤ pos (suc n)) (times_suc a n) ∙ ap (λ t. (a *ℤ pos n +ℤ a) +ℤ t) (times_suc b n))

-- Zeros after a coefficient, and then a denominator: the same as the one scale and then the other.
widened : (a : ℤ) (s t scale n : ℕ) → s ≤ scale → n ≡ s + t
    → a *ℤ pos (10 ^ (scale - s)) *ℤ pos (10 ^ n) ≡ a *ℤ pos (10 ^ t) *ℤ pos (10 ^ scale)
widened a s t scale n h e =
    let same : scale - s + n ≡ t + scale = omega arith in
    mul-mul a (10 ^ (scale - s)) (10 ^ n)
    ∙ ap (λ m. a *ℤ pos m) (sym (pow-add 10 (scale - s) n) ∙ ap (λ m. 10 ^ m) same ∙ pow-add 10 t scale)
    ∙ sym (mul-mul a (10 ^ t) (10 ^ scale))

total_is : (a b : ℤ) (s t scale : ℕ) → s ≤ scale → t ≤ scale → (a *ℤ pos (10 ^ (scale - s)) +ℤ b
    *ℤ pos (10 ^ (scale - t))) *ℤ pos (10 ^ (s + t)) ≡ (a *ℤ pos (10 ^ t) +ℤ b *ℤ pos (10 ^ s)) *ℤ pos (10 ^ scale)
total_is a b s t scale h k =
    spread _ _ (10 ^ (s + t))
    ∙ ap (λ u. u +ℤ b *ℤ pos (10 ^ (scale - t)) *ℤ pos (10 ^ (s + t))) (widened a s t scale (s + t) h refl)
    ∙ ap (λ u. a *ℤ pos (10 ^ t) *ℤ pos (10 ^ scale) +ℤ u) (widened b t s scale (s + t) k (add_comm s t))
    ∙ sym (spread _ _ (10 ^ scale))

pub sum_exact : (x y z : Fraction) → x.scale ≤ 18 → y.scale ≤ 18 → sum x y ≡ Ok z → IsSum x y z
unfolding sum
sum_exact x y z h k e =
    let scale = max x.scale y.scale in
    let left : x.scale ≤ scale = omega arith in
    let right : y.scale ≤ scale = omega arith in
    let most : scale ≤ 18 = omega arith in
    let kept = uncut (aligned_coefficient x scale +ℤ aligned_coefficient y scale)
    scale z most (passed (is_within (aligned_coefficient x scale) && is_within (aligned_coefficient y scale))
    (intermediate (aligned_coefficient x scale +ℤ aligned_coefficient y scale) scale) z e).1 in
    ap (λ v. v *ℤ pos (10 ^ (x.scale + y.scale))) kept.0
    ∙ total_is x.coefficient y.coefficient x.scale y.scale scale left right
    ∙ ap (λ n. (x.coefficient *ℤ pos (10 ^ y.scale) +ℤ y.coefficient *ℤ pos (10 ^ x.scale)) *ℤ pos (10 ^ n))
    (sym kept.1)

pub difference_exact : (x y z : Fraction) → x.scale ≤ 18 → y.scale ≤ 18 → difference x y ≡ Ok z → IsDifference x y z
difference_exact x y z h k e =
    sum_exact x (opposite_of y) z h k (sym (as_sum x y) ∙ e)
    ∙ ap (λ t. (x.coefficient *ℤ pos (10 ^ y.scale) +ℤ t) *ℤ pos (10 ^ z.scale)) (neg-mul y.coefficient (10 ^ x.scale))

pub product_exact : (x y z : Fraction) → x.scale + y.scale ≤ 18 → product x y ≡ Ok z → IsProduct x y z
unfolding product
product_exact x y z h e =
    let kept = uncut (x.coefficient *ℤ y.coefficient) (x.scale + y.scale) z h e in
    ap (λ v. v *ℤ pos (10 ^ (x.scale + y.scale))) kept.0
    ∙ ap (λ n. x.coefficient *ℤ y.coefficient *ℤ pos (10 ^ n)) (sym kept.1)

and_swapped : (a b : Bool) → (a && b) ≡ (b && a)
and_swapped true true = refl
and_swapped true false = refl
and_swapped false true = refl
and_swapped false false = refl

pub sum_commutes : (x y : Fraction) → sum x y ≡ sum y x
unfolding sum
sum_commutes x y =
    let scale = max x.scale y.scale in
    let at : ℕ → Result Fraction Size = λ n. aligned_operation ◌+ℤ◌ y x n in
    ap (λ b. if b then intermediate (aligned_coefficient x scale +ℤ aligned_coefficient y scale) scale else size_error)
    (and_swapped (is_within (aligned_coefficient x scale)) (is_within (aligned_coefficient y scale)))
    ∙ ap (λ v. if is_within (aligned_coefficient y scale) && is_within (aligned_coefficient x scale)
    then intermediate v scale else size_error) (+ℤ_comm (aligned_coefficient x scale) (aligned_coefficient y scale))
    ∙ ap at (max_comm x.scale y.scale)

pub product_commutes : (x y : Fraction) → product x y ≡ product y x
unfolding product
product_commutes x y =
    ap (λ v. intermediate v (x.scale + y.scale)) (*ℤ_comm x.coefficient y.coefficient)
    ∙ ap (intermediate (y.coefficient *ℤ x.coefficient)) (add_comm x.scale y.scale)

taken : (b : Bool) (z v : ℤ) → Some v ≡ (if b then Some z else None) → (b ≡ true) × (v ≡ z)
taken true z v e = (refl, cc)
taken false z v e = cc

-- A sum of coefficients that passed the test of alignment.
pub sum_of_aligned : (x y : Fraction) (a b : ℤ) (scale : ℕ) (r : Result Fraction Size) → scale ≡ max x.scale y.scale
    → Some a ≡ (if is_within (aligned_coefficient x scale) then Some (aligned_coefficient x scale) else None)
    → Some b ≡ (if is_within (aligned_coefficient y scale) then Some (aligned_coefficient y scale) else None)
    → r ≡ intermediate (a +ℤ b) scale → r ≡ sum x y
unfolding sum
sum_of_aligned x y a b scale r e f g h =
    let p = taken (is_within (aligned_coefficient x scale)) (aligned_coefficient x scale) a f in
    let q = taken (is_within (aligned_coefficient y scale)) (aligned_coefficient y scale) b g in
    let total = intermediate (aligned_coefficient x scale +ℤ aligned_coefficient y scale) scale in
    h ∙ ap (λ z. intermediate (z +ℤ b) scale) p.1 ∙ ap (λ z. intermediate (aligned_coefficient x scale +ℤ z) scale) q.1
    ∙ sym (ap (λ t. if t && is_within (aligned_coefficient y scale) then total else size_error) p.0
    ∙ ap (λ t. if t then total else size_error) q.0)
    ∙ ap (aligned_operation ◌+ℤ◌ x y) e
