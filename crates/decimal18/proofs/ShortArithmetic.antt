-- What fits 64 bits is within the limit of a coefficient, so that sums, differences and products are as they are.
use Rattle.std.proofs.Common.{◌≡◌, ℕ, suc, ◌+◌, ◌-◌, ◌*◌, ◌^◌, ◌<◌, ◌≤◌, true, max, min, ap, sym, ◌∙◌, arith, ℤ, pos}
use Rattle.std.proofs.Common.{negsuc, neg_ℤ, ◌+ℤ◌, ◌-ℤ◌, ◌*ℤ◌, int_div, FitsSigned, ◌&&◌, if◌then◌else◌, Result, Ok}
use Rattle.std.specs.Int.{w64}
use Rattle.std.proofs.lemmas.Bool.{lt-ltb}
use Rattle.decimal18.specs.Fraction.{Fraction, aligned_coefficient}
use Rattle.decimal18.specs.Arithmetic.{sum, difference, product, aligned_operation, intermediate, is_within, size_error}
use Rattle.decimal18.specs.declared.size_error.Size.{Size}
use Rattle.decimal18.proofs.SumLaws.{div_one}

abbrev given : ℤ → ℕ → Result Fraction Size
given n scale = Ok (record { coefficient = n; scale = scale })

short_within : (z : ℤ) → FitsSigned w64 z → is_within z ≡ true
short_within (pos n) fits = let small : n < 2 ^ 63 = fits.sfits in lt-ltb n (10 ^ 38) (omega arith)
short_within (negsuc n) fits = let small : n < 2 ^ 63 = fits.sfits in lt-ltb (suc n) (10 ^ 38) (omega arith)

times_one : (z : ℤ) → z *ℤ pos 1 ≡ z
times_one (pos n) = let same : n * 1 ≡ n = omega arith in ap pos same
times_one (negsuc n) = let same : suc n * 1 ≡ suc n = omega arith in ap (λ m. neg_ℤ (pos m)) same

aligned_at : (x : Fraction) (z : ℤ) (k : ℕ) → z ≡ x.coefficient → k ≡ 0 → z ≡ x.coefficient *ℤ pos (10 ^ k)
aligned_at x z k e none = e ∙ sym (times_one x.coefficient) ∙ ap (λ n. x.coefficient *ℤ pos (10 ^ n)) (sym none)

pub aligned_same : (x : Fraction) (z : ℤ) (scale shift : ℕ) → z ≡ x.coefficient → shift ≡ scale - x.scale → shift ≡ 0
    → z ≡ aligned_coefficient x scale
aligned_same x z scale shift e f none = aligned_at x z (scale - x.scale) e (sym f ∙ none)

pub aligned_by : (x : Fraction) (z p r : ℤ) (scale shift : ℕ) → z ≡ x.coefficient → p ≡ pos (10 ^ shift)
    → shift ≡ scale - x.scale → r ≡ z *ℤ p → r ≡ aligned_coefficient x scale
aligned_by x z p r scale shift e f g h =
    h ∙ ap (λ t. t *ℤ p) e ∙ ap (λ t. x.coefficient *ℤ t) f ∙ ap (λ n. x.coefficient *ℤ pos (10 ^ n)) g

-- An intermediate result of 64 bits with at most 18 decimals.
within_itself : (v : ℤ) (scale : ℕ) → is_within v ≡ true → scale ≤ 18 → intermediate v scale ≡ given v scale
within_itself v scale h k =
    let none : scale - 18 ≡ 0 = omega arith in
    let least : min scale 18 ≡ scale = omega arith in
    ap (λ t. if t then given (int_div v (pos (10 ^ (scale - 18)))) (min scale 18) else size_error) h
    ∙ ap (λ n. given (int_div v (pos (10 ^ n))) (min scale 18)) none
    ∙ ap (λ z. given z (min scale 18)) (div_one v) ∙ ap (given v) least

combined_short : (op : ℤ → ℤ → ℤ) (x y r : Fraction) (a b t : ℤ) (scale : ℕ)
    → scale ≡ max x.scale y.scale → scale ≤ 18 → a ≡ aligned_coefficient x scale → b ≡ aligned_coefficient y scale
    → FitsSigned w64 a → FitsSigned w64 b → t ≡ op a b → FitsSigned w64 t → r.coefficient ≡ t → r.scale ≡ scale
    → Ok r ≡ aligned_operation op x y (max x.scale y.scale)
combined_short op x y r a b t scale e most f g left right h fits i j =
    let both : ℤ → ℤ → Result Fraction Size =
    λ u v. if is_within u && is_within v then intermediate (op u v) scale else size_error in
    ap (λ z. given z r.scale) i ∙ ap (given t) j ∙ sym (within_itself t scale (short_within t fits) most)
    ∙ ap (λ v. intermediate v scale) h
    ∙ sym (ap (λ c. if c && is_within b then intermediate (op a b) scale else size_error) (short_within a left)
    ∙ ap (λ c. if c then intermediate (op a b) scale else size_error) (short_within b right))
    ∙ ap (λ u. both u b) f ∙ ap (both (aligned_coefficient x scale)) g ∙ ap (aligned_operation op x y) e

pub sum_short : (x y r : Fraction) (a b t : ℤ) (scale : ℕ) → scale ≡ max x.scale y.scale → scale ≤ 18
    → a ≡ aligned_coefficient x scale → b ≡ aligned_coefficient y scale → FitsSigned w64 a → FitsSigned w64 b
    → t ≡ a +ℤ b → FitsSigned w64 t → r.coefficient ≡ t → r.scale ≡ scale → Ok r ≡ sum x y
unfolding sum
sum_short = combined_short ◌+ℤ◌

pub difference_short : (x y r : Fraction) (a b t : ℤ) (scale : ℕ) → scale ≡ max x.scale y.scale → scale ≤ 18
    → a ≡ aligned_coefficient x scale → b ≡ aligned_coefficient y scale → FitsSigned w64 a → FitsSigned w64 b
    → t ≡ a -ℤ b → FitsSigned w64 t → r.coefficient ≡ t → r.scale ≡ scale → Ok r ≡ difference x y
unfolding difference
difference_short = combined_short ◌-ℤ◌

pub product_short : (x y r : Fraction) (a b t : ℤ) (scale : ℕ) → scale ≡ x.scale + y.scale → scale ≤ 18
    → a ≡ x.coefficient → b ≡ y.coefficient → t ≡ a *ℤ b → FitsSigned w64 t → r.coefficient ≡ t → r.scale ≡ scale
    → Ok r ≡ product x y
unfolding product
product_short x y r a b t scale e most f g h fits i j =
    ap (λ z. given z r.scale) i ∙ ap (given t) j ∙ sym (within_itself t scale (short_within t fits) most)
    ∙ ap (λ v. intermediate v scale) (h ∙ ap (λ u. u *ℤ b) f ∙ ap (λ u. x.coefficient *ℤ u) g)
    ∙ ap (intermediate (x.coefficient *ℤ y.coefficient)) e
