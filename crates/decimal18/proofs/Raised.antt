-- What a comparison of aligned coefficients says.
use Rattle.std.proofs.Common.{◌≡◌, ℕ, ◌≤◌, ◌-◌, ◌^◌, ℤ, pos, ◌*ℤ◌, ap, sym, ◌∙◌}
use Rattle.std.specs.Ordering.{int_cmp}
use Rattle.std.specs.declared.cmp.Ordering.{Ordering}
use Rattle.decimal18.specs.Fraction.{Fraction}
use Rattle.decimal18.specs.Order.{order}
use Rattle.decimal18.specs.TotalOrder.{order_raised, int_cmp-scaled, ten_pos}

pub compared : (x y : Fraction) (a b : ℤ) (k : ℕ) (r : Ordering) → x.scale ≤ y.scale → a ≡ x.coefficient
    → b ≡ y.coefficient → k ≡ y.scale - x.scale → r ≡ int_cmp (a *ℤ pos (10 ^ k)) b → r ≡ order x y
compared x y a b k r h e f g s =
    s ∙ ap (λ t. int_cmp (t *ℤ pos (10 ^ k)) b) e ∙ ap (int_cmp (x.coefficient *ℤ pos (10 ^ k))) f
    ∙ ap (λ n. int_cmp (x.coefficient *ℤ pos (10 ^ n)) y.coefficient) g ∙ order_raised x y h

pub at_scale : (x y : Fraction) (a b : ℤ) (r : Ordering) → x.scale ≡ y.scale → a ≡ x.coefficient → b ≡ y.coefficient
    → r ≡ int_cmp a b → r ≡ order x y
unfolding order
at_scale x y a b r h e f s =
    s ∙ ap (λ t. int_cmp t b) e ∙ ap (int_cmp x.coefficient) f
    ∙ sym (int_cmp-scaled x.coefficient y.coefficient (10 ^ y.scale) (ten_pos y.scale))
    ∙ ap (λ n. int_cmp (x.coefficient *ℤ pos (10 ^ y.scale)) (y.coefficient *ℤ pos (10 ^ n))) (sym h)
