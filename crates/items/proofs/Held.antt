-- What bytes hold, their item can hold.
use Rattle.std.proofs.Common.{◌≡◌, ◌<◌, ◌^◌, ℕ, Bool, true, false, not, ◌&&◌, ◌||◌, ℤ, nat_lt, if◌then◌else◌}
use Rattle.std.proofs.Common.{unsigned_abs, List, Option, Some, None, refl, subst, arith}
use Rattle.std.proofs.lemmas.Bool.Decides.{nat_tests}
use Rattle.decimal18.specs.Fraction.{Fraction, is_negative}
use Rattle.items.specs.declared.numeric.Numeric.{Numeric}
use Rattle.items.specs.Numbers.{CanHold, is_signed}
use Rattle.items.specs.Values.{integer_in, is_held, value_if_held, value_of}

both : (a b : Bool) → (a && b) ≡ true → (a ≡ true) × (b ≡ true)
both true b e = (refl, e)
both false b e = cc

some_is : {A : Type 0} {a b : A} → Some a ≡ Some b → a ≡ b
some_is e = cc

of_integer : (n : Numeric) (z : ℤ) → is_held n z ≡ true → CanHold n (record { coefficient = z; scale = n.scale })
of_integer n z e =
    let parts = both (nat_lt (unsigned_abs z) (10 ^ n.digits)) (is_signed n || not (is_negative z)) e in
    let small : unsigned_abs z < 10 ^ n.digits = grind (arith, nat_tests) in
    record { scale = refl; digits = small; sign = parts.1 }

of_held : (n : Numeric) (z : ℤ) (x : Fraction) → value_if_held n (Some z) ≡ Some x → CanHold n x
of_held n z x e = go (is_held n z) refl e
  where
    go : (b : Bool) → is_held n z ≡ b
        → (if b then Some (record { coefficient = z; scale = n.scale }) else None) ≡ Some x → CanHold n x
    go true is e = subst (CanHold n) (some_is e) (of_integer n z is)
    go false is e = cc

pub held_number : (n : Numeric) (bytes : List ℕ) (x : Fraction) → value_of n bytes ≡ Some x → CanHold n x
unfolding value_of
held_number n bytes x e = go (integer_in n.usage bytes) e
  where
    go : (o : Option ℤ) → value_if_held n o ≡ Some x → CanHold n x
    go None e = cc
    go (Some z) e = of_held n z x e
