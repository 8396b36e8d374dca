-- The number in a RELATIVE KEY item.
use Rattle.std.proofs.Common.{◌≡◌, ◌<◌, ◌≤◌, ℕ, ◌*◌, ◌/◌, ◌%◌, ◌^◌, Bool, true, false, not, ◌&&◌, ◌||◌, ◌==◌, List}
use Rattle.std.proofs.Common.{length, Option, Some, None, refl, sym, ◌∙◌, ap, subst, arith, ℤ, pos, negsuc}
use Rattle.std.proofs.Common.{unsigned_abs}
use Rattle.std.proofs.Common.{if◌then◌else◌, int_div}
use Rattle.std.proofs.lemmas.Bool.Decides.{nat_tests}
use Rattle.decimal18.specs.Fraction.{Fraction, is_negative}
use Rattle.decimal18.specs.Digits.{integer_of}
use Rattle.decimal18.specs.Receiver.{low_digits}
use Rattle.decimal18.specs.declared.receiver.Rounding.TheVariants.{Truncated}
use Rattle.decimal18.proofs.Signs.{signed_itself, div-signed, abs-signed}
use Rattle.decimal18.proofs.Receivers.{low_by}
use Rattle.items.specs.declared.item.Kind.{Kind}
use Rattle.items.specs.declared.item.Kind.TheVariants as kind
use Rattle.items.specs.declared.numeric.Numeric.{Numeric}
use Rattle.items.specs.Items.{IsOfLength, number_in}
use Rattle.items.specs.Numbers.{CanHold, is_signed}
use Rattle.items.proofs.Bounds.{below}
use Rattle.items.proofs.Held.{held_number}
use Rattle.source_tree.specs.FileRules.{is_unsigned_integer}
use Rattle.source_tree.specs.FileStatements.{number_held}
use Rattle.data_instructions.specs.Table.{natural_by, natural_in}

-- ---- what is held

quotient_below : (n d : ℕ) → n / d ≤ n
quotient_below n d = grind arith

shorter : (z : ℤ) (unit : ℕ) → unsigned_abs (int_div z (pos unit)) ≤ unsigned_abs z
shorter z unit =
    let quotient : unsigned_abs (int_div z (pos unit)) ≡ unsigned_abs z / unit =
    ap (λ y. unsigned_abs (int_div y (pos unit))) (sym (signed_itself z))
    ∙ ap unsigned_abs (div-signed (is_negative z) (unsigned_abs z) unit)
    ∙ abs-signed (is_negative z) (unsigned_abs z / unit) in
    subst (λ n. n ≤ unsigned_abs z) (sym quotient) (quotient_below (unsigned_abs z) unit)

whole_is : (x : Fraction) (z : ℤ) → integer_of x ≡ Some z → z ≡ int_div x.coefficient (pos (10 ^ x.scale))
whole_is x z e = by (unsigned_abs x.coefficient % 10 ^ x.scale == 0) e
  where
    by : (b : Bool) → (if b then Some (int_div x.coefficient (pos (10 ^ x.scale))) else None) ≡ Some z
        → z ≡ int_div x.coefficient (pos (10 ^ x.scale))
    by true e = cc
    by false e = absurd cc

-- An integer that an item holds fits 64 bits.
pub held_below : (k : Kind) (bytes : List ℕ) (x : Fraction) (z : ℤ) → IsOfLength k (length bytes)
    → number_in k bytes ≡ Some x → integer_of x ≡ Some z
    → unsigned_abs z < 10 ^ 18
held_below (kind.Numeric n) bytes x z form is e =
    let held = held_number n bytes x is in
    let most = below (unsigned_abs x.coefficient) n.digits 18 held.digits form.0.most in
    let less = subst (λ y. unsigned_abs y ≤ unsigned_abs x.coefficient) (sym (whole_is x z e))
    (shorter x.coefficient (10 ^ x.scale)) in
    omega (arith, most, less)
held_below kind.Group bytes x z form is e = absurd cc
held_below (kind.Alphabetic justified) bytes x z form is e = absurd cc
held_below (kind.Alphanumeric justified) bytes x z form is e = absurd cc
held_below kind.AlphanumericEdited bytes x z form is e = absurd cc
held_below (kind.NumericEdited blank) bytes x z form is e = absurd cc

-- what counts as a number from 0 on
natural_small : (o : Option ℤ) → ((z : ℤ) → o ≡ Some z → unsigned_abs z < 10 ^ 18) → natural_by o < 10 ^ 18
natural_small None small = omega arith
natural_small (Some (pos n)) small = small (pos n) refl
natural_small (Some (negsuc n)) small = omega arith

pub natural_below : (k : Kind) (bytes : List ℕ) (x : Option Fraction) → IsOfLength k (length bytes)
    → x ≡ number_in k bytes → natural_in x < 10 ^ 18
natural_below k bytes None form is = omega arith
natural_below k bytes (Some x) form is = natural_small (integer_of x) (λ z. held_below k bytes x z form (sym is))

pub natural_held : (o : Option ℤ) → natural_by o ≡ number_held o
natural_held None = refl
natural_held (Some (pos n)) = refl
natural_held (Some (negsuc n)) = refl

-- ---- what is stored

times_one : (n : ℕ) → n * 1 ≡ n
times_one n = omega arith

-- the low digits of an integer
pub low_is : (n digits : ℕ) → low_digits (record { coefficient = pos n; scale = 0 }) digits 0
    Truncated ≡ record { coefficient = pos (n % 10 ^ digits); scale = 0 }
low_is n digits =
    low_by (record { coefficient = pos n; scale = 0 }) digits 0 Truncated
    ∙ ap (λ m. record { coefficient = pos (m % 10 ^ digits); scale = 0 }) (times_one n)

both : (a b : Bool) → (a && b) ≡ true → (a ≡ true) × (b ≡ true)
both true b e = (refl, e)
both false b e = cc

-- an unsigned integer has no decimals, and holds each number of no more digits
pub unsigned_holds : (n : Numeric) (m : ℕ) → is_unsigned_integer (kind.Numeric n) ≡ true → m < 10 ^ n.digits
    → CanHold n (record { coefficient = pos m; scale = 0 })
unsigned_holds n m is small =
    let parts = both (not (is_signed n)) (n.scale == 0) is in
    let none : n.scale ≡ 0 = grind (arith, nat_tests) in
    record { scale = sym none; digits = small; sign = either (is_signed n) }
  where
    either : (b : Bool) → (b || true) ≡ true
    either true = refl
    either false = refl
