-- Integers as numbers, and their sums.
use Rattle.std.proofs.Common.{◌≡◌, ℕ, suc, ◌+◌, ◌*◌, ◌^◌, ◌<◌, ◌≤◌, refl, sym, ◌∙◌, ap, subst, arith, List, ℤ, pos}
use Rattle.std.proofs.Common.{negsuc, neg_ℤ, ◌+ℤ◌, ◌-ℤ◌, ◌*ℤ◌, Option, Some, None}
use Rattle.std.proofs.lemmas.Int.{ints}
use Rattle.std.proofs.Math.Nat.{div-one, mod-one, pow-le-pow_right}
use Rattle.std.proofs.lemmas.Bool.{lt-ltb}
use Rattle.std.proofs.lemmas.Bool.Decides.{nat_tests}
use Rattle.std.proofs.lemmas.Option.{same_Some}
use Rattle.decimal18.specs.Fraction.{Fraction}
use Rattle.decimal18.specs.Digits.{integer_of}
use Rattle.decimal18.specs.Arithmetic.{sum, difference, aligned_operation, intermediate, is_within, size_error}
use Rattle.decimal18.specs.declared.size_error.Size.{Size}
use Rattle.items.specs.declared.item.Kind.{Kind}
use Rattle.items.specs.declared.item.Kind.TheVariants as k
use Rattle.items.specs.Items.{IsOfLength, number_in}
use Rattle.items.specs.Values.{value_of, integer_in, is_held, value_if_held}
use Rattle.source_tree.specs.NameRules.{is_integer_kind}
use Rattle.data_instructions.specs.Codes.{integer}
use Rattle.std.specs.Prelude.{Bool, true, false, ◌==◌, ◌&&◌, int_div, unsigned_abs, nat_lt, if◌then◌else◌, Result, Ok}

abs_sum : (a : ℤ) (n : ℕ) → unsigned_abs (a +ℤ pos n) ≤ unsigned_abs a + n
abs_sum (pos m) n = omega (arith, ints)
abs_sum (negsuc m) n = omega (arith, ints)

abs_difference : (a : ℤ) (n : ℕ) → unsigned_abs (a -ℤ pos n) ≤ unsigned_abs a + n
abs_difference (pos m) n = omega (arith, ints)
abs_difference (negsuc m) n = omega (arith, ints)

abbrev pub given : ℤ → Result Fraction Size
given z = Ok (record { coefficient = z; scale = 0 })

times_one : (z : ℤ) → z *ℤ pos 1 ≡ z
times_one (pos n) = let same : n * 1 ≡ n = omega arith in ap pos same
times_one (negsuc n) = let same : suc n * 1 ≡ suc n = omega arith in ap (λ m. neg_ℤ (pos m)) same

div_one : (z : ℤ) → int_div z (pos 1) ≡ z
div_one (pos n) = ap pos (div-one n)
div_one (negsuc n) = ap (λ m. neg_ℤ (pos m)) (div-one (suc n))

within : (z : ℤ) → unsigned_abs z < 10 ^ 38 → is_within z ≡ true
within z small = lt-ltb (unsigned_abs z) (10 ^ 38) small

-- An integer is its own whole part.
pub whole_integer : (z : ℤ) → integer_of (integer z) ≡ Some z
whole_integer z =
    ap (λ m. if m == 0 then Some (int_div z (pos 1)) else None) (mod-one (unsigned_abs z))
    ∙ ap (λ y. Some y) (div_one z)

combined_integers : (op : ℤ → ℤ → ℤ) (a b : ℤ) → unsigned_abs a < 10 ^ 38 → unsigned_abs b < 10 ^ 38
    → unsigned_abs (op a b) < 10 ^ 38 → aligned_operation op (integer a) (integer b) 0 ≡ given (op a b)
combined_integers op a b left right both =
    ap (λ x. (if is_within x && is_within (b *ℤ pos 1) then intermediate (op x (b *ℤ pos 1)) 0 else size_error))
    (times_one a)
    ∙ ap (λ y. (if is_within a && is_within y then intermediate (op a y) 0 else size_error)) (times_one b)
    ∙ ap (λ t. (if t && is_within b then intermediate (op a b) 0 else size_error)) (within a left)
    ∙ ap (λ t. (if t then intermediate (op a b) 0 else size_error)) (within b right)
    ∙ ap (λ t. (if t then given (int_div (op a b) (pos 1)) else size_error)) (within (op a b) both)
    ∙ ap given (div_one (op a b))

pub sum_integers : (a : ℤ) (n : ℕ) → unsigned_abs a < 10 ^ 18 → n < 10 ^ 18
    → sum (integer a) (integer (pos n)) ≡ given (a +ℤ pos n)
unfolding sum
sum_integers a n left right = let most = abs_sum a n in
    combined_integers ◌+ℤ◌ a (pos n) (omega (arith, left)) (omega (arith, right)) (omega (arith, most, left, right))

pub difference_integers : (a : ℤ) (n : ℕ) → unsigned_abs a < 10 ^ 18 → n < 10 ^ 18
    → difference (integer a) (integer (pos n)) ≡ given (a -ℤ pos n)
unfolding difference
difference_integers a n left right = let most = abs_difference a n in
    combined_integers ◌-ℤ◌ a (pos n) (omega (arith, left)) (omega (arith, right)) (omega (arith, most, left, right))

less_from : (m n : ℕ) → nat_lt m n ≡ true → m < n
less_from m n test = grind (arith, nat_tests)

first_true : (a b : Bool) → a && b ≡ true → a ≡ true
first_true true b e = refl
first_true false b e = absurd cc

-- the number in an integer item
pub integer_in_bytes : (kind : Kind) (bytes : List ℕ) (x : Fraction) (size : ℕ)
    → IsOfLength kind size → is_integer_kind kind ≡ true → number_in kind bytes ≡ Some x
    → (x ≡ integer x.coefficient) × (unsigned_abs x.coefficient < 10 ^ 18)
unfolding value_of
integer_in_bytes (k.Numeric n) bytes x size form whole_kind e = by_integer (integer_in n.usage bytes) e
  where
    scale_none : n.scale ≡ 0
    scale_none = grind (arith, nat_tests, whole_kind)

    by_integer : (o : Option ℤ) → value_if_held n o ≡ Some x
        → (x ≡ integer x.coefficient) × (unsigned_abs x.coefficient < 10 ^ 18)
    by_integer None e = absurd cc
    by_integer (Some z) e = by_test (is_held n z) refl e
      where
        by_test : (b : Bool)
            → is_held n z ≡ b → (if b then Some (record { coefficient = z; scale = n.scale }) else None) ≡ Some x
            → (x ≡ integer x.coefficient) × (unsigned_abs x.coefficient < 10 ^ 18)
        by_test false test e = absurd cc
        by_test true test e =
            let is : record { coefficient = z; scale = n.scale } ≡ x = same_Some _ x e in
            let scale : x.scale ≡ 0 = sym (ap (λ (f : Fraction). f.scale) is) ∙ scale_none in (
              ap (λ s. record { coefficient = x.coefficient; scale = s }) scale,
              subst (λ c. unsigned_abs c < 10 ^ 18) (ap (λ (f : Fraction). f.coefficient) is) small,
            )
          where
            small : unsigned_abs z < 10 ^ 18
            small =
                let below : unsigned_abs z < 10 ^ n.digits = less_from (unsigned_abs z) (10 ^ n.digits)
                (first_true (nat_lt (unsigned_abs z) (10 ^ n.digits)) _ test) in
                let most : 10 ^ n.digits ≤ 10 ^ 18 = pow-le-pow_right (omega arith) form.0.most in
                omega (arith, below, most)
integer_in_bytes k.Group bytes x size form whole_kind e = absurd cc
integer_in_bytes (k.Alphabetic right) bytes x size form whole_kind e = absurd cc
integer_in_bytes (k.Alphanumeric right) bytes x size form whole_kind e = absurd cc
integer_in_bytes k.AlphanumericEdited bytes x size form whole_kind e = absurd cc
integer_in_bytes (k.NumericEdited blank) bytes x size form whole_kind e = absurd cc
