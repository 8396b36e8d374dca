-- Digits in items in DISPLAY usage: bytes that are digits alone, and a last digit that may carry a minus.
use Rattle.std.proofs.Common.{◌≡◌, ℕ, ◌+◌, ◌-◌, ◌*◌, ◌<◌, ◌≤◌, ◌^◌, Bool, true, false, ◌&&◌, ◌||◌, not, pos, ℤ}
use Rattle.std.proofs.Common.{List, length, take, Option, Some, None, nat_lt, if◌then◌else◌, refl, sym, ◌∙◌, ap, arith}
use Rattle.std.specs.Option.{option_map}
use Rattle.std.specs.Char.{is_ascii_digit}
use Rattle.std.specs.List.{list_all}
use Rattle.std.proofs.lemmas.Bool.{lt-ltb, or_right}
use Rattle.std.proofs.lemmas.List.{length-take-le}
use Rattle.std.proofs.lemmas.Nat.{pow-add}
use Rattle.decimal18.specs.Fraction.{signed_integer, is_negative}
use Rattle.decimal18.specs.Digits.{digits_after, number_after}
use Rattle.decimal18.proofs.Powers.{power_le}
use Rattle.decimal18.proofs.Signs.{abs-signed}
use Rattle.items.specs.declared.usage.Usage.{Usage}
use Rattle.items.specs.declared.usage.Usage.TheVariants as usage
use Rattle.items.specs.declared.usage.OperationalSign.TheVariants as sign
use Rattle.items.specs.declared.numeric.Numeric.{Numeric}
use Rattle.items.specs.Numbers.{IsNumeric, is_signed, usage_is_signed, usage_length, length_of}
use Rattle.items.specs.Display.{with_digit}
use Rattle.items.specs.Values.{value_of, value_if_held, integer_in, is_held}

as_integer : (b : Bool) (m : ℕ) → (if b then Some (signed_integer false m) else None)
    ≡ option_map (λ (k : ℕ). pos k) (if b then Some m else None)
as_integer false m = refl
as_integer true m = refl

held_digits : (n : Numeric) (m : ℕ) → m < 10 ^ n.digits → is_held n (pos m) ≡ true
held_digits n m small =
    ap (λ (b : Bool). b && (is_signed n || true)) (lt-ltb m (10 ^ n.digits) small)
    ∙ or_right (is_signed n) true refl

module _ (n : Numeric) (bytes : List ℕ) (is : n.usage ≡ usage.Display sign.Unsigned) where
  by_digits : (r : Option ℕ) → r ≡ number_after 0 bytes
      → value_of n bytes ≡ value_if_held n (option_map (λ (k : ℕ). pos k) r)
  unfolding value_of
  by_digits r found =
      ap (λ (u : Usage). value_if_held n (integer_in u bytes)) is
      ∙ ap (value_if_held n) (as_integer (list_all is_ascii_digit bytes) (digits_after 0 bytes))
      ∙ ap (λ (o : Option ℕ). value_if_held n (option_map (λ (k : ℕ). pos k) o)) (sym found)

  pub unsigned_found : (m : ℕ) → Some m ≡ number_after 0 bytes → m < 10 ^ n.digits
      → value_of n bytes ≡ Some (record { coefficient = pos m; scale = n.scale })
  unsigned_found m found small =
      by_digits (Some m) found
      ∙ ap (λ (b : Bool). if b then Some (record { coefficient = pos m; scale = n.scale }) else None)
      (held_digits n m small)

  pub unsigned_missed : None ≡ number_after 0 bytes → value_of n bytes ≡ None
  unsigned_missed found = by_digits None found

pub trailing_length : (n : Numeric) → n.usage ≡ usage.Display sign.Trailing → length_of n ≡ n.digits
trailing_length n is = let none : n.digits + 0 ≡ n.digits =
    omega arith in ap (λ (u : Usage). usage_length u n.digits) is ∙ none

-- The sign is with the last digit: what that digit and those before it make.
module _ (n : Numeric) (form : IsNumeric n) (is : n.usage ≡ usage.Display sign.Trailing) (bytes : List ℕ)
    (long : length bytes ≡ length_of n) where
  size : length bytes ≡ n.digits
  size = long ∙ trailing_length n is

  front_size : length (take (length bytes - 1) bytes) ≡ length bytes - 1
  front_size = length-take-le (length bytes - 1) bytes (omega arith)

  pub trailing_some : 1 ≤ length bytes
  trailing_some = omega (arith, size, form.some)

  pub front_room : (0 + 1) * 10 ^ length (take (length bytes - 1) bytes) ≤ 10 ^ 18
  front_room =
      let few = power_le (length (take (length bytes - 1) bytes)) 18 (omega (arith, front_size, size, form.most)) in
      omega (arith, few)

  pub last_small : (f d : ℕ) → f < (0 + 1) * 10 ^ length (take (length bytes - 1) bytes) → d ≤ 9
      → 10 * f + d < 10 ^ n.digits
  last_small f d small digit =
      let k = length (take (length bytes - 1) bytes) in
      let more : 10 ^ (k + 1) ≡ 10 ^ k * 10 = pow-add 10 k 1 in
      let whole : k + 1 ≡ n.digits = omega (arith, front_size, size, form.some) in
      let all : 10 ^ (k + 1) ≡ 10 ^ n.digits = ap (λ i. 10 ^ i) whole in
      omega (arith, small, digit, more, all)

  pub last_below : (f d : ℕ) → f < (0 + 1) * 10 ^ length (take (length bytes - 1) bytes) → d ≤ 9
      → 10 * f + d < 10 ^ 18
  last_below f d small digit =
      let few = power_le n.digits 18 form.most in omega (arith, few, last_small f d small digit)

  by_integer : (o : Option ℤ) → o ≡ with_digit (length bytes - 1) bytes → value_of n bytes ≡ value_if_held n o
  unfolding value_of
  by_integer o found =
      ap (λ (u : Usage). value_if_held n (integer_in u bytes)) is ∙ ap (value_if_held n) (sym found)

  held_signed : (b : Bool) (m : ℕ) → m < 10 ^ n.digits → is_held n (signed_integer b m) ≡ true
  held_signed b m small =
      let z = signed_integer b m in
      ap (λ k. nat_lt k (10 ^ n.digits) && (is_signed n || not (is_negative z))) (abs-signed b m)
      ∙ ap (λ (t : Bool). t && (is_signed n || not (is_negative z))) (lt-ltb m (10 ^ n.digits) small)
      ∙ ap (λ (u : Usage). usage_is_signed u || not (is_negative z)) is

  pub trailing_missed : None ≡ with_digit (length bytes - 1) bytes → None ≡ value_of n bytes
  trailing_missed found = sym (by_integer None found)

  pub trailing_found : (b : Bool) (m : ℕ) → Some (signed_integer b m) ≡ with_digit (length bytes - 1) bytes
      → m < 10 ^ n.digits → Some (record { coefficient = signed_integer b m; scale = n.scale }) ≡ value_of n bytes
  trailing_found b m found small =
      sym (by_integer (Some (signed_integer b m)) found
      ∙ ap (λ (t : Bool). if t then Some (record { coefficient = signed_integer b m; scale = n.scale }) else None)
      (held_signed b m small))
