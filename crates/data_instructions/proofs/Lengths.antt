-- How long what DISPLAY shows is.
use Rattle.std.proofs.Common.{◌≡◌, ℕ, zero, suc, ◌+◌, ◌-◌, ◌≤◌, length, List, [], ◌∷◌, ◌++◌, take, drop, refl, ap, ◌∙◌}
use Rattle.std.proofs.Common.{subst, arith, Option, Some, None}
use Rattle.std.specs.Prelude.{Bool, true, false, ◌==◌, if◌then◌else◌, slice_range, unsigned_abs}
use Rattle.std.specs.Option.{option_map}
use Rattle.std.specs.Prelude.{replicate}
use Rattle.std.proofs.lemmas.List.{length-take, length-drop, length-append, length-replicate, append-nil}
use Rattle.std.proofs.Math.Seq.{take-length}
use Rattle.std.proofs.lemmas.Option.{same_Some}
use Rattle.decimal18.specs.Fraction.{Fraction, is_negative}
use Rattle.decimal18.specs.Digits.{digit_text}
use Rattle.items.specs.declared.numeric.Numeric.{Numeric}
use Rattle.items.specs.declared.item.Kind.{Kind}
use Rattle.items.specs.declared.item.Kind.TheVariants as k
use Rattle.items.specs.Numbers.{is_signed}
use Rattle.items.specs.Display.{sign_character}
use Rattle.items.specs.Values.{value_of, digits_of}
use Rattle.items.specs.Texts.{padded_text}
use Rattle.text_ops.specs.Shown.{point, shown_bytes, shown_sign, shown_digits, number_text}
use Rattle.text_ops.specs.Lengths.{shown_length}

digits_long : (count n : ℕ) → length (digit_text count n) ≡ count
digits_long zero n = refl
digits_long (suc count) n = let h = digits_long count n in omega (arith, h)

sign_long : (b : Bool) (c : ℕ) → length (if b then c ∷ [] else []) ≤ 1
sign_long true c = omega arith
sign_long false c = omega arith

point_long : (b : Bool) (at : ℕ) (text : List ℕ)
    → length (if b then text else take at text ++ point ∷ drop at text) ≤ length text + 1
point_long true at text = omega arith
point_long false at text =
    let whole = length-append (take at text) (point ∷ drop at text) in
    let front = length-take at text in
    let back = length-drop at text in
    omega (arith, whole, front, back)

number_long : (n : Numeric) (x : Fraction) → length (number_text n x) ≤ n.digits + 2
number_long n x =
    let whole = length-append (shown_sign n x) (shown_digits n.digits n.scale (digits_of n x)) in
    let sign = sign_long (is_signed n) (sign_character (is_negative x.coefficient)) in
    let digits = point_long (n.scale == 0) (n.digits - n.scale) (digits_of n x) in
    let long : length (digits_of n x) ≡ n.digits = digits_long n.digits (unsigned_abs x.coefficient) in
    omega (arith, whole, sign, digits, long)

-- What is shown of an item takes no more than the room for it.
pub shown_long : (kind : Kind) (bytes text : List ℕ) → shown_bytes kind bytes ≡ Some text → (size : ℕ)
    → length bytes ≤ size → length text ≤ shown_length kind size
unfolding shown_bytes
shown_long (k.Numeric n) bytes text e size within = by_value (value_of n bytes) e
  where
    by_value : (o : Option Fraction) → option_map (number_text n) o ≡ Some text → length text ≤ n.digits + 2
    by_value None e = absurd cc
    by_value (Some x) e = let is = ap length (same_Some (number_text n x) text e) in let long =
        number_long n x in omega (arith, is, long)
shown_long k.Group bytes text e size within = let is = ap length (same_Some bytes text e) in omega (arith, is, within)
shown_long (k.Alphabetic right) bytes text e size within = let is =
    ap length (same_Some bytes text e) in omega (arith, is, within)
shown_long (k.Alphanumeric right) bytes text e size within = let is =
    ap length (same_Some bytes text e) in omega (arith, is, within)
shown_long k.AlphanumericEdited bytes text e size within = let is =
    ap length (same_Some bytes text e) in omega (arith, is, within)
shown_long (k.NumericEdited blank) bytes text e size within = let is =
    ap length (same_Some bytes text e) in omega (arith, is, within)

pub range_long : (xs : List ℕ) (at size : ℕ) → length (slice_range xs at (at + size)) ≤ size
range_long xs at size = let h = length-take (at + size - at) (drop at xs) in omega (arith, h)

pub padded_long : (size : ℕ) (text : List ℕ) → length (padded_text size text) ≡ size
padded_long size text = omega (
  arith,
  length-append (take size text) (replicate (size - length text) 32),
  length-take size text,
  length-replicate {A = ℕ} (size - length text) 32,
)

-- a text of this size
pub padded_whole : (size : ℕ) (text : List ℕ) → length text ≡ size → padded_text size text ≡ text
padded_whole size text is =
    subst (λ n. padded_text n text ≡ text) is whole
  where
    whole : padded_text (length text) text ≡ text
    whole =
        let none : length text - length text ≡ 0 = omega arith in
        ap (λ n. take (length text) text ++ replicate n 32) none ∙ append-nil (take (length text) text)
        ∙ take-length text
