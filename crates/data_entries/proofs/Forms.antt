-- What literals send has the bytes of what it counts as.
use Rattle.std.proofs.Common.{◌≡◌, ℕ, ◌+◌, ◌-◌, ◌≤◌, Bool, true, false, ◌&&◌, ◌++◌, length, refl, length-append, arith}
use Rattle.std.proofs.lemmas.List.{length-set}
use Rattle.std.specs.Prelude.{unsigned_abs, slice_index}
use Rattle.std.specs.Char.{is_ascii_digit}
use Rattle.std.specs.List.{list_all}
use Rattle.decimal18.specs.Digits.{digit_text}
use Rattle.decimal18.specs.Fraction.{Fraction, is_negative}
use Rattle.lexical.specs.declared.number.Sign.{Sign}
use Rattle.lexical.specs.declared.number.Sign.TheVariants as sign
use Rattle.lexical.specs.declared.number.NumericLiteral.{NumericLiteral}
use Rattle.items.specs.Numbers.{IsNumeric, sign_length, length_of}
use Rattle.items.specs.Display.{with_minus_mark, display_bytes}
use Rattle.items.specs.Values.{bytes_of}
use Rattle.items.specs.Items.{IsTaken}
use Rattle.items.proofs.Digits.{text_length}
use Rattle.source_tree.specs.Literals.{literal_sign, literal_number, literal_numeric, literal_sender}
use Rattle.source_tree.specs.ValueRules.{most_literal_digits, most_literal_characters, are_some, has_form}
use Rattle.source_tree.specs.declared.literal.LiteralValue.{LiteralValue}
use Rattle.source_tree.specs.declared.literal.LiteralValue.TheVariants as literal

-- ---- counts

last_of : (a b c : Bool) → (a && b && c) ≡ true → c ≡ true
last_of true true c e = e
last_of true false c e = cc
last_of false b c e = cc

counted : (most n : ℕ) → are_some most n ≡ true → (1 ≤ n) × (n ≤ most)
counted most n e = (grind arith, grind arith)

-- ---- numeric literals

numeric_formed : (one : NumericLiteral) → has_form (literal.Numeric one) ≡ true → IsNumeric (literal_numeric one)
numeric_formed one e =
    let all : ℕ = length (one.whole ++ one.decimals) in
    let count : (1 ≤ all) × (all ≤ most_literal_digits) =
    counted most_literal_digits all (last_of (list_all is_ascii_digit one.whole) (list_all is_ascii_digit one.decimals)
    (are_some most_literal_digits all) e) in
    record { some = count.0; most = count.1; decimals = omega (arith, length-append one.whole one.decimals) }

-- A minus is held with the last digit.
marked_length : (digits magnitude : ℕ) → length (with_minus_mark (digits - 1) (digit_text digits magnitude)) ≡ digits
marked_length digits magnitude = omega (
  arith,
  length-set (digit_text digits magnitude) (digits - 1) (slice_index (digit_text digits magnitude) (digits - 1) + 64),
  text_length digits magnitude,
)

display_length : (one : Sign) (digits : ℕ) (negative : Bool) (magnitude : ℕ)
    → length (display_bytes (literal_sign one) digits negative magnitude) ≡ digits + sign_length (literal_sign one)
display_length sign.Unsigned digits negative magnitude = omega (arith, text_length digits magnitude)
display_length sign.Plus digits true magnitude = omega (arith, marked_length digits magnitude)
display_length sign.Plus digits false magnitude = omega (arith, text_length digits magnitude)
display_length sign.Minus digits true magnitude = omega (arith, marked_length digits magnitude)
display_length sign.Minus digits false magnitude = omega (arith, text_length digits magnitude)

number_length : (one : NumericLiteral) (x : Fraction)
    → length (bytes_of (literal_numeric one) x) ≡ length_of (literal_numeric one)
unfolding bytes_of
number_length one x = display_length one.sign (length (one.whole ++ one.decimals)) (is_negative x.coefficient)
    (unsigned_abs x.coefficient)

-- ---- all literals

pub sender_formed : (value : LiteralValue) → has_form value ≡ true
    → IsTaken (literal_sender value).taken (literal_sender value).bytes
sender_formed (literal.Numeric one) e =
    record { form = (numeric_formed one e, refl); size = number_length one (literal_number one) }
sender_formed (literal.Nonnumeric bytes) e =
    let some = counted most_literal_characters (length bytes) e in
    record { form = (some.0, omega (arith, some.1)); size = refl }
sender_formed (literal.Figurative one) e = tt
sender_formed (literal.All bytes) e = (counted most_literal_characters (length bytes) e).0
