-- The definitions on small numbers.
use Rattle.std.specs.Prelude.{◌≡◌, ◌*◌, ℤ, ℕ, pos, negsuc, refl, Ok, ◌^◌, ◌-◌, true, ◌∷◌, [], Some, None, Result}
use Rattle.std.specs.declared.cmp.Ordering.TheVariants.{Less, Equal}
use Rattle.decimal18.specs.Fraction.{Fraction, of_parts, absolute}
use Rattle.decimal18.specs.Arithmetic.{sum, difference, product, size_error}
use Rattle.decimal18.specs.Quotient.{quotient, greatest}
use Rattle.decimal18.specs.Receiver.{fitted_decimal, low_digits, truncated_decimal}
use Rattle.decimal18.specs.Order.{order}
use Rattle.decimal18.specs.Digits.{decimal_of_digits, integer_of, digit_text}
use Rattle.decimal18.specs.declared.size_error.Size.{Size}
use Rattle.decimal18.specs.declared.receiver.Rounding.TheVariants.{Truncated, Rounded}

abbrev number : ℤ → ℕ → Fraction
number n scale = record { coefficient = n; scale = scale }

abbrev given : ℤ → ℕ → Result Fraction Size
given n scale = Ok (number n scale)

-- 1.5 + 0.25 = 1.75, and 1.5 - 2 = -0.5
sum_of_two : sum (number (pos 15) 1) (number (pos 25) 2) ≡ given (pos 175) 2
unfolding sum
sum_of_two = refl

below_zero : difference (number (pos 15) 1) (number (pos 2) 0) ≡ given (negsuc 4) 1
unfolding difference
below_zero = refl

-- 38 nines are a coefficient; one more is none.
most_and_one : sum (number (pos (10 ^ 38 - 1)) 0) (number (pos 1) 0) ≡ size_error
unfolding sum
most_and_one = refl

most_and_none : sum (number (pos (10 ^ 38 - 1)) 0) (number (pos 0) 0) ≡ given (pos (10 ^ 38 - 1)) 0
unfolding sum
most_and_none = refl

-- An alignment past the limit is a size error, though the sum were small.
alignment : sum (number (pos (10 ^ 37)) 0) (number (pos 1) 1) ≡ size_error
unfolding sum
alignment = refl

square : product (number (pos 999999999999999999) 0) (number (pos 999999999999999999) 0)
    ≡ given (pos 999999999999999998000000000000000001) 0
unfolding product
square = refl

cube : product (number (pos 999999999999999998000000000000000001) 0) (number (pos 999999999999999999) 0) ≡ size_error
unfolding product
cube = refl

-- 0.0000000001 squared has 20 decimals, of which 18 stay.
small_square : product (number (negsuc 14) 10) (number (pos 15) 10) ≡ given (negsuc 1) 18
unfolding product
small_square = refl

third : quotient (number (pos 1) 0) (number (pos 3) 0) ≡ given (pos 333333333333333333) 18
unfolding quotient greatest
third = refl

negative_quotient : quotient (number (negsuc 1) 0) (number (pos 3) 0) ≡ given (negsuc 666666666666666665) 18
unfolding quotient greatest
negative_quotient = refl

no_scale : quotient (number (pos (10 ^ 37)) 0) (number (pos 1) 18) ≡ size_error
unfolding quotient greatest
no_scale = refl

by_zero : quotient (number (pos 1) 0) (number (pos 0) 5) ≡ size_error
unfolding quotient
by_zero = refl

-- 2.5 and -2.5 rounded; 9.96 in two digits and in one.
half_up : fitted_decimal (number (pos 25) 1) 1 0 Rounded ≡ given (pos 3) 0
unfolding fitted_decimal
half_up = refl

half_down : fitted_decimal (number (negsuc 24) 1) 1 0 Rounded ≡ given (negsuc 2) 0
unfolding fitted_decimal
half_down = refl

-- 4.45 is rounded by its first dropped digit alone: to 4, and not by way of 4.5 to 5.
one_digit : fitted_decimal (number (pos 445) 2) 1 0 Rounded ≡ given (pos 4) 0
unfolding fitted_decimal
one_digit = refl

ten : fitted_decimal (number (pos 996) 2) 3 1 Rounded ≡ given (pos 100) 1
unfolding fitted_decimal
ten = refl

too_many : fitted_decimal (number (pos 996) 2) 2 1 Rounded ≡ size_error
unfolding fitted_decimal
too_many = refl

low_two : low_digits (number (pos 996) 2) 2 1 Rounded ≡ number (pos 0) 1
unfolding low_digits
low_two = refl

-- -0.004 cut to two places is zero, without a sign.
no_sign : low_digits (number (negsuc 3) 3) 5 2 Truncated ≡ number (pos 0) 2
unfolding low_digits
no_sign = refl

moved : low_digits (number (pos 12345) 2) 3 1 Truncated ≡ number (pos 234) 1
unfolding low_digits
moved = refl

same_value : order (number (pos 10) 1) (number (pos 100) 2) ≡ Equal
unfolding order
same_value = refl

less : order (number (negsuc 0) 1) (number (pos 0) 18) ≡ Less
unfolding order
less = refl

spelling : decimal_of_digits true (48 ∷ 49 ∷ 50 ∷ 53 ∷ []) 2 ≡ given (negsuc 124) 2
unfolding decimal_of_digits
spelling = refl

integer : integer_of (number (negsuc 119) 1) ≡ Some (negsuc 11)
integer = refl

no_integer : integer_of (number (pos 125) 1) ≡ None
no_integer = refl

-- -12.5 and zero, which has no sign, by their parts; -12.5 without its sign.
parts : of_parts true 125 1 ≡ number (negsuc 124) 1
parts = refl

zero_parts : of_parts true 0 2 ≡ number (pos 0) 2
zero_parts = refl

without_sign : absolute (number (negsuc 124) 1) ≡ number (pos 125) 1
without_sign = refl

-- 12.34 in six characters, in three and in none.
six_characters : digit_text 6 1234 ≡ 48 ∷ 48 ∷ 49 ∷ 50 ∷ 51 ∷ 52 ∷ []
six_characters = refl

three_characters : digit_text 3 1234 ≡ 50 ∷ 51 ∷ 52 ∷ []
three_characters = refl

no_characters : digit_text 0 1234 ≡ []
no_characters = refl

-- -2.75 cut at one decimal, and at three.
cut_short : truncated_decimal (number (negsuc 274) 2) 1 ≡ number (negsuc 26) 1
unfolding truncated_decimal
cut_short = refl

cut_long : truncated_decimal (number (negsuc 274) 2) 3 ≡ number (negsuc 274) 2
unfolding truncated_decimal
cut_long = refl

-- DIVIDE 100 BY 7 GIVING Q REMAINDER R, Q of one decimal: 14.2 and 0.6.
one_decimal : truncated_decimal (number (pos 14285714285714285714) 18) 1 ≡ number (pos 142) 1
unfolding truncated_decimal
one_decimal = refl

-- DIVIDE 999 BY 1E-18 GIVING Q REMAINDER R, Q of 18 decimals: the quotient has 17, and keeps all its whole digits, so
-- that the remainder is 0.
long_quotient : quotient (number (pos 999) 0) (number (pos 1) 18) ≡ given (pos (999 * 10 ^ 35)) 17
unfolding quotient greatest
long_quotient = refl

all_whole_digits : truncated_decimal (number (pos (999 * 10 ^ 35)) 17) 18 ≡ number (pos (999 * 10 ^ 35)) 17
unfolding truncated_decimal
all_whole_digits = refl

times_divisor : product (number (pos (999 * 10 ^ 35)) 17) (number (pos 1) 18) ≡ given (pos (999 * 10 ^ 18)) 18
unfolding product
times_divisor = refl

no_remainder : difference (number (pos 999) 0) (number (pos (999 * 10 ^ 18)) 18) ≡ given (pos 0) 18
unfolding difference
no_remainder = refl

-- The low 38 digits would have lost a whole digit.
low_digits_lose : low_digits (number (pos (999 * 10 ^ 35)) 17) 38 18 Truncated ≡ number (pos (99 * 10 ^ 36)) 18
unfolding low_digits
low_digits_lose = refl
