-- Numbers from and by their decimal digits (COBOL-85, Nucleus, numeric literals and the digit positions of a numeric item).
use Rattle.std.specs.Prelude.{ℕ, zero, suc, Bool, ℤ, pos, List, [], ◌∷◌, ◌+◌, ◌-◌, ◌*◌, ◌/◌, ◌%◌, ◌^◌, ◌==◌, unsigned_abs, int_div, if◌then◌else◌, Option, Some, None, Result}
use Rattle.std.specs.Char.{is_ascii_digit}
use Rattle.std.specs.List.{list_all}
use Rattle.decimal18.specs.Fraction.{Fraction, signed_integer}
use Rattle.decimal18.specs.Arithmetic.{intermediate}
use Rattle.decimal18.specs.declared.size_error.Size.{Size}

-- The number that ASCII digits stand for, after those of n.
abbrev pub digits_after : ℕ → List ℕ → ℕ
digits_after n [] = n
digits_after n (c ∷ cs) = digits_after (10 * n + (c - 48)) cs

-- The same of bytes that may be no digits.
abbrev pub number_after : ℕ → List ℕ → Option ℕ
number_after n cs = if list_all is_ascii_digit cs then Some (digits_after n cs) else None

-- The number with this sign and these digits, the last of them decimals.
unfoldable pub decimal_of_digits : Bool → List ℕ → ℕ → Result Fraction Size
decimal_of_digits negative digits scale = intermediate (signed_integer negative (digits_after 0 digits)) scale

-- The digit of n with so many digits to its right.
abbrev pub digit_of : ℕ → ℕ → ℕ
digit_of n place = n / 10 ^ place % 10

-- The last digits of n, so many, as ASCII characters: each is 48 plus the digit with as many places to its right as
-- characters follow it.
abbrev pub digit_text : ℕ → ℕ → List ℕ
digit_text zero n = []
digit_text (suc count) n = (48 + digit_of n count) ∷ digit_text count n

-- The integer that the number is, if it is one.
abbrev pub integer_of : Fraction → Option ℤ
integer_of x =
    if unsigned_abs x.coefficient % 10 ^ x.scale == 0
    then Some (int_div x.coefficient (pos (10 ^ x.scale)))
    else None
