-- What a numeric receiver keeps of a result (COBOL-85, Nucleus, the ROUNDED phrase, the ON SIZE ERROR phrase, and MOVE).
use Rattle.std.specs.Prelude.{ℕ, zero, suc, ℤ, pos, ◌+◌, ◌-◌, ◌*◌, ◌/◌, ◌%◌, ◌^◌, nat_lt, nat_le, unsigned_abs, int_div, int_rem, if◌then◌else◌, Result, Ok}
use Rattle.decimal18.specs.Fraction.{Fraction, is_negative, signed_integer}
use Rattle.decimal18.specs.Arithmetic.{size_error}
use Rattle.decimal18.specs.declared.size_error.Size.{Size}
use Rattle.decimal18.specs.declared.receiver.Rounding.{Rounding}
use Rattle.decimal18.specs.declared.receiver.Rounding.TheVariants.{Truncated, Rounded}

-- What rounding adds to the last digit kept where so many digits of m are dropped: 1 if the first of them is 5 or more.
abbrev pub carry : Rounding → ℕ → ℕ → ℕ
carry Truncated m dropped = 0
carry Rounded m zero = 0
carry Rounded m (suc rest) = if nat_le 5 (m / 10 ^ rest % 10) then 1 else 0

-- The digits of m / 10 ^ from at another scale.
abbrev pub digits_at : ℕ → ℕ → ℕ → Rounding → ℕ
digits_at m from scale rounding =
    if nat_le from scale
    then m * 10 ^ (scale - from)
    else m / 10 ^ (from - scale) + carry rounding m (from - scale)

-- The coefficient at the receiver's scale, truncated or rounded, by its absolute value.
abbrev pub at_scale : Fraction → ℕ → Rounding → ℤ
at_scale x scale rounding =
    signed_integer (is_negative x.coefficient) (digits_at (unsigned_abs x.coefficient) x.scale scale rounding)

-- What a receiver of so many digits, scale of them decimals, holds: a size error where the digits are too few.
unfoldable pub fitted_decimal : Fraction → ℕ → ℕ → Rounding → Result Fraction Size
fitted_decimal x digits scale rounding =
    if nat_lt (unsigned_abs (at_scale x scale rounding)) (10 ^ digits)
    then Ok (record { coefficient = at_scale x scale rounding; scale = scale })
    else size_error

-- The same where no size error is told: the low digits that fit.
unfoldable pub low_digits : Fraction → ℕ → ℕ → Rounding → Fraction
low_digits x digits scale rounding =
    record { coefficient = int_rem (at_scale x scale rounding) (pos (10 ^ digits)); scale = scale }

-- x cut towards zero at a scale, with its sign and all its whole digits: x itself where it has no more decimals than that.
-- The quotient whose product REMAINDER takes from the dividend (own choice: not rounded).
unfoldable pub truncated_decimal : Fraction → ℕ → Fraction
truncated_decimal x scale =
    if nat_le x.scale scale
    then x
    else record { coefficient = int_div x.coefficient (pos (10 ^ (x.scale - scale))); scale = scale }
