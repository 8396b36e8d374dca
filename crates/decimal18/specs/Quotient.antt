-- Quotients (COBOL-85, Nucleus, the DIVIDE statement). Which scale a quotient has is this project's own choice.
use Rattle.std.specs.Prelude.{ℕ, zero, suc, Bool, ◌&&◌, ℤ, pos, ◌*ℤ◌, ◌+◌, ◌-◌, ◌^◌, nat_le, int_div, if◌then◌else◌, Result, Ok, Option, Some, None}
use Rattle.std.specs.Ordering.{int_eq}
use Rattle.decimal18.specs.Fraction.{Fraction}
use Rattle.decimal18.specs.Arithmetic.{size_error, is_within}
use Rattle.decimal18.specs.declared.size_error.Size.{Size}

-- The dividend's coefficient with as many zeros after it as its quotient by the divisor's coefficient wants to have scale q.
abbrev pub extended_dividend : Fraction → Fraction → ℕ → ℤ
extended_dividend x y q = x.coefficient *ℤ pos (10 ^ (q + y.scale - x.scale))

-- The quotient of x by y may have the scale q.
abbrev pub admits : Fraction → Fraction → ℕ → Bool
admits x y q = nat_le x.scale (q + y.scale) && is_within (extended_dividend x y q)

-- The greatest number up to a bound that passes a test.
unfoldable pub greatest : (ℕ → Bool) → ℕ → Option ℕ
greatest test zero = if test zero then Some zero else None
greatest test (suc bound) = if test (suc bound) then Some (suc bound) else greatest test bound

-- Cut towards zero.
abbrev pub quotient_at : Fraction → Fraction → Option ℕ → Result Fraction Size
quotient_at x y None = size_error
quotient_at x y (Some q) = Ok (record { coefficient = int_div (extended_dividend x y q) y.coefficient; scale = q })

unfoldable pub quotient : Fraction → Fraction → Result Fraction Size
quotient x y =
    if int_eq y.coefficient (pos 0)
    then size_error
    else quotient_at x y (greatest (admits x y) 18)
