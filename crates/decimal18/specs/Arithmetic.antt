-- Sums, differences and products (COBOL-85, Nucleus, arithmetic statements). The limits of an intermediate result are
-- this project's own choice: a coefficient below 10 ^ 38 in absolute value, and a scale of at most 18.
use Rattle.std.specs.Prelude.{ℕ, Bool, ◌&&◌, ℤ, pos, neg_ℤ, ◌+ℤ◌, ◌-ℤ◌, ◌*ℤ◌, ◌+◌, ◌-◌, ◌^◌, max, min, nat_lt, unsigned_abs, int_div, if◌then◌else◌, Result, Ok, Err}
use Rattle.decimal18.specs.Fraction.{Fraction, aligned_coefficient}
use Rattle.decimal18.specs.declared.size_error.Size.{Size}

abbrev pub size_error : Result Fraction Size
size_error = Err (record {})

-- A coefficient that an intermediate result may have.
abbrev pub is_within : ℤ → Bool
is_within z = nat_lt (unsigned_abs z) (10 ^ 38)

-- z / 10 ^ scale as an intermediate result: a size error, or the number, its digits after the eighteenth decimal place cut.
abbrev pub intermediate : ℤ → ℕ → Result Fraction Size
intermediate z scale =
    if is_within z
    then Ok (record { coefficient = int_div z (pos (10 ^ (scale - 18))); scale = min scale 18 })
    else size_error

-- Both numbers are aligned to the greater scale, and combined there.
abbrev pub aligned_operation : (ℤ → ℤ → ℤ) → Fraction → Fraction → ℕ → Result Fraction Size
aligned_operation op x y scale =
    if is_within (aligned_coefficient x scale) && is_within (aligned_coefficient y scale)
    then intermediate (op (aligned_coefficient x scale) (aligned_coefficient y scale)) scale
    else size_error

unfoldable pub sum : Fraction → Fraction → Result Fraction Size
sum x y = aligned_operation ◌+ℤ◌ x y (max x.scale y.scale)

unfoldable pub difference : Fraction → Fraction → Result Fraction Size
difference x y = aligned_operation ◌-ℤ◌ x y (max x.scale y.scale)

unfoldable pub product : Fraction → Fraction → Result Fraction Size
product x y = intermediate (x.coefficient *ℤ y.coefficient) (x.scale + y.scale)

abbrev pub opposite_of : Fraction → Fraction
opposite_of x = record { coefficient = neg_ℤ x.coefficient; scale = x.scale }
