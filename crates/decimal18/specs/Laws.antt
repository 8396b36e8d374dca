-- What the definitions come to, on the numbers coefficient / 10 ^ scale that fractions stand for. An equation or an order
-- of two such numbers is stated over a common denominator.
use Rattle.std.specs.Prelude.{◌≡◌, ℕ, ◌+◌, ◌*◌, ◌^◌, ◌<◌, ◌≤◌, true, false, ℤ, pos, ◌+ℤ◌, ◌-ℤ◌, ◌*ℤ◌, unsigned_abs}
use Rattle.decimal18.specs.Fraction.{Fraction, signed_integer, is_negative}
use Rattle.decimal18.specs.Quotient.{admits}
use Rattle.decimal18.specs.declared.receiver.Rounding.{Rounding}
use Rattle.decimal18.specs.declared.receiver.Rounding.TheVariants.{Truncated, Rounded}

-- z = x + y
abbrev pub IsSum : Fraction → Fraction → Fraction → Type 0
IsSum x y z =
    z.coefficient *ℤ pos (10 ^ (x.scale + y.scale))
    ≡ (x.coefficient *ℤ pos (10 ^ y.scale) +ℤ y.coefficient *ℤ pos (10 ^ x.scale)) *ℤ pos (10 ^ z.scale)

-- z = x - y
abbrev pub IsDifference : Fraction → Fraction → Fraction → Type 0
IsDifference x y z =
    z.coefficient *ℤ pos (10 ^ (x.scale + y.scale))
    ≡ (x.coefficient *ℤ pos (10 ^ y.scale) -ℤ y.coefficient *ℤ pos (10 ^ x.scale)) *ℤ pos (10 ^ z.scale)

-- z = x * y
abbrev pub IsProduct : Fraction → Fraction → Fraction → Type 0
IsProduct x y z =
    z.coefficient *ℤ pos (10 ^ (x.scale + y.scale)) ≡ x.coefficient *ℤ y.coefficient *ℤ pos (10 ^ z.scale)

-- z is x / y cut towards zero: it has the sign that x * y has, |x| - |z * y| is at least 0 and below |y| * 10 ^ -scale, scale
-- being that of z, and no greater scale up to 18 is admitted.
pub record IsQuotient (x y z : Fraction) : Type 0 where
  pub sign : z.coefficient ≡ signed_integer (is_negative (x.coefficient *ℤ y.coefficient)) (unsigned_abs z.coefficient)
  pub not_over : unsigned_abs z.coefficient * unsigned_abs y.coefficient * 10 ^ x.scale ≤ unsigned_abs x.coefficient * 10 ^ (z.scale + y.scale)
  pub close : unsigned_abs x.coefficient * 10 ^ (z.scale + y.scale) < (unsigned_abs z.coefficient + 1) * unsigned_abs y.coefficient * 10 ^ x.scale
  pub admitted : admits x y z.scale ≡ true
  pub most : z.scale ≤ 18
  pub greatest : (q : ℕ) → z.scale < q → q ≤ 18 → admits x y q ≡ false

-- x * y, with all its decimals.
abbrev pub times : Fraction → Fraction → Fraction
times x y = record { coefficient = x.coefficient *ℤ y.coefficient; scale = x.scale + y.scale }

-- z is x cut towards zero at the scale of z: it has x's sign, and |z| ≤ |x| < |z| + 10 ^ -scale.
pub record IsTruncation (x z : Fraction) : Type 0 where
  pub sign : z.coefficient ≡ signed_integer (is_negative x.coefficient) (unsigned_abs z.coefficient)
  pub not_over : unsigned_abs z.coefficient * 10 ^ x.scale ≤ unsigned_abs x.coefficient * 10 ^ z.scale
  pub close : unsigned_abs x.coefficient * 10 ^ z.scale < (unsigned_abs z.coefficient + 1) * 10 ^ x.scale

-- z is the number nearest to x at the scale of z, a half away from zero: it has x's sign, and twice |x| is at least
-- 2|z| - 10 ^ -scale and below 2|z| + 10 ^ -scale.
pub record IsNearest (x z : Fraction) : Type 0 where
  pub sign : z.coefficient ≡ signed_integer (is_negative x.coefficient) (unsigned_abs z.coefficient)
  pub not_under : 2 * unsigned_abs z.coefficient * 10 ^ x.scale ≤ 2 * unsigned_abs x.coefficient * 10 ^ z.scale + 10 ^ x.scale
  pub close : 2 * unsigned_abs x.coefficient * 10 ^ z.scale < (2 * unsigned_abs z.coefficient + 1) * 10 ^ x.scale

abbrev pub IsKept : Rounding → Fraction → Fraction → Type 0
IsKept Truncated x z = IsTruncation x z
IsKept Rounded x z = IsNearest x z

-- z has the low digits of y, so many of them.
pub record HasLowDigits (digits : ℕ) (y z : ℤ) : Type 0 where
  pub below : unsigned_abs z < 10 ^ digits
  pub rest : (n : ℕ) × (unsigned_abs y ≡ n * 10 ^ digits + unsigned_abs z)
