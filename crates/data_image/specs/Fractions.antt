-- Decimal numbers in an image (own choice).
use Rattle.std.specs.Prelude.{ℕ, ◌<◌, ◌≤◌, ◌^◌, Bool, not, ◌&&◌, ◌==◌, List, [], ◌∷◌, ◌++◌, Ok, Err, nat_lt, nat_le, unsigned_abs, if◌then◌else◌}
use Rattle.decimal18.specs.Fraction.{Fraction, is_negative, of_parts}
use Rattle.data_image.specs.declared.fault.ImageFault.TheVariants as faults
use Rattle.data_image.specs.Spelling.{wide_bytes, flag_byte}
use Rattle.data_image.specs.Reading.{ReadResult, ◌>>=◌, byte_at, told_at, wide_at, flag_of}

-- a number: whether it is negative, its absolute value, and its scale
abbrev pub fraction_bytes : Fraction → List ℕ
fraction_bytes x = flag_byte (is_negative x.coefficient) ∷ (wide_bytes (unsigned_abs x.coefficient) ++ x.scale ∷ [])

-- 38 digits at the most, and a scale of 18 at the most
pub record IsFractionSpelled (x : Fraction) : Type 0 where
  pub coefficient : unsigned_abs x.coefficient < 10 ^ 38
  pub scale : x.scale ≤ 18

-- ---- reading

-- Zero isn't negative.
abbrev pub is_fraction : Bool → ℕ → ℕ → Bool
is_fraction negative magnitude scale = nat_lt magnitude (10 ^ 38) && nat_le scale 18 && not (negative && magnitude == 0)

unfoldable pub fraction_at : List ℕ → ReadResult Fraction
fraction_at bytes = do
  negative ← told_at flag_of bytes
  magnitude ← wide_at negative.1
  scale ← byte_at magnitude.1
  if is_fraction negative.0 magnitude.0 scale.0 then Ok (of_parts negative.0 magnitude.0 scale.0, scale.1) else Err faults.Value
