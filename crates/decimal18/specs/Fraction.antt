-- Decimal fractions, on integers without bound.
use Rattle.std.specs.Prelude.{ℕ, Bool, true, false, ℤ, pos, negsuc, neg_ℤ, ◌*ℤ◌, unsigned_abs, ◌^◌, ◌-◌}

-- The number coefficient / 10 ^ scale.
pub record Fraction : Type 0 where
  pub coefficient : ℤ
  pub scale : ℕ

abbrev pub is_negative : ℤ → Bool
is_negative (pos n) = false
is_negative (negsuc n) = true

-- A number by its sign and its absolute value; zero has no sign.
abbrev pub signed_integer : Bool → ℕ → ℤ
signed_integer false n = pos n
signed_integer true n = neg_ℤ (pos n)

-- The number whose coefficient has this sign and absolute value.
abbrev pub of_parts : Bool → ℕ → ℕ → Fraction
of_parts negative magnitude scale = record { coefficient = signed_integer negative magnitude; scale = scale }

-- The number without its sign.
abbrev pub absolute : Fraction → Fraction
absolute x = record { coefficient = pos (unsigned_abs x.coefficient); scale = x.scale }

-- The coefficient that the same number has at a scale that is not less.
abbrev pub aligned_coefficient : Fraction → ℕ → ℤ
aligned_coefficient x scale = x.coefficient *ℤ pos (10 ^ (scale - x.scale))
