-- What numeric items keep of numbers that fit: a coefficient at the item's scale.
use Rattle.std.specs.Prelude.{◌≡◌, ◌<◌, ◌^◌, ℤ, Bool, List, ℕ, [], Some, Ok, unsigned_abs}
use Rattle.decimal18.specs.Fraction.{Fraction}
use Rattle.decimal18.specs.Receiver.{fitted_decimal}
use Rattle.items.specs.declared.item.Kind.{Kind}
use Rattle.items.specs.declared.item.Kind.TheVariants as kind
use Rattle.items.specs.declared.numeric.Numeric.{Numeric}
use Rattle.items.specs.Values.{bytes_of}
use Rattle.source_tree.specs.Computed.{ArithmeticValue}
use Rattle.source_tree.specs.Arithmetic.{held_by, rounding_of}

-- a number of the item's scale
abbrev pub at_scale : Numeric → ℤ → Fraction
at_scale item n = record { coefficient = n; scale = item.scale }

-- a coefficient that has no more digits than a numeric item
abbrev pub FitsDigits : Kind → ℤ → Type 0
FitsDigits (kind.Numeric item) n = unsigned_abs n < 10 ^ item.digits
FitsDigits _ n = ⊥

-- the bytes in which such an item holds it; without S the absolute value
abbrev pub bytes_at_scale : Kind → ℤ → List ℕ
bytes_at_scale (kind.Numeric item) n = bytes_of item (held_by item (at_scale item n))
bytes_at_scale _ n = []

-- A numeric item keeps what was computed as this coefficient: it is a number, and fits.
pub record KeepsAs (k : Kind) (rounded : Bool) (x : ArithmeticValue) (n : ℤ) : Type 0 where
  pub item : Numeric
  pub numeric : k ≡ kind.Numeric item
  pub number : Fraction
  pub some : x ≡ Some number
  pub digits : unsigned_abs n < 10 ^ item.digits
  pub fits : fitted_decimal number item.digits item.scale (rounding_of rounded) ≡ Ok (at_scale item n)
