-- The form of what an item is.
use Rattle.items.specs.declared.item.Kind.{Kind}
use Rattle.items.specs.declared.item.Kind.TheVariants.{Numeric}
use Rattle.items.specs.Numbers.{IsNumeric}

-- A numeric item has 1 to 18 digits, the decimals among them.
abbrev pub IsKind : Kind → Type 0
IsKind (Numeric numeric) = IsNumeric numeric
IsKind _ = Unit {0}
