-- The symbols of pictures, and the classes of them that the forms name (COBOL-85, Nucleus, the PICTURE clause).
use Rattle.std.specs.Prelude.{ℕ, Bool, true, false, not, ◌&&◌, ◌||◌}
use Rattle.picture.specs.declared.symbol.Symbol.{Symbol}
use Rattle.picture.specs.declared.symbol.Symbol.TheVariants as s
use Rattle.picture.specs.declared.symbol.Suppression.{Suppression}
use Rattle.picture.specs.declared.symbol.Suppression.TheVariants as z
use Rattle.picture.specs.declared.class.Class.{Class}
use Rattle.picture.specs.declared.class.Class.TheVariants as c

abbrev pub is_simple_insertion : Symbol → Bool
is_simple_insertion s.B = true
is_simple_insertion s.Zero = true
is_simple_insertion s.Slash = true
is_simple_insertion _ = false

abbrev pub is_insertion : Symbol → Bool
is_insertion s.B = true
is_insertion s.Zero = true
is_insertion s.Slash = true
is_insertion s.Comma = true
is_insertion _ = false

abbrev pub is_alphanumeric : Symbol → Bool
is_alphanumeric s.A = true
is_alphanumeric s.X = true
is_alphanumeric s.Nine = true
is_alphanumeric _ = false

-- special insertion: the point, or V, which takes no place
abbrev pub is_point : Symbol → Bool
is_point s.Point = true
is_point s.V = true
is_point _ = false

-- fixed insertion of a sign, at the end
abbrev pub is_end_sign : Symbol → Bool
is_end_sign s.Plus = true
is_end_sign s.Minus = true
is_end_sign s.Cr = true
is_end_sign s.Db = true
is_end_sign _ = false

-- the character places that a symbol takes
abbrev pub width : Symbol → ℕ
width s.S = 0
width s.V = 0
width s.Cr = 2
width s.Db = 2
width _ = 1

-- the symbol by which zeros are suppressed
abbrev pub is_by : Suppression → Symbol → Bool
is_by z.Spaces s.Z = true
is_by z.Asterisks s.Star = true
is_by z.FloatingCurrency s.Currency = true
is_by z.FloatingPlus s.Plus = true
is_by z.FloatingMinus s.Minus = true
is_by _ _ = false

abbrev pub is_floating_sign : Suppression → Bool
is_floating_sign z.FloatingPlus = true
is_floating_sign z.FloatingMinus = true
is_floating_sign _ = false

abbrev pub is_floating : Suppression → Bool
is_floating z.FloatingCurrency = true
is_floating z.FloatingPlus = true
is_floating z.FloatingMinus = true
is_floating _ = false

-- how often the symbol stands before the point, at the least
abbrev pub least_count : Suppression → ℕ
least_count z.Nothing = 0
least_count z.Spaces = 1
least_count z.Asterisks = 1
least_count _ = 2

abbrev pub is_letter : Symbol → Bool
is_letter s.A = true
is_letter _ = false

abbrev pub is_nine : Symbol → Bool
is_nine s.Nine = true
is_nine _ = false

abbrev pub is_operational_sign : Symbol → Bool
is_operational_sign s.S = true
is_operational_sign _ = false

abbrev pub is_assumed_point : Symbol → Bool
is_assumed_point s.V = true
is_assumed_point _ = false

abbrev pub is_currency : Symbol → Bool
is_currency s.Currency = true
is_currency _ = false

abbrev pub is_plus_or_minus : Symbol → Bool
is_plus_or_minus s.Plus = true
is_plus_or_minus s.Minus = true
is_plus_or_minus _ = false

abbrev pub is_never_last : Symbol → Bool
is_never_last s.Point = true
is_never_last s.Comma = true
is_never_last _ = false

-- The symbols of a class.
unfoldable pub class_has : Class → Symbol → Bool
class_has c.Letters x = is_letter x
class_has c.LettersAndCharacters x = is_alphanumeric x && not (is_nine x)
class_has c.CharactersAndNines x = is_alphanumeric x && not (is_letter x)
class_has c.Alphanumeric x = is_alphanumeric x
class_has c.SimpleInsertions x = is_simple_insertion x
class_has c.AlphanumericEdited x = is_alphanumeric x || is_simple_insertion x
class_has c.OperationalSign x = is_operational_sign x
class_has c.AssumedPoint x = is_assumed_point x
class_has c.Numeric x = is_operational_sign x || is_assumed_point x || is_nine x
class_has c.NinesAndInsertions x = is_nine x || is_insertion x
class_has (c.Suppressed by) x = is_by by x
class_has (c.SuppressedAndInsertions by) x = is_by by x || is_insertion x
class_has (c.Digits by) x = is_nine x || is_by by x
class_has (c.LeadingSign by) x = is_plus_or_minus x && not (is_floating_sign by)
class_has (c.FixedCurrency by) x = is_currency x && not (is_by by x)
class_has (c.TrailingSign by) x = is_end_sign x && not (is_floating_sign by)
class_has c.Points x = is_point x
class_has c.NinesAndPoints x = is_nine x || is_point x
class_has c.NeverLast x = is_never_last x
class_has c.Signs x = is_operational_sign x || is_end_sign x
