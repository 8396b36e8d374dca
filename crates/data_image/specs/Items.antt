-- Items in an image (own choice).
use Rattle.std.specs.Prelude.{ℕ, ◌==◌, true, false, List, [], ◌∷◌, ◌++◌, Option, None, Some, Ok, if◌then◌else◌}
use Rattle.items.specs.declared.item.Item.{Item}
use Rattle.items.specs.declared.item.Kind.{Kind}
use Rattle.items.specs.declared.item.Kind.TheVariants as k
use Rattle.items.specs.declared.numeric.Numeric.{Numeric}
use Rattle.items.specs.declared.usage.Usage.{Usage}
use Rattle.items.specs.declared.usage.Usage.TheVariants as u
use Rattle.items.specs.declared.usage.OperationalSign.TheVariants as s
use Rattle.data_image.specs.Spelling.{short_bytes, IsByte, FitsFourBytes}
use Rattle.data_image.specs.Reading.{ReadResult, ◌>>=◌, or_value, byte_at, short_at, told_at}

-- the usage with its sign: one byte
abbrev pub usage_byte : Usage → ℕ
usage_byte (u.Display s.Unsigned) = 1
usage_byte (u.Display s.Trailing) = 2
usage_byte (u.Display s.Leading) = 3
usage_byte (u.Display s.TrailingSeparate) = 4
usage_byte (u.Display s.LeadingSeparate) = 5
usage_byte (u.Binary false) = 6
usage_byte (u.Binary true) = 7
usage_byte (u.Packed false) = 8
usage_byte (u.Packed true) = 9

-- the kind: one byte, and of a numeric item its digits, its scale and its usage
abbrev pub kind_bytes : Kind → List ℕ
kind_bytes k.Group = 1 ∷ []
kind_bytes (k.Alphabetic false) = 2 ∷ []
kind_bytes (k.Alphabetic true) = 3 ∷ []
kind_bytes (k.Alphanumeric false) = 4 ∷ []
kind_bytes (k.Alphanumeric true) = 5 ∷ []
kind_bytes k.AlphanumericEdited = 6 ∷ []
kind_bytes (k.NumericEdited false) = 7 ∷ []
kind_bytes (k.NumericEdited true) = 8 ∷ []
kind_bytes (k.Numeric n) = 9 ∷ n.digits ∷ n.scale ∷ usage_byte n.usage ∷ []

abbrev pub numeric : Numeric → Kind
numeric n = k.Numeric n

-- an item: its kind, and its length
abbrev pub item_bytes : Item → List ℕ
item_bytes item = kind_bytes item.kind ++ short_bytes item.length

abbrev pub HasByteDigits : Kind → Type 0
HasByteDigits (k.Numeric n) = IsByte n.digits × IsByte n.scale
HasByteDigits _ = Unit {0}

-- its numbers fit their bytes
abbrev pub IsItemSpelled : Item → Type 0
IsItemSpelled item = HasByteDigits item.kind × FitsFourBytes item.length

-- ---- reading

unfoldable pub usage_of : ℕ → Option Usage
usage_of byte =
    if byte == 1 then Some (u.Display s.Unsigned)
    else if byte == 2 then Some (u.Display s.Trailing)
    else if byte == 3 then Some (u.Display s.Leading)
    else if byte == 4 then Some (u.Display s.TrailingSeparate)
    else if byte == 5 then Some (u.Display s.LeadingSeparate)
    else if byte == 6 then Some (u.Binary false)
    else if byte == 7 then Some (u.Binary true)
    else if byte == 8 then Some (u.Packed false)
    else if byte == 9 then Some (u.Packed true)
    else None

-- the kind of an item that isn't numeric
unfoldable pub plain_kind_of : ℕ → Option Kind
plain_kind_of byte =
    if byte == 1 then Some k.Group
    else if byte == 2 then Some (k.Alphabetic false)
    else if byte == 3 then Some (k.Alphabetic true)
    else if byte == 4 then Some (k.Alphanumeric false)
    else if byte == 5 then Some (k.Alphanumeric true)
    else if byte == 6 then Some k.AlphanumericEdited
    else if byte == 7 then Some (k.NumericEdited false)
    else if byte == 8 then Some (k.NumericEdited true)
    else None

unfoldable pub numeric_at : List ℕ → ReadResult Numeric
numeric_at bytes = do
  digits ← byte_at bytes
  scale ← byte_at digits.1
  usage ← told_at usage_of scale.1
  Ok (record { digits = digits.0; scale = scale.0; usage = usage.0 }, usage.1)

abbrev pub numeric_kind_at : List ℕ → ReadResult Kind
numeric_kind_at bytes = do
  numeric ← numeric_at bytes
  Ok (k.Numeric numeric.0, numeric.1)

-- the kind whose first byte this is
abbrev pub kind_from : ℕ → List ℕ → ReadResult Kind
kind_from byte bytes = if byte == 9 then numeric_kind_at bytes else (or_value (plain_kind_of byte) >>= λ kind. Ok (kind, bytes))

unfoldable pub kind_at : List ℕ → ReadResult Kind
kind_at bytes = do
  byte ← byte_at bytes
  kind_from byte.0 byte.1

unfoldable pub item_at : List ℕ → ReadResult Item
item_at bytes = do
  kind ← kind_at bytes
  length ← short_at kind.1
  Ok (record { kind = kind.0; length = length.0 }, length.1)
