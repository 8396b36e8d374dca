-- Literals that are sent, in an image (own choice).
use Rattle.std.specs.Prelude.{ℕ, ◌==◌, List, [], ◌∷◌, ◌++◌, Option, None, Some, Ok, if◌then◌else◌}
use Rattle.items.specs.declared.taken.Taken.{Taken}
use Rattle.items.specs.declared.taken.Taken.TheVariants as t
use Rattle.items.specs.declared.taken.Figurative.TheVariants as f
use Rattle.data_instructions.specs.declared.tables.LiteralSender.{LiteralSender}
use Rattle.data_image.specs.Spelling.{text_bytes, IsText}
use Rattle.data_image.specs.Reading.{ReadResult, ◌>>=◌, or_value, byte_at, text_at}
use Rattle.data_image.specs.Items.{item_bytes, item_at, IsItemSpelled}

-- what an operand is: one byte, and the item that it counts as
abbrev pub taken_bytes : Taken → List ℕ
taken_bytes t.All = 1 ∷ []
taken_bytes (t.Figurative f.Zero) = 2 ∷ []
taken_bytes (t.Figurative f.Space) = 3 ∷ []
taken_bytes (t.Figurative f.HighValue) = 4 ∷ []
taken_bytes (t.Figurative f.LowValue) = 5 ∷ []
taken_bytes (t.Figurative f.Quote) = 6 ∷ []
taken_bytes (t.Item item) = 7 ∷ item_bytes item

abbrev pub sender_bytes : LiteralSender → List ℕ
sender_bytes one = taken_bytes one.taken ++ text_bytes one.bytes

abbrev pub IsTakenSpelled : Taken → Type 0
IsTakenSpelled (t.Item item) = IsItemSpelled item
IsTakenSpelled _ = Unit {0}

-- its numbers fit their bytes
abbrev pub IsSenderSpelled : LiteralSender → Type 0
IsSenderSpelled one = IsTakenSpelled one.taken × IsText one.bytes

-- ---- reading

-- what isn't taken as an item
unfoldable pub plain_taken_of : ℕ → Option Taken
plain_taken_of byte =
    if byte == 1 then Some t.All
    else if byte == 2 then Some (t.Figurative f.Zero)
    else if byte == 3 then Some (t.Figurative f.Space)
    else if byte == 4 then Some (t.Figurative f.HighValue)
    else if byte == 5 then Some (t.Figurative f.LowValue)
    else if byte == 6 then Some (t.Figurative f.Quote)
    else None

abbrev pub item_taken_at : List ℕ → ReadResult Taken
item_taken_at bytes = do
  item ← item_at bytes
  Ok (t.Item item.0, item.1)

-- what is taken, whose first byte this is
abbrev pub taken_from : ℕ → List ℕ → ReadResult Taken
taken_from byte bytes = if byte == 7 then item_taken_at bytes else (or_value (plain_taken_of byte) >>= λ taken. Ok (taken, bytes))

unfoldable pub taken_at : List ℕ → ReadResult Taken
taken_at bytes = do
  byte ← byte_at bytes
  taken_from byte.0 byte.1

unfoldable pub sender_at : List ℕ → ReadResult LiteralSender
sender_at bytes = do
  taken ← taken_at bytes
  text ← text_at taken.1
  Ok (record { taken = taken.0; bytes = text.0 }, text.1)
