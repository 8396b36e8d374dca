-- Pictures in an image, by their runs: a picture has one list of them (own choice).
use Rattle.std.specs.Prelude.{ℕ, ◌==◌, List, [], ◌∷◌, Option, None, Some, Result, Ok, Err, if◌then◌else◌}
use Rattle.picture.specs.declared.run.Run.{Run}
use Rattle.picture.specs.declared.symbol.Symbol.{Symbol}
use Rattle.picture.specs.declared.symbol.Symbol.TheVariants as s
use Rattle.picture.specs.declared.description.Description.{Description}
use Rattle.picture.specs.Pictures.{IsAnyPicture, picture_from}
use Rattle.picture.specs.Text as text_of
use Rattle.picture.specs.Text.{letter}
use Rattle.data_image.specs.declared.fault.ImageFault.{ImageFault}
use Rattle.data_image.specs.declared.fault.ImageFault.TheVariants as faults
use Rattle.data_image.specs.Spelling.{wide_bytes, table_bytes, IsWide, AreSpelled}
use Rattle.data_image.specs.Reading.{ReadResult, ◌>>=◌, or_value, byte_at, wide_at, told_at, table_at}

-- a run: the character of its symbol, of CR and DB the first, and its count
abbrev pub run_bytes : Run → List ℕ
run_bytes run = letter run.symbol ∷ wide_bytes run.count

abbrev pub picture_bytes : Description → List ℕ
picture_bytes picture = table_bytes run_bytes picture.runs

-- 0, or 1 and the picture by which an item is edited
abbrev pub editing_bytes : Option Description → List ℕ
editing_bytes None = 0 ∷ []
editing_bytes (Some picture) = 1 ∷ picture_bytes picture

abbrev pub IsRunSpelled : Run → Type 0
IsRunSpelled run = IsWide run.count

-- It is the picture of some text, and the counts fit their bytes.
pub record IsPictureSpelled (picture : Description) : Type 0 where
  pub any : IsAnyPicture picture
  pub runs : AreSpelled IsRunSpelled picture.runs

abbrev pub IsEditingSpelled : Option Description → Type 0
IsEditingSpelled None = Unit {0}
IsEditingSpelled (Some picture) = IsPictureSpelled picture

-- ---- reading

-- the symbol whose first character this is
unfoldable pub symbol_of : ℕ → Option Symbol
symbol_of c = if c == 67 then Some s.Cr else if c == 68 then Some s.Db else text_of.symbol_of c

unfoldable pub run_at : List ℕ → ReadResult Run
run_at bytes = do
  symbol ← told_at symbol_of bytes
  count ← wide_at symbol.1
  Ok (record { symbol = symbol.0; count = count.0 }, count.1)

-- the picture with these runs
abbrev pub picture_of : List Run → Result Description ImageFault
picture_of runs = or_value (picture_from runs)

unfoldable pub picture_at : List ℕ → ReadResult Description
picture_at bytes = do
  runs ← table_at run_at bytes
  picture ← picture_of runs.0
  Ok (picture, runs.1)

abbrev pub edited_at : List ℕ → ReadResult (Option Description)
edited_at bytes = do
  picture ← picture_at bytes
  Ok (Some picture.0, picture.1)

abbrev pub editing_from : ℕ → List ℕ → ReadResult (Option Description)
editing_from byte bytes = if byte == 0 then Ok (None, bytes) else if byte == 1 then edited_at bytes else Err faults.Value

unfoldable pub editing_at : List ℕ → ReadResult (Option Description)
editing_at bytes = do
  byte ← byte_at bytes
  editing_from byte.0 byte.1
