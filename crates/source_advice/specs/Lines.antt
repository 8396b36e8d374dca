-- Lines of a source text, and how they are shown.
use Rattle.std.specs.Prelude.{ℕ, ◌-◌, ◌==◌, ◌++◌, List, [], ◌∷◌, get_or, length, take, replicate, if◌then◌else◌}
use Rattle.std.specs.Str.Lines.{strip_carriage_return}
use Rattle.source_lines.specs.Cut.{lines}
use Rattle.source_lines.specs.Line.{is_in_character_set, tab_width}

abbrev pub without_return : List ℕ → List ℕ
without_return line = strip_carriage_return line

-- a line counted from 1; none has no bytes
abbrev pub line_of : List ℕ → ℕ → List ℕ
line_of source number = get_or (lines source) (number - 1) []

-- how many columns are shown
abbrev pub most_columns : ℕ
most_columns = 100

abbrev pub question_mark : ℕ
question_mark = 63

abbrev pub shown_byte : ℕ → ℕ
shown_byte byte = if is_in_character_set byte then byte else question_mark

-- a byte after these columns: a tab leads to the next column of the form 8k+1
abbrev pub with_columns : List ℕ → ℕ → List ℕ
with_columns columns byte = columns ++ (if byte == 9 then replicate (tab_width (length columns)) 32 else shown_byte byte ∷ [])

abbrev pub columns_after : List ℕ → List ℕ → List ℕ
columns_after columns [] = columns
columns_after columns (byte ∷ more) = columns_after (with_columns columns byte) more

-- the bytes of a line that can be in these columns
abbrev pub first_bytes : List ℕ → List ℕ
first_bytes line = take most_columns line

-- The first 100 columns of a line.
abbrev pub shown_line : List ℕ → ℕ → List ℕ
shown_line source number = take most_columns (columns_after [] (first_bytes (line_of source number)))
