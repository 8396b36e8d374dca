-- A line in the reference format (COBOL-85, Section IV, "Reference format"). Columns 1 to 6 are the sequence number area, column 7
-- the indicator area, columns 8 to 11 area A, columns 12 to 72 area B.
use Rattle.std.specs.Prelude.{ℕ, ◌+◌, ◌-◌, ◌%◌, ◌==◌, Bool, not, ◌&&◌, nat_le, if◌then◌else◌, List, [], ◌∷◌, ◌++◌, take, drop, slice_index, replicate, Option}
use Rattle.std.specs.List.{position, suffix_len}
use Rattle.std.specs.Option.{option_map}
use Rattle.source_lines.specs.declared.fault.SourceFault.{SourceFault}
use Rattle.source_lines.specs.declared.fault.FaultKind.{FaultKind}
use Rattle.source_lines.specs.declared.line.Line.{Line}
use Rattle.source_lines.specs.declared.lines.Character.{Character}
use Rattle.lexical.specs.declared.place.Place.{Place}

abbrev pub is_space : ℕ → Bool
is_space byte = byte == 32

-- how many columns a tab that stands after `before` columns takes: up to the next column of the form 8k+1 (own choice)
abbrev pub tab_width : ℕ → ℕ
tab_width before = 8 - before % 8

-- the columns of a byte that stands after `before` columns, and how many they are
abbrev pub expanded_columns : ℕ → ℕ → List ℕ
expanded_columns before byte = if byte == 9 then replicate (tab_width before) 32 else byte ∷ []

abbrev pub width : ℕ → ℕ → ℕ
width before byte = if byte == 9 then tab_width before else 1

-- the bytes of a line that stand after `before` columns, with spaces for each tab
abbrev pub without_tabs : ℕ → List ℕ → List ℕ
without_tabs before [] = []
without_tabs before (byte ∷ more) = expanded_columns before byte ++ without_tabs (before + width before byte) more

-- The 72 columns of a line: a shorter line is filled with spaces, and what stands after column 72 is ignored (own choice).
abbrev pub columns_of : List ℕ → List ℕ
columns_of bytes = take 72 (without_tabs 0 bytes ++ replicate 72 32)

abbrev pub line : ℕ → List ℕ → Line
line number bytes = record { number = number; columns = columns_of bytes }

-- ---- columns, counted from 1

abbrev pub byte : Line → ℕ → ℕ
byte line column = slice_index line.columns (column - 1)

abbrev pub place_in_line : Line → ℕ → Place
place_in_line line column = record { line = line.number; column = column }

abbrev pub character : Line → ℕ → Character
character line column = record { byte = byte line column; place = place_in_line line column }

abbrev pub fault : Line → FaultKind → ℕ → SourceFault
fault line kind column = record { kind = kind; place = place_in_line line column }

-- the bytes of the columns from `from` up to before `end`, each with its place
abbrev pub placed_characters : ℕ → ℕ → List ℕ → List Character
placed_characters number column [] = []
placed_characters number column (byte ∷ more) =
    record { byte = byte; place = record { line = number; column = column } } ∷ placed_characters number (column + 1) more

unfoldable pub characters : Line → ℕ → ℕ → List Character
characters line from end = placed_characters line.number from (take (end - from) (drop (from - 1) line.columns))

-- ---- areas A and B

-- the bytes of areas A and B
abbrev pub text : Line → List ℕ
text line = drop 7 line.columns

-- the first column of areas A and B whose byte passes
abbrev pub first_column : (ℕ → Bool) → Line → Option ℕ
first_column test line = option_map (λ before. 8 + before) (position test (text line))

abbrev pub first_nonblank : Line → Option ℕ
first_nonblank line = first_column (λ byte. not (is_space byte)) line

-- the last column of areas A and B that isn't blank, or the one before them
abbrev pub last_nonblank : Line → ℕ
last_nonblank line = 72 - suffix_len is_space (text line)

-- The bytes that may stand outside comments: hexadecimal 20 to 7e (own choice).
abbrev pub is_in_character_set : ℕ → Bool
is_in_character_set byte = nat_le 32 byte && nat_le byte 126

abbrev pub first_outside : Line → Option ℕ
first_outside line = first_column (λ byte. not (is_in_character_set byte)) line
