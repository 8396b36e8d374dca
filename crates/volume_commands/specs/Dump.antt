-- What `dump` prints: a line for each row of a file, in order of its prime key or number.
use Rattle.std.specs.Prelude.{List, ℕ, [], ◌∷◌, ◌++◌, Option}
use Rattle.std.specs.List.{flat_map}
use Rattle.std.specs.Option.{option_map}
use Rattle.records.specs.Rows.{Row}
use Rattle.records.specs.Files.{File, Files, file_at}
use Rattle.volume_commands.specs.Text.{bytes_text, line_feed}

abbrev pub row_line : Row → List ℕ
row_line row = bytes_text row.bytes ++ line_feed ∷ []

-- The rows of a file are in that order.
abbrev pub dump_text : List Row → List ℕ
dump_text rows = flat_map row_line rows

-- the dump of the file of this name, where there is one
abbrev pub dump_of : List ℕ → Files → Option (List ℕ)
dump_of name files = option_map (λ (file : File). dump_text file.rows) (file_at name files)
