-- How files are spelled as bytes (own choice). Numbers are big-endian.
use Rattle.std.specs.Prelude.{ℕ, List, ◌++◌, length, replicate}
use Rattle.std.specs.List.{flat_map}
use Rattle.byteorder.specs.Endian.{big_bytes}
use Rattle.records.specs.Files.{Files, NamedFile}
use Rattle.file_bytes.specs.Description.{padded_name, spec_bytes}
use Rattle.file_bytes.specs.Rows.{row_bytes}

-- no tree has a root page here
abbrev pub no_pages : List ℕ
no_pages = replicate 32 0

abbrev pub file_bytes : NamedFile → List ℕ
file_bytes one = padded_name one.name ++ spec_bytes one.file.spec ++ no_pages ++ big_bytes 8 one.file.next_arrival
    ++ big_bytes 8 (length one.file.rows) ++ flat_map (row_bytes one.file.spec.organization) one.file.rows

abbrev pub files_bytes : Files → List ℕ
files_bytes files = flat_map file_bytes files
