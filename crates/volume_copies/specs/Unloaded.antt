-- What `load` reads of the lines that `unload` prints.
use Rattle.std.specs.Prelude.{◌≡◌, ℕ, List, length, map, Some, Ok}
use Rattle.records.specs.Rows.{Row}
use Rattle.records.specs.Files.{File, Files, IsFile, file_at, empty_file}
use Rattle.volume_commands.specs.Dump.{dump_text}
use Rattle.volume_copies.specs.Lines.{lines_of}
use Rattle.volume_copies.specs.Record.{record_of}
use Rattle.volume_copies.specs.Loaded.{AddsLines}

-- There is a line for each row of a file, and it spells the record of the row.
abbrev pub UnloadedLinesSpellRecords : Type 0
UnloadedLinesSpellRecords = (file : File) → IsFile file
    → map (record_of file.spec.record_length) (lines_of (dump_text file.rows)) ≡ map (λ (row : Row). Ok row.bytes) file.rows

abbrev pub records_of : List Row → List (List ℕ)
records_of rows = map (λ (row : Row). row.bytes) rows

-- the file of this name has this description and the records of these rows, in their order
pub record HasRecords (name : List ℕ) (file : File) (files : Files) : Type 0 where
  pub now : File
  pub there : file_at name files ≡ Some now
  pub spec : now.spec ≡ file.spec
  pub records : records_of now.rows ≡ records_of file.rows

-- After all lines of a file became rows of an empty file of its description, that file has its records in their order.
abbrev pub UnloadedRowsComeBack : Type 0
UnloadedRowsComeBack = (name : List ℕ) (file : File) (before after : Files) → IsFile file
    → file_at name before ≡ Some (empty_file file.spec)
    → AddsLines name (lines_of (dump_text file.rows)) before (length file.rows) after → HasRecords name file after
