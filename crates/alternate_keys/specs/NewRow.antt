-- A new row of a file.
use Rattle.std.specs.Prelude.{◌+◌, ℕ, List, map}
use Rattle.records.specs.Spec.{Spec}
use Rattle.records.specs.Rows.{Row}
use Rattle.records.specs.Changes.{with_row}
use Rattle.records.specs.Files.{File, NamedFile}

-- its number and record, and one arrival under each alternate key
abbrev pub row_with : Spec → ℕ → ℕ → List ℕ → Row
row_with spec number arrival bytes = record { number = number; bytes = bytes; arrivals = map (λ key. arrival) spec.alternates }

-- a file with a new row
abbrev pub file_with : Row → File → File
file_with row file = record { spec = file.spec; rows = with_row file.spec.organization row file.rows; next_arrival = file.next_arrival + 1 }

abbrev pub named_with : Row → NamedFile → NamedFile
named_with row named = record { name = named.name; file = file_with row named.file }
