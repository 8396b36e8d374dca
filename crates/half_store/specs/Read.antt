-- The rows that bytes spell, read from their first one on.
use Rattle.std.specs.Prelude.{◌+◌, ◌*◌, ℕ, List, length, drop}
use Rattle.records.specs.Spec.{Spec}
use Rattle.records.specs.Rows.{Row}
use Rattle.file_bytes.specs.Rows.{prime_key_length}
use Rattle.file_bytes.specs.Read.{several, row_in}

abbrev pub row_size : Spec → ℕ
row_size spec = prime_key_length spec.organization + (spec.record_length + 8 * length spec.alternates)

-- the row at the front of the bytes
abbrev pub first_row : Spec → List ℕ → Row
first_row spec bytes = row_in spec bytes (drop (prime_key_length spec.organization) bytes)

abbrev pub rows_in : Spec → ℕ → List ℕ → List Row
rows_in spec k bytes = several (row_size spec) (first_row spec) k bytes
