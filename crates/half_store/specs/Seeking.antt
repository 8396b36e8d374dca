-- How a row is sought, from the last row on.
use Rattle.std.specs.Prelude.{◌≡◌, ℕ, List, length, drop, map, get_or, Option}
use Rattle.std.specs.List.{AllByRecursion}
use Rattle.std.specs.Option.{option_map}
use Rattle.records.specs.declared.key.KeyOfReference.{KeyOfReference}
use Rattle.records.specs.Spec.{Spec}
use Rattle.records.specs.Rows.{Row}
use Rattle.records.specs.Order.{RowBound, sought_row}
use Rattle.file_bytes.specs.Stored.{row_of}
use Rattle.file_bytes.specs.declared.stored.StoredRow.{StoredRow}

-- each record has this length
abbrev pub AreRecords : ℕ → List Row → Type 0
AreRecords size rows = AllByRecursion (λ (row : Row). length row.bytes ≡ size) rows

-- of the rows from k on, the best is at this place
abbrev pub IsBest : Spec → KeyOfReference → RowBound → List StoredRow → ℕ → Option ℕ → Type 0
IsBest spec key b rows k best =
    (d : StoredRow) → sought_row spec key b (map row_of (drop k rows)) ≡ option_map (λ i. row_of (get_or rows i d)) best
