use Rattle.std.proofs.Common.{◌≡◌, ◌≤◌, ◌+◌, ◌*◌, length, map, drop}
use Rattle.records.specs.Stores.{spec_of}
use Rattle.half_store.specs.Read.{row_size, rows_in}
use Rattle.file_bytes.specs.Stored.{row_of}
use Rattle.half_store.proofs.reading.read_rows.Given as goal

abbrev pub invariant-loop-row : goal.invariant-loop-row
invariant-loop-row l = record {
  place : l.place ≡ l.at + row_size (spec_of l.spec) * l._row;
  within : l.place ≤ length l.bytes;
  rows : map row_of l.rows.items ≡ rows_in (spec_of l.spec) l._row (drop l.at l.bytes);
}
