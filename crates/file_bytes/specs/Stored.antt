-- The files in memory.
use Rattle.std.specs.Prelude.{List, map}
use Rattle.records.specs.Rows.{Row}
use Rattle.records.specs.Files.{File, Files, NamedFile}
use Rattle.records.specs.Stores.{spec_of}
use Rattle.file_bytes.specs.declared.stored.StoredRow.{StoredRow}
use Rattle.file_bytes.specs.declared.stored.StoredFile.{StoredFile}

abbrev pub row_of : StoredRow → Row
row_of r = record { number = r.number; bytes = r.bytes.items; arrivals = r.arrivals.items }

abbrev pub rows_of : List StoredRow → List Row
rows_of rows = map row_of rows

abbrev pub file_of : StoredFile → File
file_of f = record { spec = spec_of f.spec; rows = rows_of f.rows.items; next_arrival = f.next_arrival }

abbrev pub named_of : StoredFile → NamedFile
named_of f = record { name = f.spec.name.items; file = file_of f }

abbrev pub files_of : List StoredFile → Files
files_of files = map named_of files
