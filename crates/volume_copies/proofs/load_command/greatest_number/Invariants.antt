use Rattle.std.proofs.Common.{◌≡◌, max, drop}
use Rattle.file_bytes.specs.Stored.{rows_of}
use Rattle.volume_copies.specs.Loaded.{greatest_number}
use Rattle.volume_copies.proofs.load_command.greatest_number.Given as goal

abbrev pub invariant-loop-row : goal.invariant-loop-row
invariant-loop-row l =
    greatest_number (rows_of l.rows) ≡ max l.greatest (greatest_number (rows_of (drop l.row-index l.rows)))
