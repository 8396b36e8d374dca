use Rattle.std.proofs.Common.{◌≡◌}
use Rattle.file_bytes.specs.Read.{numbers_in}
use Rattle.file_bytes.proofs.row_reader.read_numbers.Given as goal

abbrev pub invariant-loop-place : goal.invariant-loop-place
invariant-loop-place l = l.numbers.items ≡ numbers_in l.place l.bytes
