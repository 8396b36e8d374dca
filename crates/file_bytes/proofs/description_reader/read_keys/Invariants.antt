use Rattle.std.proofs.Common.{◌≡◌}
use Rattle.file_bytes.specs.Read.{keys_in}
use Rattle.file_bytes.proofs.description_reader.read_keys.Given as goal

abbrev pub invariant-loop-place : goal.invariant-loop-place
invariant-loop-place l = l.keys.items ≡ keys_in l.place l.bytes
