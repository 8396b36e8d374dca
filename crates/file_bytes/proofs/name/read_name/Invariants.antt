use Rattle.std.proofs.Common.{◌≡◌, ◌++◌, drop}
use Rattle.file_bytes.specs.Read.{name_in}
use Rattle.file_bytes.proofs.name.read_name.Given as goal

abbrev pub invariant-loop-byte : goal.invariant-loop-byte
invariant-loop-byte l = l.name.items ++ name_in (drop l.byte-index l.bytes) ≡ name_in l.bytes
