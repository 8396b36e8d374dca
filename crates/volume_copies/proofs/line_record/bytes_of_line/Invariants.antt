use Rattle.std.proofs.Common.{◌≡◌, drop}
use Rattle.volume_copies.specs.Record.{line_bytes, bytes_from}
use Rattle.volume_copies.proofs.Spelling.{with_bytes}
use Rattle.volume_copies.proofs.line_record.bytes_of_line.Given as goal

abbrev pub invariant-loop-byte : goal.invariant-loop-byte
invariant-loop-byte l =
    line_bytes l.line ≡ with_bytes l.bytes.items (bytes_from l.state (drop l.byte-index l.line))
