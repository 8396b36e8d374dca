use Rattle.std.proofs.Common.{◌≡◌, ◌++◌, take}
use Rattle.volume_commands.specs.Text.{bytes_text}
use Rattle.volume_commands.proofs.escape.push_text.Given as goal

abbrev pub invariant-loop-byte : goal.invariant-loop-byte
invariant-loop-byte l = l.out.items ≡ l.initial.out.items ++ bytes_text (take l.byte-index l.bytes)
