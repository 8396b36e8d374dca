use Rattle.std.proofs.Common.{◌≡◌, ◌++◌, map, take}
use Rattle.source_advice.specs.Lines.{shown_byte}
use Rattle.source_commands.proofs.report.push_shown.Given as goal

abbrev pub invariant-loop-byte : goal.invariant-loop-byte
invariant-loop-byte l = l.out.items ≡ l.initial.out.items ++ map shown_byte (take l.byte-index l.text)
