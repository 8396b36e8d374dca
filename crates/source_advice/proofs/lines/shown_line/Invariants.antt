use Rattle.std.proofs.Common.{◌≡◌, [], drop}
use Rattle.source_advice.specs.Lines.{columns_after}
use Rattle.source_advice.proofs.lines.shown_line.Given as goal

abbrev pub invariant-loop-byte : goal.invariant-loop-byte
invariant-loop-byte l = columns_after l.text.items (drop l.byte-index l.byte-items) ≡ columns_after [] l.byte-items
