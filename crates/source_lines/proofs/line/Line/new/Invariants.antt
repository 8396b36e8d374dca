use Rattle.source_lines.proofs.Tabs.{Filled}
use Rattle.source_lines.proofs.line.Line.new.Given as goal

abbrev pub invariant-loop-byte : goal.invariant-loop-byte
invariant-loop-byte l = Filled l.bytes l.byte-index l.filled l.columns
