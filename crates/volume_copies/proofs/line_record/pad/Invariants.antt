use Rattle.std.proofs.Common.{◌≡◌, ◌++◌, replicate}
use Rattle.volume_copies.specs.Record.{space}
use Rattle.volume_copies.proofs.line_record.pad.Given as goal

abbrev pub invariant-loop-done : goal.invariant-loop-done
invariant-loop-done l = l.record.items ≡ l.initial.record.items ++ replicate l.done space
