use Rattle.std.proofs.Common.{◌≡◌, take}
use Rattle.source_tree.specs.Performing.{turns_of}
use Rattle.source_tree.proofs.Counts.{of_digits}
use Rattle.codegen.proofs.times.count_of.Given as goal

abbrev pub invariant-loop-digit : goal.invariant-loop-digit
invariant-loop-digit l = l.count ≡ turns_of (of_digits l.integer.place (take l.digit-index l.integer.digits))
