use Rattle.std.proofs.Common.{◌≡◌, take}
use Rattle.initial_storage.specs.Patterns.{marks_of_pattern}
use Rattle.initial_storage.proofs.initialize_statement.marks_of.Given as goal

abbrev pub invariant-loop-one : goal.invariant-loop-one
invariant-loop-one l = l.all.items ≡ marks_of_pattern (take l.one-index l.pattern)
