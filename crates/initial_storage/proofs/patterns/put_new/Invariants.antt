use Rattle.std.proofs.Common.{◌≡◌, ◌++◌, take}
use Rattle.source_tree.specs.Initializing.{whole_pattern}
use Rattle.initial_storage.proofs.patterns.put_new.Given as goal

abbrev pub invariant-loop-byte : goal.invariant-loop-byte
invariant-loop-byte l = l.out.items ≡ l.initial.out.items ++ whole_pattern (take l.byte-index l.bytes)
