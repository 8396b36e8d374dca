use Rattle.std.proofs.Common.{◌≡◌, ◌+◌, drop}
use Rattle.data_entries.specs.Nesting as spec
use Rattle.data_entries.proofs.levels.deeper_count.Given as goal

abbrev pub invariant-loop-index : goal.invariant-loop-index
invariant-loop-index l =
    spec.deeper_count l.group l.entries ≡ l.index + spec.deeper_count l.group (drop l.index l.entries)
