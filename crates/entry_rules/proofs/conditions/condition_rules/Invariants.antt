use Rattle.std.proofs.Common.{◌≡◌, drop}
use Rattle.source_tree.specs.Broken.{each}
use Rattle.source_tree.specs.ValueRules.{range_rules}
use Rattle.entry_rules.proofs.conditions.condition_rules.Given as goal

abbrev pub invariant-loop-range : goal.invariant-loop-range
invariant-loop-range l = each (range_rules l.item) l.ranges ≡ each (range_rules l.item) (drop l.range-index l.ranges)
