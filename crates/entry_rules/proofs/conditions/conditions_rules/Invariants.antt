use Rattle.std.proofs.Common.{◌≡◌, length}
use Rattle.source_tree.specs.Broken.{each}
use Rattle.source_tree.specs.Levels.{leading_conditions}
use Rattle.source_tree.specs.ValueRules.{condition_rules}
use Rattle.entry_rules.proofs.conditions.conditions_rules.Given as goal

abbrev pub invariant-conditions : goal.invariant-conditions
invariant-conditions l = each (condition_rules l.item) (leading_conditions l.entries)
    ≡ each (condition_rules l.item) (leading_conditions l.rest)

abbrev pub decreases-conditions : goal.decreases-conditions
decreases-conditions l = length l.rest
