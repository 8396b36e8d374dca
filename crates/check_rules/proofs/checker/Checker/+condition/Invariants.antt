use Rattle.std.proofs.Common.{◌≡◌, drop}
use Rattle.source_tree.specs.Broken.{each}
use Rattle.source_tree.specs.ConditionRules.{condition_rules}
use Rattle.declarations.specs.Named.{items_in}
use Rattle.check_rules.proofs.checker.Checker.+condition.Given as goal

abbrev pub invariant-conditions_rules-loop-one : goal.invariant-conditions_rules-loop-one
invariant-conditions_rules-loop-one l = each (condition_rules (items_in l.self.declarations.now)) l.all
    ≡ each (condition_rules (items_in l.self.declarations.now)) (drop l.one-index l.all)
