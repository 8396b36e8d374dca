use Rattle.std.proofs.Common.{◌≡◌, drop}
use Rattle.source_tree.specs.Broken.{each}
use Rattle.source_tree.specs.SettingRules.{set_one}
use Rattle.declarations.specs.Named.{items_in}
use Rattle.check_rules.proofs.checker.Checker.set_rules.Given as goal

abbrev pub invariant-loop-one : goal.invariant-loop-one
invariant-loop-one l = each (set_one (items_in l.self.declarations.now)) l.conditions
    ≡ each (set_one (items_in l.self.declarations.now)) (drop l.one-index l.conditions)
