use Rattle.std.proofs.Common.{◌≡◌, drop}
use Rattle.source_tree.specs.Broken.{each}
use Rattle.declarations.specs.Named.{items_in}
use Rattle.declarations.specs.Chains.{further_rules}
use Rattle.check_rules.proofs.checker.Checker.+expression.Given as goal

abbrev pub invariant-further_rules-loop-one : goal.invariant-further_rules-loop-one
invariant-further_rules-loop-one l = each (further_rules (items_in l.self.declarations.now)) l.all
    ≡ each (further_rules (items_in l.self.declarations.now)) (drop l.one-index l.all)
