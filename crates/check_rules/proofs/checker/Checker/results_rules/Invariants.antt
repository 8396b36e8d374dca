use Rattle.std.proofs.Common.{◌≡◌, drop}
use Rattle.source_tree.specs.Broken.{each}
use Rattle.check_rules.specs.Operations.{receiver_rules}
use Rattle.declarations.specs.Named.{items_in}
use Rattle.check_rules.proofs.checker.Checker.results_rules.Given as goal

abbrev pub invariant-loop-one : goal.invariant-loop-one
invariant-loop-one l = each (receiver_rules (items_in l.self.declarations.now) l.asked) l.all
    ≡ each (receiver_rules (items_in l.self.declarations.now) l.asked) (drop l.one-index l.all)
