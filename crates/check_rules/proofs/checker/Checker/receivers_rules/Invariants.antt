use Rattle.std.proofs.Common.{◌≡◌, drop}
use Rattle.source_tree.specs.Broken.{each}
use Rattle.source_tree.specs.NameRules.{reference_rules}
use Rattle.declarations.specs.Named.{items_in}
use Rattle.check_rules.specs.Asking.{asks}
use Rattle.check_rules.proofs.checker.Checker.receivers_rules.Given as goal

abbrev pub invariant-loop-one : goal.invariant-loop-one
invariant-loop-one l = each (reference_rules (items_in l.self.declarations.now) (asks l.asked)) l.all
    ≡ each (reference_rules (items_in l.self.declarations.now) (asks l.asked)) (drop l.one-index l.all)
