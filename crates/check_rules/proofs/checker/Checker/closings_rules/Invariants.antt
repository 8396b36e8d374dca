use Rattle.std.proofs.Common.{◌≡◌, drop}
use Rattle.source_tree.specs.Broken.{each}
use Rattle.source_tree.specs.FilingRules.{close_rules}
use Rattle.declarations.specs.Named.{files_in, items_in}
use Rattle.check_rules.proofs.checker.Checker.closings_rules.Given as goal

abbrev pub invariant-loop-one : goal.invariant-loop-one
invariant-loop-one l =
    each (close_rules (items_in l.self.declarations.now) (files_in l.self.declarations.now)) l.all
    ≡ each (close_rules (items_in l.self.declarations.now) (files_in l.self.declarations.now)) (drop l.one-index l.all)
