use Rattle.std.proofs.Common.{◌≡◌, drop}
use Rattle.source_tree.specs.Broken.{each}
use Rattle.source_tree.specs.EvaluateRules.{when_rules}
use Rattle.declarations.specs.Named.{items_in}
use Rattle.check_rules.proofs.checker.Checker.whens_rules.Given as goal

abbrev pub invariant-loop-one : goal.invariant-loop-one
invariant-loop-one l = each (when_rules (items_in l.self.declarations.now) l.subjects) l.all
    ≡ each (when_rules (items_in l.self.declarations.now) l.subjects) (drop l.one-index l.all)
