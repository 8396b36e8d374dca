use Rattle.std.proofs.Common.{◌≡◌, length}
use Rattle.source_tree.specs.EvaluateRules.{objects_rules}
use Rattle.declarations.specs.Named.{items_in}
use Rattle.check_rules.proofs.checker.Checker.objects_rules.Given as goal

abbrev pub invariant-pairs : goal.invariant-pairs
invariant-pairs l = objects_rules (items_in l.self.declarations.now) l.subjects l.objects
    ≡ objects_rules (items_in l.self.declarations.now) l.asking l.rest

abbrev pub decreases-pairs : goal.decreases-pairs
decreases-pairs l = length l.asking
