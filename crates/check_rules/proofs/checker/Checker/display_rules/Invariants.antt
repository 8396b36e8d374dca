use Rattle.std.proofs.Common.{◌≡◌, drop}
use Rattle.source_tree.specs.Broken.{each}
use Rattle.source_tree.specs.TextRules.{shown_rules}
use Rattle.declarations.specs.Named.{items_in}
use Rattle.check_rules.proofs.checker.Checker.display_rules.Given as goal

abbrev pub invariant-loop-one : goal.invariant-loop-one
invariant-loop-one l = each (shown_rules (items_in l.self.declarations.now)) l.operands
    ≡ each (shown_rules (items_in l.self.declarations.now)) (drop l.one-index l.operands)
