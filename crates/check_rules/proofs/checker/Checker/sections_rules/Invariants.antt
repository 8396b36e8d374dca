use Rattle.std.proofs.Common.{◌≡◌, drop}
use Rattle.source_tree.specs.Broken.{each}
use Rattle.source_tree.specs.Rules.{section_rules, all_permitted}
use Rattle.declarations.specs.Named.{scope_in}
use Rattle.check_rules.proofs.checker.Checker.sections_rules.Given as goal

abbrev pub invariant-loop-one : goal.invariant-loop-one
invariant-loop-one l = each (section_rules (scope_in l.self.declarations.now) all_permitted) l.all
    ≡ each (section_rules (scope_in l.self.declarations.now) all_permitted) (drop l.one-index l.all)
