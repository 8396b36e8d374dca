use Rattle.std.proofs.Common.{◌≡◌, ◌+◌, ◌*◌, drop}
use Rattle.source_tree.specs.Broken.{each}
use Rattle.source_tree.specs.EvaluateRules.{selected_rules}
use Rattle.source_tree.specs.Rules.{statement_rules, all_permitted}
use Rattle.declarations.specs.Named.{items_in, scope_in}
use Rattle.check_rules.proofs.checker.Checker.+statement.Given as goal

abbrev pub invariant-statements_rules-loop-one : goal.invariant-statements_rules-loop-one
invariant-statements_rules-loop-one l = each (statement_rules (scope_in l.self.declarations.now) all_permitted) l.all
    ≡ each (statement_rules (scope_in l.self.declarations.now) all_permitted) (drop l.one-index l.all)

abbrev pub invariant-selections_rules-loop-one : goal.invariant-selections_rules-loop-one
invariant-selections_rules-loop-one l =
    each (selected_rules (items_in l.self.declarations.now)
    (statement_rules (scope_in l.self.declarations.now) all_permitted) l.subjects) l.all
    ≡ each (selected_rules (items_in l.self.declarations.now)
    (statement_rules (scope_in l.self.declarations.now) all_permitted) l.subjects) (drop l.one-index l.all)

-- Each goes down by the depth of the statements in it; the WHENs of an EVALUATE are above the statements that they
-- have.
abbrev pub decreases-statement_rules : goal.decreases-statement_rules
decreases-statement_rules l = 8 * goal.size-statement_rules l

abbrev pub decreases-statements_rules : goal.decreases-statements_rules
decreases-statements_rules l = 8 * goal.size-statements_rules l + 1

abbrev pub decreases-selected_rules : goal.decreases-selected_rules
decreases-selected_rules l = 8 * goal.size-selected_rules l + 2

abbrev pub decreases-selections_rules : goal.decreases-selections_rules
decreases-selections_rules l = 8 * goal.size-selections_rules l + 3
