use Rattle.std.proofs.Common.{◌+◌, ◌*◌, take}
use Rattle.source_tree.specs.Recursion.{each_performs, selected_performs, statement_performs}
use Rattle.declarations.specs.Named.{procedures_in}
use Rattle.check_rules.specs.Performs.{AppendsPerforms, in_paragraph}
use Rattle.check_rules.proofs.checker.Checker.+performs.Given as goal

abbrev pub invariant-statements_performs-loop-one : goal.invariant-statements_performs-loop-one
invariant-statements_performs-loop-one l =
    AppendsPerforms l.initial.all l.all (in_paragraph l.number
    (each_performs (statement_performs (procedures_in l.self.declarations.now)) (take l.one-index l.statements)))

abbrev pub invariant-selections_performs-loop-one : goal.invariant-selections_performs-loop-one
invariant-selections_performs-loop-one l =
    AppendsPerforms l.initial.all l.all (in_paragraph l.number (each_performs
    (selected_performs (statement_performs (procedures_in l.self.declarations.now))) (take l.one-index l.selections)))

-- Each goes down by the depth of the statements in it; the WHENs of an EVALUATE are above the statements that they
-- have.
abbrev pub decreases-statement_performs : goal.decreases-statement_performs
decreases-statement_performs l = 8 * goal.size-statement_performs l

abbrev pub decreases-statements_performs : goal.decreases-statements_performs
decreases-statements_performs l = 8 * goal.size-statements_performs l + 1

abbrev pub decreases-selections_performs : goal.decreases-selections_performs
decreases-selections_performs l = 8 * goal.size-selections_performs l + 2
