use Rattle.std.proofs.Common.{take}
use Rattle.source_tree.specs.Recursion.{performs_from}
use Rattle.declarations.specs.Named.{procedures_in}
use Rattle.check_rules.specs.Performs.{AppendsPerforms}
use Rattle.check_rules.proofs.checker.Checker.paragraphs_performs.Given as goal

abbrev pub invariant-loop-i : goal.invariant-loop-i
invariant-loop-i l = AppendsPerforms l.initial.all l.all
    (performs_from (procedures_in l.self.declarations.now) l.first (take l.i l.paragraphs))
