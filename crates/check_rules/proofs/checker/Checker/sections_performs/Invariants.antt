use Rattle.std.proofs.Common.{take}
use Rattle.declarations.specs.Named.{procedures_in}
use Rattle.check_rules.proofs.Adding.{AreWalked}
use Rattle.check_rules.proofs.checker.Checker.sections_performs.Given as goal

abbrev pub invariant-loop-one : goal.invariant-loop-one
invariant-loop-one l =
    AreWalked (procedures_in l.self.declarations.now) l.initial.all l.all (take l.one-index l.sections) l.number
