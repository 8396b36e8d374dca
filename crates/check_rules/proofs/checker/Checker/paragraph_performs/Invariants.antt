use Rattle.std.proofs.Common.{take}
use Rattle.source_tree.specs.Recursion.{each_performs, sentence_performs}
use Rattle.declarations.specs.Named.{procedures_in}
use Rattle.check_rules.specs.Performs.{AppendsPerforms, in_paragraph}
use Rattle.check_rules.proofs.checker.Checker.paragraph_performs.Given as goal

abbrev pub invariant-loop-one : goal.invariant-loop-one
invariant-loop-one l = AppendsPerforms l.initial.all l.all (in_paragraph l.number
    (each_performs (sentence_performs (procedures_in l.self.declarations.now)) (take l.one-index l.sentences)))
