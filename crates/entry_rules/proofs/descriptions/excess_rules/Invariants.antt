use Rattle.entry_rules.proofs.FileEntries.{AreCounted}
use Rattle.entry_rules.proofs.descriptions.excess_rules.Given as goal

abbrev pub invariant-loop-one : goal.invariant-loop-one
invariant-loop-one l = AreCounted l.most l.left l.descriptions l.one-index
