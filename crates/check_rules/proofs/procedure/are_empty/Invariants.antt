use Rattle.std.proofs.Common.{◌≡◌, drop}
use Rattle.source_tree.specs.Rules.{are_empty}
use Rattle.check_rules.proofs.procedure.are_empty.Given as goal

abbrev pub invariant-loop-one : goal.invariant-loop-one
invariant-loop-one l = are_empty l.sections ≡ are_empty (drop l.one-index l.sections)
