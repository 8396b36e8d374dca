use Rattle.std.proofs.Common.{take}
use Rattle.std.specs.Prelude.{All}
use Rattle.perform_graph.specs.Order.{marks}
use Rattle.perform_graph.specs.declared.performed.PerformedRange.{PerformedRange}
use Rattle.check_rules.specs.Performs.{PerformsWithin}
use Rattle.check_rules.proofs.recursion.first_back.Given as goal

abbrev pub invariant-loop-i : goal.invariant-loop-i
invariant-loop-i l = All (λ (one : PerformedRange). PerformsWithin (marks l.marked) one → ⊥) (take l.i l.ranges)
