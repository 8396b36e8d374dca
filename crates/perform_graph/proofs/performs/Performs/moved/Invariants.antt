use Rattle.std.proofs.Common.{◌≡◌}
use Rattle.perform_graph.specs.Grouped.{up_to}
use Rattle.perform_graph.specs.Walk.{HasGoneOver}
use Rattle.perform_graph.proofs.performs.Performs.moved.Given as goal

abbrev pub invariant-performs : goal.invariant-performs
invariant-performs l = record {
  same : l.visit.paragraph ≡ l.fn.visit.paragraph;
  over : HasGoneOver l.self.performed.now l.states l.visit;
}

abbrev pub decreases-performs : goal.decreases-performs
decreases-performs l = up_to l.visit.at
