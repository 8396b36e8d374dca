use Rattle.perform_graph.specs.Grouped.{IsGroupedTo}
use Rattle.perform_graph.proofs.performs.Performs.new.Given as goal

abbrev pub invariant-loop-number : goal.invariant-loop-number
invariant-loop-number l = IsGroupedTo l.count l.performed l.number l.last.items l.before.items
