use Rattle.std.proofs.Common.{◌≡◌, length}
use Rattle.perform_graph.specs.Walk.{AreMarksTo}
use Rattle.perform_graph.proofs.cycle.marks_of.Given as goal

abbrev pub invariant-loop-visit : goal.invariant-loop-visit
invariant-loop-visit l = record {
  same : length l.marks.items ≡ l.count;
  marks : AreMarksTo l.ring l.visit-index l.marks.items;
}
