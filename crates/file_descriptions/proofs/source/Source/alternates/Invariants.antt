use Rattle.std.proofs.Common.{◌≡◌, ◌≤◌, length, drop}
use Rattle.source_tree.specs.ProgramFiles.{alternates}
use Rattle.file_descriptions.specs.Sources.{items_in}
use Rattle.file_descriptions.proofs.source.Source.alternates.Given as goal

abbrev pub invariant-clauses : goal.invariant-clauses
invariant-clauses l = record {
  within : l.left ≤ length l.clauses;
  so_far : l.keys.items ≡ alternates (items_in l.self) (drop l.left l.clauses);
}

abbrev pub decreases-clauses : goal.decreases-clauses
decreases-clauses l = l.left
