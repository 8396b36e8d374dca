use Rattle.std.proofs.Common.{◌≡◌, max, length}
use Rattle.source_tree.specs.Levels.{forest_of}
use Rattle.source_tree.specs.Clauses.{nothing_around}
use Rattle.source_tree.specs.Rooms.{leading_redefinitions, longest}
use Rattle.initial_storage.specs.Fits.{Fits}
use Rattle.initial_storage.proofs.storage.longest_redefinition.Given as goal

abbrev pub invariant-records : goal.invariant-records
invariant-records l = record {
  fits : Fits nothing_around (forest_of l.rest);
  most : max l.bytes (longest nothing_around (leading_redefinitions (forest_of l.rest)))
      ≡ longest nothing_around (leading_redefinitions (forest_of l.entries));
}

abbrev pub decreases-records : goal.decreases-records
decreases-records l = length l.rest
