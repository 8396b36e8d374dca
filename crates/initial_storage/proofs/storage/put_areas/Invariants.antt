use Rattle.std.proofs.Common.{◌≡◌, ◌++◌, length}
use Rattle.source_tree.specs.Levels.{forest_of}
use Rattle.source_tree.specs.Clauses.{nothing_around}
use Rattle.source_tree.specs.Starts.{areas_from}
use Rattle.initial_storage.specs.Fits.{Fits}
use Rattle.initial_storage.proofs.storage.put_areas.Given as goal

abbrev pub invariant-records : goal.invariant-records
invariant-records l = record {
  fits : Fits nothing_around (forest_of l.rest);
  put : l.out.items ++ areas_from (forest_of l.rest) ≡ l.initial.out.items ++ areas_from (forest_of l.entries);
}

abbrev pub decreases-records : goal.decreases-records
decreases-records l = length l.rest
