use Rattle.std.proofs.Common.{◌≡◌, length, max}
use Rattle.source_tree.specs.Levels.{forest_of}
use Rattle.source_tree.specs.Clauses.{nothing_around}
use Rattle.source_tree.specs.Rooms.{longest}
use Rattle.layout.specs.Fits.{Fits}
use Rattle.layout.proofs.file_records.longest.Given as goal

abbrev pub invariant-records : goal.invariant-records
invariant-records l = record {
  fits : Fits nothing_around (forest_of l.rest);
  most : max l.most (longest nothing_around (forest_of l.rest)) ≡ longest nothing_around (forest_of l.entries);
}

abbrev pub decreases-records : goal.decreases-records
decreases-records l = length l.rest
