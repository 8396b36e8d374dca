use Rattle.std.proofs.Common.{◌≡◌, ◌≤◌, ◌++◌, length}
use Rattle.source_tree.specs.Levels.{forest_of}
use Rattle.source_tree.specs.Clauses.{nothing_around}
use Rattle.layout.specs.Fits.{Fits}
use Rattle.layout.specs.Placing.{record_items}
use Rattle.layout.proofs.file_records.place_records.Given as goal

abbrev pub invariant-records : goal.invariant-records
invariant-records l = record {
  fits : Fits nothing_around (forest_of l.rest);
  shorter : length l.rest ≤ length l.entries;
  placed : l.out.items ++ record_items l.area (forest_of l.rest)
      ≡ l.initial.out.items ++ record_items l.area (forest_of l.entries);
}

abbrev pub decreases-records : goal.decreases-records
decreases-records l = length l.rest
