use Rattle.std.proofs.Common.{◌≡◌, ◌+◌, ◌≤◌, length}
use Rattle.source_tree.specs.Levels.{forest_of}
use Rattle.source_tree.specs.Clauses.{nothing_around}
use Rattle.source_tree.specs.EntryRules.{most_entries}
use Rattle.source_tree.specs.Rooms.{area_lengths}
use Rattle.layout.specs.Fits.{Fits}
use Rattle.layout.proofs.storage.storage_areas.Given as goal

abbrev pub invariant-areas : goal.invariant-areas
invariant-areas l = record {
  fits : Fits nothing_around (forest_of l.rest);
  few : l.areas + length l.rest ≤ most_entries;
  counted : l.areas + length (area_lengths (forest_of l.rest)) ≡ length (area_lengths (forest_of l.entries));
}

abbrev pub decreases-areas : goal.decreases-areas
decreases-areas l = length l.rest
