use Rattle.std.proofs.Common.{◌≡◌, ◌+◌, ◌≤◌, ◌++◌, length}
use Rattle.source_tree.specs.Levels.{forest_of}
use Rattle.source_tree.specs.Clauses.{nothing_around}
use Rattle.source_tree.specs.EntryRules.{most_entries}
use Rattle.layout.specs.Fits.{Fits}
use Rattle.layout.specs.Placing.{storage_items}
use Rattle.layout.proofs.storage.place_storage.Given as goal

abbrev pub invariant-items : goal.invariant-items
invariant-items l = record {
  fits : Fits nothing_around (forest_of l.rest);
  few : l.areas + length l.rest ≤ most_entries;
  placed : l.out.items ++ storage_items l.areas (forest_of l.rest)
      ≡ l.initial.out.items ++ storage_items 0 (forest_of l.entries);
}

abbrev pub decreases-items : goal.decreases-items
decreases-items l = length l.rest
