use Rattle.std.proofs.Common.{◌≡◌, ◌≤◌, max, None, true, length}
use Rattle.source_tree.specs.Clauses.{nothing_around}
use Rattle.source_tree.specs.EntryRules.{forest_rules, outermost}
use Rattle.source_tree.specs.Levels.{forest_of}
use Rattle.source_tree.specs.Rooms.{longest}
use Rattle.entry_rules.specs.Trees.{most_extent}
use Rattle.entry_rules.specs.Walk.{HasLevelLast, HasLevels, redefinable_of}
use Rattle.entry_rules.proofs.descriptions.check_records.Given as goal

abbrev pub invariant-items : goal.invariant-items
invariant-items l = record {
  levels : HasLevels (forest_of l.rest);
  last : HasLevelLast l.last;
  shorter : length l.rest ≤ length l.entries;
  rules : forest_rules (outermost true) None (forest_of l.entries)
      ≡ forest_rules (outermost true) (redefinable_of l.last) (forest_of l.rest);
  longest : longest nothing_around (forest_of l.entries) ≡ max l.longest (longest nothing_around (forest_of l.rest));
  bound : l.longest ≤ most_extent;
}

abbrev pub decreases-items : goal.decreases-items
decreases-items l = length l.rest
