use Rattle.std.proofs.Common.{◌≡◌, ◌≤◌, ◌+◌, ◌*◌, None, length}
use Rattle.source_tree.specs.EntryRules.{forest_rules}
use Rattle.source_tree.specs.Levels.{forest_of}
use Rattle.source_tree.specs.Rooms.{room}
use Rattle.entry_rules.specs.Trees.{most_extent}
use Rattle.entry_rules.specs.Walk.{HasLevelLast, HasLevels, at_of, redefinable_of}
use Rattle.entry_rules.proofs.walk.+walk.Given as goal

abbrev pub decreases-check_item : goal.decreases-check_item
decreases-check_item l = 2 * length l.one.inner.now + 1

abbrev pub decreases-check_group : goal.decreases-check_group
decreases-check_group l = 2 * length l.entries.now

abbrev pub invariant-check_group-items : goal.invariant-check_group-items
invariant-check_group-items l = record {
  levels : HasLevels (forest_of l.rest);
  last : HasLevelLast l.last;
  shorter : length l.rest ≤ length l.entries;
  rules : forest_rules (at_of l.at) None (forest_of l.entries)
      ≡ forest_rules (at_of l.at) (redefinable_of l.last) (forest_of l.rest);
  sum : l.bytes + room l.at.around (forest_of l.rest) ≡ room l.at.around (forest_of l.entries);
  bound : l.bytes + most_extent * length l.rest ≤ most_extent * length l.entries;
}

abbrev pub decreases-check_group-items : goal.decreases-check_group-items
decreases-check_group-items l = length l.rest
