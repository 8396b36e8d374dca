use Rattle.std.proofs.Common.{◌≡◌, ◌≤◌, ◌+◌, ◌*◌, ◌++◌, None, false, length, sum}
use Rattle.source_tree.specs.EntryRules.{forest_rules, outermost, storage_rules}
use Rattle.source_tree.specs.Levels.{forest_of}
use Rattle.source_tree.specs.LookUp.{first}
use Rattle.source_tree.specs.Rooms.{area_lengths}
use Rattle.entry_rules.specs.Areas.{bytes_in, past_rules, broken_area_rules}
use Rattle.entry_rules.specs.Trees.{most_extent}
use Rattle.entry_rules.specs.Walk.{HasLevelLast, HasLevels, redefinable_of}
use Rattle.entry_rules.proofs.Totals.{total}
use Rattle.entry_rules.proofs.storage.check_storage.Given as goal

abbrev pub invariant-items : goal.invariant-items
invariant-items l = record {
  levels : HasLevels (forest_of l.rest);
  last : HasLevelLast l.last;
  shorter : length l.rest ≤ length l.entries;
  rules : forest_rules (outermost false) None (forest_of l.entries)
      ≡ forest_rules (outermost false) (redefinable_of l.last) (forest_of l.rest);
  areas : first (storage_rules 0 (forest_of l.entries))
      ≡ first (past_rules l.areas.past ++ broken_area_rules l.areas.before l.areas.last (forest_of l.rest));
  total : sum (area_lengths (forest_of l.entries)) ≡ total l.areas.before l.areas.last (forest_of l.rest);
  bound : bytes_in l.areas + most_extent * length l.rest ≤ most_extent * length l.entries;
}

abbrev pub decreases-items : goal.decreases-items
decreases-items l = length l.rest
