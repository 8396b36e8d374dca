use Rattle.std.proofs.Common.{◌≡◌, ◌≤◌, length, ◌+◌, ◌*◌, ◌++◌}
use Rattle.source_tree.specs.Levels.{forest_of}
use Rattle.source_tree.specs.Rooms.{room}
use Rattle.source_tree.specs.Starts.{start}
use Rattle.initial_storage.specs.Fits.{Fits}
use Rattle.initial_storage.proofs.occurrences.+occurrences.Given as goal

abbrev pub decreases-put_occurrence : goal.decreases-put_occurrence
decreases-put_occurrence l = 4 * length l.one.inner.now + 1

abbrev pub decreases-put_item : goal.decreases-put_item
decreases-put_item l = 4 * length l.one.inner.now + 2

abbrev pub decreases-put_unless_redefining : goal.decreases-put_unless_redefining
decreases-put_unless_redefining l = 4 * length l.one.inner.now + 3

abbrev pub decreases-put_group : goal.decreases-put_group
decreases-put_group l = 4 * length l.entries.now

abbrev pub invariant-put_group-items : goal.invariant-put_group-items
invariant-put_group-items l = record {
  fits : Fits l.around (forest_of l.rest);
  shorter : length l.rest ≤ length l.entries;
  bytes : l.out.items ++ start l.around (forest_of l.rest)
      ≡ l.initial.out.items ++ start l.around (forest_of l.entries);
  room : length l.out.items + room l.around (forest_of l.rest)
      ≡ length l.initial.out.items + room l.around (forest_of l.entries);
}

abbrev pub decreases-put_group-items : goal.decreases-put_group-items
decreases-put_group-items l = length l.rest
