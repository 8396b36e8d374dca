use Rattle.std.proofs.Common.{◌≡◌, ◌≤◌, length, ◌+◌, ◌*◌, ◌++◌}
use Rattle.source_tree.specs.Levels.{forest_of}
use Rattle.source_tree.specs.Rooms.{room}
use Rattle.layout.specs.Fits.{Fits}
use Rattle.layout.specs.Placing.{group_items}
use Rattle.layout.proofs.places.+places.Given as goal

abbrev pub decreases-place_item : goal.decreases-place_item
decreases-place_item l = 2 * length l.one.inner.now + 1

abbrev pub decreases-place_group : goal.decreases-place_group
decreases-place_group l = 2 * length l.entries.now

abbrev pub invariant-place_group-items : goal.invariant-place_group-items
invariant-place_group-items l = record {
  fits : Fits l.around.around (forest_of l.rest);
  room : l.here + room l.around.around (forest_of l.rest) ≤ l.start + 65535;
  last : l.last ≤ l.start + 65535;
  shorter : length l.rest ≤ length l.entries;
  placed : l.out.items
      ++ group_items l.around.around l.around.area l.around.dimensions.now l.last l.here (forest_of l.rest)
      ≡ l.initial.out.items
      ++ group_items l.around.around l.around.area l.around.dimensions.now l.start l.start (forest_of l.entries);
}

abbrev pub decreases-place_group-items : goal.decreases-place_group-items
decreases-place_group-items l = length l.rest
