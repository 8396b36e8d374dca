use Rattle.std.proofs.Common.{◌≡◌, ◌≤◌, length, ◌+◌, ◌*◌}
use Rattle.source_tree.specs.Levels.{forest_of}
use Rattle.source_tree.specs.Rooms.{room}
use Rattle.layout.specs.Fits.{Fits}
use Rattle.layout.proofs.rooms.+rooms.Given as goal

abbrev pub decreases-describe : goal.decreases-describe
decreases-describe l = 2 * length l.inner.now + 1

abbrev pub decreases-room : goal.decreases-room
decreases-room l = 2 * length l.entries.now

abbrev pub invariant-room-items : goal.invariant-room-items
invariant-room-items l = record {
  fits : Fits l.around (forest_of l.rest);
  sum : l.bytes + room l.around (forest_of l.rest) ≡ room l.around (forest_of l.entries);
  shorter : length l.rest ≤ length l.entries;
}

abbrev pub decreases-room-items : goal.decreases-room-items
decreases-room-items l = length l.rest
