use Rattle.std.proofs.Common.{arith}
use Rattle.source_tree.specs.Levels.{forest_of}
use Rattle.source_tree.specs.Rooms.{redefines}
use Rattle.layout.proofs.Trees.{fits_tree, room_tree, below_if, group_step, group_end}
use Rattle.layout.proofs.places.+places.Goals as goal

pub place_group-items-preserved : goal.place_group-items-preserved
place_group-items-preserved t c =
    let inv = c.items.invariant in
    let e = c.in-Some.ensures.0 in
    let split = room_tree c.args.around.around _ _ _ _ _ e in
    record {
      fits = (fits_tree c.args.around.around _ _ _ _ _ e inv.fits).2;
      room = omega (arith, split, c.in_ok-here.ensures.bytes, inv.room);
      last = below_if (redefines c.in-Some.one.entry.now) c.beginning-last.result c.items.last c.items.here _
          c.beginning-last.ensures inv.last (omega (arith, inv.room));
      shorter = omega (arith, c.in-Some.ensures.1, inv.shorter);
      placed = group_step _ _ _ _ _ _ c.items.last c.items.here _ _ _ _ _ _ _ e c.beginning-last.ensures
          c.in_ok-here.ensures.bytes c.in_ok-here.ensures.items inv.placed;
    }

pub place_group-returns : goal.place_group-returns
place_group-returns t c =
    group_end c.items.out.items _ c.args.around.around c.args.around.area c.args.around.dimensions.now c.items.last
    c.items.here (forest_of c.items.rest.now) c.in_default.ensures c.items.invariant.placed
