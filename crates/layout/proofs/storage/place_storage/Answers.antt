use Rattle.std.proofs.Common.{◌-◌, arith}
use Rattle.source_tree.specs.Levels.{forest_of}
use Rattle.source_tree.specs.Clauses.{nothing_around}
use Rattle.source_tree.specs.Rooms.{redefines}
use Rattle.layout.proofs.Trees.{fits_tree, below_if, storage_step, storage_end}
use Rattle.layout.proofs.storage.place_storage.Goals as goal

pub items-preserved : goal.items-preserved
items-preserved c =
    let inv = c.items.invariant in
    let e = c.in-Some.ensures.0 in
    let most = below_if (redefines c.in-Some.one.entry.now) c.area_of-area.result (c.items.areas - 1) c.items.areas
    c.items.areas c.area_of-area.ensures (omega arith) (omega arith) in
    record {
      fits = (fits_tree nothing_around _ _ _ _ _ e inv.fits).2;
      few = omega (arith, most, c.in-Some.ensures.1, inv.few);
      placed = storage_step _ _ _ c.items.areas _ _ _ _ _ _ e c.area_of-area.ensures c.in_ok-place_item.ensures.items
          inv.placed;
    }

pub returns : goal.returns
returns c = storage_end c.items.out.items _ c.items.areas (forest_of c.items.rest.now) c.in_default.ensures
    c.items.invariant.placed
