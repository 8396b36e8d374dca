use Rattle.std.proofs.Common.{arith}
use Rattle.source_tree.specs.Levels.{leading_conditions, forest_of}
use Rattle.source_tree.specs.Clauses.{nothing_around}
use Rattle.layout.proofs.Trees.{fits_tree, record_step, record_end}
use Rattle.layout.proofs.file_records.place_records.Goals as goal

pub records-preserved : goal.records-preserved
records-preserved c =
    let e = c.in-Some.ensures.0 in
    let one = c.in-Some.one in
    let parts = fits_tree nothing_around (forest_of c.records.rest.now) one.entry.now (leading_conditions one.inner.now)
    (forest_of one.inner.now) (forest_of one.next.now) e c.records.invariant.fits in
    record {
      fits = parts.2;
      shorter = omega (arith, c.in-Some.ensures.1, c.records.invariant.shorter);
      placed = record_step c.place_item.new.out.items c.records.out.items _ c.args.area (forest_of c.records.rest.now)
          one.entry.now (leading_conditions one.inner.now) (forest_of one.inner.now) (forest_of one.next.now)
          e c.in_ok-place_item.ensures.items c.records.invariant.placed;
    }

pub returns : goal.returns
returns c = record_end c.records.out.items _ c.args.area (forest_of c.records.rest.now) c.in_default.ensures
    c.records.invariant.placed
