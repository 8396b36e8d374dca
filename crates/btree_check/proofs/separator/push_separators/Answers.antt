use Rattle.std.proofs.Common.{◌<◌, [], length, ◌∙◌, arith}
use Rattle.std.specs.Prelude.{slice_index_or}
use Rattle.btree_check.proofs.Walking.{row_back, row_named, read_more, back_more}
use Rattle.btree_check.proofs.separator.push_separators.Goals as goal

pub loop-place-preserved : goal.loop-place-preserved
loop-place-preserved c =
    let loop = c.loop-place in
    let node = c.args.node.now in
    let row = slice_index_or node.rows loop.place [] in
    let low : loop.place < length node.rows = omega (arith, c.loop-place-test.true, c.count-place-end.ensures.rows) in
    let named = row_named node.layout row c.in_ok-key.key c.rest.result.now c.number-page.result
    (c.in_ok-key.ensures.is ∙ c.key.ensures.key) c.number-page.ensures.is c.number-page.ensures.back
    c.rest.ensures.rest in
    record {
      read = read_more node.layout node.rows loop.place c.args.separators.now.items loop.separators.items
          c.push.new.self.items _ low loop.invariant.read c.in_ok-push.ensures.items named.0;
      back = back_more node.layout node.rows loop.place low loop.invariant.back (row_back node.layout row named.1);
    }
