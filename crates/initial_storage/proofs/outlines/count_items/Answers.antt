use Rattle.std.proofs.Common.{arith}
use Rattle.initial_storage.proofs.Counted.{counted_all}
use Rattle.initial_storage.proofs.outlines.count_items.Goals as goal

pub returns : goal.returns
returns c = λ around. counted_all around c.args.entries.now c.loop-entry.entry-index c.loop-entry.count
    c.loop-entry.invariant.so_far (omega (arith, c.loop-entry-test.false))
