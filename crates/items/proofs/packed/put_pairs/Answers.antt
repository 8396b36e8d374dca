use Rattle.std.proofs.Common.{◌<◌, ◌%◌, arith}
use Rattle.items.proofs.Halves.{pair_put, packed_of_table}
use Rattle.items.proofs.packed.put_pairs.Goals as goal

pub loop-at-preserved : goal.loop-at-preserved
loop-at-preserved c =
    let pair : c.loop-at.rest % 100 < 100 = omega arith in
    let s = pair_put c.loop-at.bytes c.loop-at.at c.args.magnitude c.loop-at.rest _
    c.loop-at-test.true c.loop-at.invariant.within c.loop-at.invariant.rest c.loop-at.invariant.written
    (packed_of_table (c.loop-at.rest % 100) 0 pair) in
    record { within = s.0; rest = s.1; written = s.2 }
