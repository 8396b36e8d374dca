use Rattle.std.proofs.Common.{arith}
use Rattle.picture.proofs.Fitting.{counted, counted_last}
use Rattle.picture.proofs.spelling.digit_count.Goals as goal

pub loop-rest-preserved : goal.loop-rest-preserved
loop-rest-preserved c =
    let i = c.loop-rest.invariant in
    let t = counted c.args.number c.loop-rest.digits c.loop-rest.rest c.loop-rest-test.true i.some i.below i.counted in
    record { some = omega arith; most = omega (arith, t.0); below = t.1; counted = t.2 }

pub returns-clause-value : goal.returns-clause-value
returns-clause-value c =
    let i = c.loop-rest.invariant in
    counted_last c.args.number c.loop-rest.digits c.loop-rest.rest c.loop-rest-test.false i.some i.most i.counted
