use Rattle.std.proofs.Common.{arith}
use Rattle.volume_copies.proofs.same_order.are_places.Goals as goal

pub returns : goal.returns
returns c = λ _. record {
  places = c.args.places.now;
  at = λ number low.
      (c.loop-number.invariant number (omega (arith, low, c.loop-number-test.false, c.loop-number.auto.number-end))).0;
  is = λ number low.
      (c.loop-number.invariant number (omega (arith, low, c.loop-number-test.false, c.loop-number.auto.number-end))).1;
}
