use Rattle.decimal18.proofs.DigitRuns.{too_long}
use Rattle.decimal18.proofs.digits.long_number_after.Goals as goal

pub returns-then-number-most-clause-value : goal.returns-then-number-most-clause-value
returns-then-number-most-clause-value c =
    too_long c.loop-digit.number c.loop-digit.digit-index _ c.power_of_ten-most.result c.args.digits.now
    c.loop-digit-test.true c.power_of_ten-most.ensures.value c.if-number-most.true c.loop-digit.invariant.rest
