use Rattle.std.proofs.Common.{◌∙◌, sym}
use Rattle.data_entries.proofs.Numbers.{digit_above}
use Rattle.data_entries.proofs.integers.within.Goals as goal

pub returns-in_err-number : goal.returns-in_err-number
returns-in_err-number c = c.from_residual.ensures
    ∙ digit_above c.loop-digit.number c.args.most c.loop-digit.digit-index _ c.args.digits.now
    c.loop-digit-test.true c.loop-digit.invariant.same (sym c.in_err-number.ensures)
