use Rattle.std.proofs.Common.{arith, ◌<◌, subst, sym}
use Rattle.decimal18.proofs.Powers.{entry_of_table}
use Rattle.decimal18.specs.TotalOrder.{ten_pos}
use Rattle.decimal18.proofs.power.power_of_ten.Goals as goal

pub returns : goal.returns
returns c =
    let within : c.args.exponent < 39 = omega arith in
    let value = entry_of_table 39 c.args.exponent within in
    record { value = value; positive = subst (λ n. 0 < n) (sym value) (ten_pos c.args.exponent) }
