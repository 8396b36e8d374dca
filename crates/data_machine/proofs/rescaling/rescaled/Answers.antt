use Rattle.std.proofs.Common.{rules, arith, ◌≤◌, ◌^◌}
use Rattle.decimal18.proofs.Powers.{power_le}
use Rattle.decimal18.proofs.Receivers.{fitted_by}
use Rattle.data_machine.proofs.rescaling.rescaled.Goals as goal

pub signed-requires : goal.signed-requires
signed-requires c =
    let few : 10 ^ c.args.digits ≤ 10 ^ 18 = power_le c.args.digits 18 c.requires.digits in
    omega (arith, few, c.in-Some.ensures.bound)

pub returns-in-Some-clause-fits : goal.returns-in-Some-clause-fits
returns-in-Some-clause-fits c = search (rules, fitted_by)
