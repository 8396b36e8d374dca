use Rattle.std.proofs.Common.{rules, arith, ◌<◌, ◌≤◌, ◌*◌, ◌^◌}
use Rattle.decimal18.proofs.Powers.{lengthened_below, power_le}
use Rattle.data_machine.proofs.rescaling.lengthened.Goals as goal

pub overflow_mul-result : goal.overflow_mul-result
overflow_mul-result c =
    let zeros = c.short_power-then-magnitude-short_power.result in
    let below : c.args.magnitude * zeros < 10 ^ c.args.digits =
    lengthened_below c.args.magnitude c.args.zeros c.args.digits c.short_power.result zeros c.requires.zeros
    c.short_power.ensures.value c.short_power-then-magnitude-short_power.ensures.value
    c.if-magnitude-short_power.true in
    let most : 10 ^ c.args.digits ≤ 10 ^ 18 = power_le c.args.digits 18 c.requires.digits in
    let fits : c.args.magnitude * zeros < 10 ^ 18 = omega (arith, below, most) in
    search rules

pub returns-then-magnitude-short_power-clause-bound : goal.returns-then-magnitude-short_power-clause-bound
returns-then-magnitude-short_power-clause-bound c =
    lengthened_below c.args.magnitude c.args.zeros c.args.digits c.short_power.result
    c.short_power-then-magnitude-short_power.result c.requires.zeros c.short_power.ensures.value
    c.short_power-then-magnitude-short_power.ensures.value c.if-magnitude-short_power.true
