use Rattle.std.proofs.Common.{rules, arith, ◌<◌, ◌*◌, ◌^◌, ◌≤◌}
use Rattle.decimal18.proofs.Powers.{lengthened_some, lengthened_none, lengthened_below, power_le}
use Rattle.decimal18.proofs.short_receiver.lengthened.Goals as goal

pub overflow_mul-result : goal.overflow_mul-result
overflow_mul-result c =
    let below : c.args.magnitude * c.short_power-then-magnitude-short_power.result < 10 ^ c.args.digits =
    lengthened_below c.args.magnitude c.args.zeros c.args.digits c.short_power.result
    _ (omega arith) c.short_power.ensures.value c.short_power-then-magnitude-short_power.ensures.value
    c.if-magnitude-short_power.true in
    let most : 10 ^ c.args.digits ≤ 10 ^ 18 = power_le c.args.digits 18 (omega arith) in
    let fits : c.args.magnitude * c.short_power-then-magnitude-short_power.result < 10 ^ 18 = omega arith in
    search rules

pub returns-then-magnitude-short_power : goal.returns-then-magnitude-short_power
returns-then-magnitude-short_power c = record {
  value = lengthened_some c.args.magnitude c.args.zeros c.args.digits c.short_power.result
      _ (omega arith) c.short_power.ensures.value c.short_power-then-magnitude-short_power.ensures.value
      c.if-magnitude-short_power.true;
  bound = lengthened_below c.args.magnitude c.args.zeros c.args.digits c.short_power.result
      _ (omega arith) c.short_power.ensures.value c.short_power-then-magnitude-short_power.ensures.value
      c.if-magnitude-short_power.true;
}

pub returns-else-magnitude-short_power-clause-value : goal.returns-else-magnitude-short_power-clause-value
returns-else-magnitude-short_power-clause-value c =
    lengthened_none c.args.magnitude c.args.zeros c.args.digits c.short_power.result (omega arith)
    c.short_power.ensures.value c.if-magnitude-short_power.false
