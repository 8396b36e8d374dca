use Rattle.std.proofs.Common.{rules, arith, ◌<◌, ◌*◌, ◌^◌, ◌≤◌}
use Rattle.decimal18.proofs.Powers.{lengthened_some, lengthened_none, lengthened_below, power_le}
use Rattle.decimal18.proofs.receiver.lengthened.Goals as goal

pub overflow_mul-result : goal.overflow_mul-result
overflow_mul-result c =
    let below : c.args.magnitude * c.power_of_ten-then-magnitude-power_of_ten.result < 10 ^ c.args.digits =
    lengthened_below c.args.magnitude c.args.zeros c.args.digits c.power_of_ten.result _
    (omega arith) c.power_of_ten.ensures.value c.power_of_ten-then-magnitude-power_of_ten.ensures.value
    c.if-magnitude-power_of_ten.true in
    let most : 10 ^ c.args.digits ≤ 10 ^ 38 = power_le c.args.digits 38 (omega arith) in
    let fits : c.args.magnitude * c.power_of_ten-then-magnitude-power_of_ten.result < 10 ^ 38 = omega arith in
    search rules

pub returns-then-magnitude-power_of_ten : goal.returns-then-magnitude-power_of_ten
returns-then-magnitude-power_of_ten c = record {
  value = lengthened_some c.args.magnitude c.args.zeros c.args.digits c.power_of_ten.result _
      (omega arith) c.power_of_ten.ensures.value c.power_of_ten-then-magnitude-power_of_ten.ensures.value
      c.if-magnitude-power_of_ten.true;
  bound = lengthened_below c.args.magnitude c.args.zeros c.args.digits c.power_of_ten.result _
      (omega arith) c.power_of_ten.ensures.value c.power_of_ten-then-magnitude-power_of_ten.ensures.value
      c.if-magnitude-power_of_ten.true;
}

pub returns-else-magnitude-power_of_ten-clause-value : goal.returns-else-magnitude-power_of_ten-clause-value
returns-else-magnitude-power_of_ten-clause-value c =
    lengthened_none c.args.magnitude c.args.zeros c.args.digits c.power_of_ten.result (omega arith)
    c.power_of_ten.ensures.value c.if-magnitude-power_of_ten.false
