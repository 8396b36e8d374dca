use Rattle.std.proofs.Common.{◌≤◌, ◌^◌, length, arith}
use Rattle.decimal18.proofs.Powers.{power_le}
use Rattle.decimal18.proofs.decimal.Dec.from_digits.Goals as goal

pub number_after-requires : goal.number_after-requires
number_after-requires c =
    let few : 10 ^ length c.args.digits.now ≤ 10 ^ 18 = power_le (length c.args.digits.now) 18 (omega arith) in
    omega arith

pub short_parts-requires-clause-magnitude : goal.short_parts-requires-clause-magnitude
short_parts-requires-clause-magnitude c =
    let few : 10 ^ length c.args.digits.now ≤ 10 ^ 18 = power_le (length c.args.digits.now) 18 (omega arith) in
    omega (arith, c.in-Some.ensures.bound, few)
