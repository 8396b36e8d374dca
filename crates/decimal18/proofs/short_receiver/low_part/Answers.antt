use Rattle.std.proofs.Common.{rules, arith, ◌<◌, ◌≤◌, ◌*◌, ◌-◌, ◌^◌, ◌≡◌, ap, ◌∙◌, sym, true, nat_le, if◌then◌else◌}
use Rattle.std.proofs.Common.{◌/◌, ◌+◌, ◌%◌}
use Rattle.std.proofs.lemmas.Bool.{le-leb}
use Rattle.decimal18.specs.Receiver.{carry}
use Rattle.decimal18.proofs.Powers.{low_shifted, low_below, power_le}
use Rattle.decimal18.proofs.short_receiver.low_part.Goals as goal

pub returns-then-from-scale-clause-bound : goal.returns-then-from-scale-clause-bound
returns-then-from-scale-clause-bound c =
    low_below (c.args.scale - c.args.from) c.args.digits c.low.result c.short_power.result (omega arith)
    c.low.ensures.bound c.short_power.ensures.value

pub overflow_mul-result : goal.overflow_mul-result
overflow_mul-result c =
    let within : c.low.result * c.short_power.result < 10 ^ c.args.digits =
    low_below (c.args.scale - c.args.from) c.args.digits c.low.result c.short_power.result (omega arith)
    c.low.ensures.bound c.short_power.ensures.value in
    let room : 10 ^ c.args.digits ≤ 10 ^ 18 = power_le c.args.digits 18 c.requires.digits in
    let fits : c.low.result * c.short_power.result < 10 ^ 18 = omega (arith, within, room) in
    search rules

pub returns-then-from-scale-clause-value : goal.returns-then-from-scale-clause-value
returns-then-from-scale-clause-value c =
    let m = c.args.magnitude in
    let test : nat_le c.args.from c.args.scale ≡ true = le-leb _ _ c.if-from-scale.true in
    low_shifted m (c.args.scale - c.args.from) c.args.digits c.low.result c.short_power.result (omega arith)
    c.low.ensures.value c.short_power.ensures.value
    ∙ sym (ap (λ b. (if b then m * 10 ^ (c.args.scale - c.args.from) else m / 10 ^ (c.args.from - c.args.scale)
    + carry c.args.rounding m (c.args.from - c.args.scale)) % 10 ^ c.args.digits) test)
