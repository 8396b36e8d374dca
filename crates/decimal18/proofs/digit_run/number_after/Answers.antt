use Rattle.std.proofs.Common.{rules, ◌≡◌, ◌<◌, ◌≤◌, ◌+◌, ◌^◌, length, arith}
use Rattle.decimal18.proofs.DigitRunParts.{less_room, front_small, some_below}
use Rattle.decimal18.proofs.digit_run.number_after.Goals as goal

pub overflow_mul-front : goal.overflow_mul-front
overflow_mul-front c =
    let rest : length c.split_at.result.1.now + 8 ≡ length c.args.digits.now =
    omega (arith, c.split_at.ensures.back_len) in
    let few : c.args.front + 1 ≤ 10 ^ 10 = front_small c.args.front _ _ rest c.requires in
    search rules

pub overflow_add-front : goal.overflow_add-front
overflow_add-front c =
    let rest : length c.split_at.result.1.now + 8 ≡ length c.args.digits.now =
    omega (arith, c.split_at.ensures.back_len) in
    let few : c.args.front + 1 ≤ 10 ^ 10 = front_small c.args.front _ _ rest c.requires in
    let eight : c.in-Some.eight < 10 ^ 8 = c.in-Some.ensures.bound in
    search rules

pub after_by_eight-requires : goal.after_by_eight-requires
after_by_eight-requires c =
    let rest : length c.split_at.result.1.now + 8 ≡ length c.args.digits.now =
    omega (arith, c.split_at.ensures.back_len) in
    let room = less_room c.args.front c.in-Some.eight (length c.args.digits.now) (length c.split_at.result.1.now) rest
    c.in-Some.ensures.bound in
    omega (arith, room, c.requires)

pub returns-clause-bound : goal.returns-clause-bound
returns-clause-bound c =
    let rest : length c.split_at.result.1.now + 8 ≡ length c.args.digits.now =
    omega (arith, c.split_at.ensures.back_len) in
    let room = less_room c.args.front c.in-Some.eight (length c.args.digits.now) (length c.split_at.result.1.now) rest
    c.in-Some.ensures.bound in
    some_below c.after_by_eight.result _ _ room c.after_by_eight.ensures.bound
