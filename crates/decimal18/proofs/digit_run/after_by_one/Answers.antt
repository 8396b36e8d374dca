use Rattle.std.proofs.Common.{rules, ◌<◌, ◌≤◌, ◌+◌, ◌-◌, ◌*◌, ◌^◌, length, ap, sym, ◌∙◌, drop, arith}
use Rattle.decimal18.specs.Digits.{digits_after}
use Rattle.decimal18.proofs.DigitRuns.{one_more}
use Rattle.decimal18.proofs.DigitRunParts.{next_room, room_after, room_now, digits_next}
use Rattle.decimal18.proofs.digit_run.after_by_one.Goals as goal

pub overflow_mul-number : goal.overflow_mul-number
overflow_mul-number c =
    let i = c.loop-digit.digit-index in
    let n = c.loop-digit.number in
    let next : (10 * n + 0 + 1) * 10 ^ (length c.args.digits.now - i - 1)
    ≤ (c.args.front + 1) * 10 ^ length c.args.digits.now =
    next_room n 0 (length c.args.digits.now - i) _ (omega arith) (omega arith) c.loop-digit.invariant.room in
    let small : 10 * n + 0 < (c.args.front + 1) * 10 ^ length c.args.digits.now =
    room_now (10 * n + 0) (length c.args.digits.now - i - 1) _ next in
    let fits : 10 * n < 10 ^ 18 = omega (arith, small, c.requires) in
    search rules

pub overflow_add-number : goal.overflow_add-number
overflow_add-number c =
    let i = c.loop-digit.digit-index in
    let n = c.loop-digit.number in
    let digit : c.from.result ≤ 9 = omega (arith, c.if-not-is_ascii_digit.ensures.cases) in
    let next : (10 * n + c.from.result + 1) * 10 ^ (length c.args.digits.now - i - 1)
    ≤ (c.args.front + 1) * 10 ^ length c.args.digits.now =
    next_room n c.from.result (length c.args.digits.now - i) _ digit (omega arith) c.loop-digit.invariant.room in
    let small : 10 * n + c.from.result < (c.args.front + 1) * 10 ^ length c.args.digits.now =
    room_now (10 * n + c.from.result) (length c.args.digits.now - i - 1) _ next in
    let fits : 10 * n + c.from.result < 10 ^ 18 = omega (arith, small, c.requires) in
    search rules

pub loop-digit-preserved : goal.loop-digit-preserved
loop-digit-preserved c =
    let cs = c.args.digits.now in
    let i = c.loop-digit.digit-index in
    let n = c.loop-digit.number in
    let digit : c.from.result ≤ 9 = omega (arith, c.if-not-is_ascii_digit.ensures.cases) in
    record {
      room = room_after n c.from.result (length cs) i _ digit c.loop-digit-test.true c.loop-digit.invariant.room;
      number = ap (λ d. digits_after (10 * n + d) (drop (i + 1) cs)) c.from.ensures
          ∙ sym (one_more n i cs c.loop-digit-test.true) ∙ c.loop-digit.invariant.number;
      digits = digits_next cs i c.loop-digit-test.true (sym c.if-not-is_ascii_digit.ensures.value)
          ∙ c.loop-digit.invariant.digits;
    }
