use Rattle.std.proofs.Common.{arith, refl, ap, ◌∙◌, ◌≡◌, ◌<◌, ◌-◌, ◌+◌, ◌%◌, length, drop}
use Rattle.std.proofs.Math.ListN.{set, length-set}
use Rattle.decimal18.proofs.DigitTexts.{rest_divided, digit_written}
use Rattle.decimal18.proofs.digit_text.put_by_one.Goals as goal

pub loop-place-preserved : goal.loop-place-preserved
loop-place-preserved c =
    let xs = c.loop-place.bytes in
    let place = c.loop-place.place in
    let i = length c.args.bytes.now - 1 - place in
    let digit = 48 + c.loop-place.rest % 10 in
    let room : place < length xs = omega arith in
    let at : i ≡ length xs - 1 - place = omega arith in
    record {
      rest = rest_divided c.args.number place c.loop-place.rest c.loop-place.invariant.rest;
      written = ap (λ k. drop (k - (place + 1)) (set xs i digit)) (length-set xs i digit)
          ∙ digit_written c.args.number place c.loop-place.rest i (length xs) xs c.loop-place.invariant.rest refl room
          at c.loop-place.invariant.written;
    }
