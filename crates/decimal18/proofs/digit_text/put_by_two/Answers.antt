use Rattle.std.proofs.Common.{◌≡◌, ◌+◌, length, ap, ◌∙◌, arith}
use Rattle.decimal18.specs.Digits.{digit_text}
use Rattle.decimal18.proofs.DigitTexts.{text_halves}
use Rattle.decimal18.proofs.digit_text.put_by_two.Goals as goal

pub returns : goal.returns
returns c =
    let all : length c.split_at_mut-front.result.0.now + 2 ≡ length c.args.bytes.now =
    omega (arith, c.split_at_mut-front.ensures.front_len, c.split_at_mut-front.ensures.back_len) in
    text_halves c.args.number (length c.split_at_mut-front.result.0.now) 2 c.put_last-2.new.bytes c.put_two.new.bytes
    c.put_last-2.ensures c.put_two.ensures
    ∙ ap (λ k. digit_text k c.args.number) all
