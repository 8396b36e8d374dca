use Rattle.std.proofs.Common.{◌≡◌, ◌+◌, ◌*◌, ◌/◌, ◌%◌, ◌∷◌, [], replicate, length, ap, ◌∙◌, arith}
use Rattle.items.specs.Packed.{bytes_of_halves, digit_halves, sign_half}
use Rattle.items.proofs.Halves.{put_last}
use Rattle.items.proofs.packed.put_packed.Goals as goal

pub returns : goal.returns
returns c =
    put_last (length c.args.bytes.now) c.args.magnitude (sign_half c.args.signed c.args.negative) c.put_pairs.new.bytes
    c.fill.new.self c.requires
    (c.put_pairs.ensures ∙ ap (λ n. bytes_of_halves (digit_halves (2 * n) (c.args.magnitude / 10)))
    c.split_at_mut-front.ensures.front_len)
    (let one : length c.split_at_mut-front.result.1.now ≡ 1 = omega (arith, c.split_at_mut-front.ensures.back_len) in
    c.fill.ensures.after (λ y e. e)
    ∙ ap (λ n. replicate n (16 * (c.args.magnitude % 10) + c.sign_half.result)) one
    ∙ ap (λ s. (16 * (c.args.magnitude % 10) + s) ∷ []) c.sign_half.ensures.value)
