use Rattle.std.proofs.Common.{rules, ◌≡◌, length, replicate, arith}
use Rattle.std.proofs.lemmas.Fmt.{length-decimal-le}
use Rattle.text_ops.proofs.PaddedText.{written, below}
use Rattle.text_ops.proofs.digits.put_all_digits.Goals as goal

pub write_digits-requires : goal.write_digits-requires
write_digits-requires c =
    let size = length c.args.bytes.now in
    let room = below size c.magnitude.result _ c.magnitude.ensures.value c.requires.room c.requires.most in
    (length-decimal-le size c.magnitude.result c.requires.some room.0 room.1, omega (arith, c.fill.ensures.len))

pub returns : goal.returns
returns c =
    let size = length c.args.bytes.now in
    let room = below size c.magnitude.result _ c.magnitude.ensures.value c.requires.room c.requires.most in
    let zeros : c.fill.new.self ≡ replicate size 48 = search rules in
    written size c.write_digits.result c.magnitude.result _ c.fill.new.self c.write_digits.new.buf zeros
    c.magnitude.ensures.value c.write_digits.ensures.start c.write_digits.ensures.written c.write_digits.ensures.before
    c.requires.some room.0 room.1
