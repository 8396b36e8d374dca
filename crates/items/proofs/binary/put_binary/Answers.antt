use Rattle.std.proofs.Common.{◌∙◌}
use Rattle.items.proofs.Words.{halfword, fullword}
use Rattle.items.proofs.binary.put_binary.Goals as goal

pub returns-then-digits-le-HALFWORD_DIGITS : goal.returns-then-digits-le-HALFWORD_DIGITS
returns-then-digits-le-HALFWORD_DIGITS c =
    c.write_i16.ensures ∙ halfword c.args.bytes.now c.args.digits c.args.integer c.requires.length
    c.if-digits-le-HALFWORD_DIGITS.true c.requires.bound c.ranges.integer

pub returns-then-digits-le-FULLWORD_DIGITS : goal.returns-then-digits-le-FULLWORD_DIGITS
returns-then-digits-le-FULLWORD_DIGITS c =
    c.write_i32.ensures ∙ fullword c.args.bytes.now c.args.digits c.args.integer c.requires.length
    c.if-digits-le-HALFWORD_DIGITS.false c.if-digits-le-FULLWORD_DIGITS.true c.requires.bound c.ranges.integer
