use Rattle.std.proofs.Common.{◌-◌, ◌*◌, arith}
use Rattle.pages.proofs.Spellings.{put_spelled}
use Rattle.pages.proofs.numbers.put_number.Goals as goal

pub returns : goal.returns
returns c = λ numbers count is.
    put_spelled numbers c.args.bytes.now c.write_u32.new.buf c.args.place c.args.number (4096 - 4 * c.args.place)
    (omega (arith, count, c.requires)) (omega (arith, c.requires)) is c.write_u32.ensures
