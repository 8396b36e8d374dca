use Rattle.std.proofs.Common.{refl}
use Rattle.decimal18.proofs.DigitTexts.{pair_of_table, pair_written}
use Rattle.decimal18.proofs.digit_text.put_two.Goals as goal

pub returns : goal.returns
returns c = pair_written c.args.number _ _ c.args.bytes.now _ c.requires.length
    (pair_of_table c.args.number _ c.requires.number) refl refl
