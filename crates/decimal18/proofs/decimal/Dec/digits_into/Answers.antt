use Rattle.std.proofs.Common.{arith}
use Rattle.decimal18.proofs.DigitTexts.{written_in_parts}
use Rattle.decimal18.proofs.decimal.Dec.digits_into.Goals as goal

pub returns : goal.returns
returns c =
    written_in_parts _ c.magnitude-magnitude.result c.power_of_ten-unit.result _ _ _ _ _
    c.magnitude-magnitude.ensures.value c.power_of_ten-unit.ensures.value c.put_digits-2.ensures c.put_digits-3.ensures
    (omega arith) (omega arith)
