use Rattle.std.proofs.Common.{arith}
use Rattle.std.proofs.lemmas.Grind.{common_steps}
use Rattle.decimal18.proofs.decimal.Dec.to_integer.Goals as goal

pub overflow_mul-integer : goal.overflow_mul-integer
overflow_mul-integer c = grind (arith, common_steps)
