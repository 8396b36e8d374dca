use Rattle.std.proofs.Common.{arith}
use Rattle.std.proofs.lemmas.Grind.{common_steps}
use Rattle.decimal18.specs.Arithmetic.{product}
use Rattle.decimal18.proofs.decimal.Dec.long_product.Goals as goal

pub returns-in-None : goal.returns-in-None
unfolding product
returns-in-None c = grind (arith, common_steps)
