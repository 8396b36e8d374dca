use Rattle.std.proofs.Common.{arith}
use Rattle.std.proofs.lemmas.Grind.{common_steps}
use Rattle.data_machine.proofs.short_fitting.put_short_part.Goals as goal

pub returns-in-Numeric : goal.returns-in-Numeric
returns-in-Numeric c = grind (arith, common_steps)
