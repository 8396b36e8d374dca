use Rattle.std.proofs.Common.{arith}
use Rattle.std.proofs.lemmas.Grind.{common_steps}
use Rattle.data_machine.proofs.measuring.natural_in.Goals as goal

pub returns-in-Some-to_integer : goal.returns-in-Some-to_integer
returns-in-Some-to_integer c = grind (arith, common_steps)
