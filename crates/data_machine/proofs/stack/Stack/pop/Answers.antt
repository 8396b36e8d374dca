use Rattle.std.proofs.Common.{arith}
use Rattle.std.proofs.lemmas.Grind.{common_steps}
use Rattle.data_machine.proofs.stack.Stack.pop.Goals as goal

pub returns-clause-newest : goal.returns-clause-newest
returns-clause-newest g c = grind (arith, common_steps)
