use Rattle.std.proofs.Common.{arith}
use Rattle.std.proofs.lemmas.Grind.{common_steps}
use Rattle.data_machine.proofs.string_statement.put_from_first.Goals as goal

pub returns-clause-puts : goal.returns-clause-puts
returns-clause-puts c = grind (arith, common_steps)
