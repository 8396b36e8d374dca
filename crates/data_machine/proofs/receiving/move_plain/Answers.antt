use Rattle.std.proofs.Common.{arith}
use Rattle.std.proofs.lemmas.Grind.{common_steps}
use Rattle.data_machine.proofs.receiving.move_plain.Goals as goal

pub move_digits-requires-clause-from : goal.move_digits-requires-clause-from
move_digits-requires-clause-from c = grind (arith, common_steps)
