use Rattle.std.proofs.Common.{arith}
use Rattle.std.proofs.lemmas.Grind.{common_steps}
use Rattle.data_instructions.proofs.inspections.have_entries.Goals as goal

pub returns-then-one-left : goal.returns-then-one-left
returns-then-one-left c = grind (arith, common_steps)

pub returns : goal.returns
returns c = grind (arith, common_steps)
