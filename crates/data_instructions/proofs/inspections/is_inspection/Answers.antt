use Rattle.std.proofs.Common.{arith}
use Rattle.std.proofs.lemmas.Grind.{common_steps}
use Rattle.data_instructions.proofs.inspections.is_inspection.Goals as goal

pub returns-then-are_within-2 : goal.returns-then-are_within-2
returns-then-are_within-2 c = grind (arith, common_steps)

pub returns-else-are_within-2 : goal.returns-else-are_within-2
returns-else-are_within-2 c = grind (arith, common_steps)
