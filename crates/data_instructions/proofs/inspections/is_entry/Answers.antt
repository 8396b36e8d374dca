use Rattle.std.proofs.Common.{arith}
use Rattle.std.proofs.lemmas.Grind.{common_steps}
use Rattle.data_instructions.proofs.inspections.is_entry.Goals as goal

pub returns-then-if_span-2 : goal.returns-then-if_span-2
returns-then-if_span-2 c = grind (arith, common_steps)
