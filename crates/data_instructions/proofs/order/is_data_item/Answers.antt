use Rattle.std.proofs.Common.{arith}
use Rattle.std.proofs.lemmas.Grind.{common_steps}
use Rattle.data_instructions.proofs.order.is_data_item.Goals as goal

pub returns-then-is_editing : goal.returns-then-is_editing
returns-then-is_editing c = grind (arith, common_steps)
