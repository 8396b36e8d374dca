use Rattle.std.proofs.Common.{arith}
use Rattle.std.proofs.lemmas.Grind.{common_steps}
use Rattle.code_image.proofs.instruction.Instruction.names_paragraph.Goals as goal

pub returns-then-first-count : goal.returns-then-first-count
returns-then-first-count c = grind (arith, common_steps)
