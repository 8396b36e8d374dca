use Rattle.std.proofs.Common.{arith}
use Rattle.std.proofs.lemmas.Grind.{common_steps}
use Rattle.code_image.specs.Reading.{instruction_at}
use Rattle.code_image.proofs.instruction.read_from.Goals as goal

pub returns-in-2 : goal.returns-in-2
unfolding instruction_at
returns-in-2 c = grind (arith, common_steps)

pub returns-in-3 : goal.returns-in-3
unfolding instruction_at
returns-in-3 c = grind (arith, common_steps)

pub returns-in-6 : goal.returns-in-6
unfolding instruction_at
returns-in-6 c = grind (arith, common_steps)

pub returns-in-7 : goal.returns-in-7
unfolding instruction_at
returns-in-7 c = grind (arith, common_steps)

pub returns-in-10 : goal.returns-in-10
unfolding instruction_at
returns-in-10 c = grind (arith, common_steps)

pub returns-in-47 : goal.returns-in-47
unfolding instruction_at
returns-in-47 c = grind (arith, common_steps)
