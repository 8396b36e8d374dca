use Rattle.std.proofs.Common.{arith}
use Rattle.std.proofs.lemmas.Grind.{common_steps}
use Rattle.code_image.proofs.instruction.read_file.Goals as goal

pub returns : goal.returns
returns c = grind (arith, common_steps)
