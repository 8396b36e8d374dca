use Rattle.std.proofs.Common.{arith}
use Rattle.std.proofs.lemmas.Grind.{common_steps}
use Rattle.code_image.proofs.verified.is_within.Goals as goal

pub returns-then-name_files : goal.returns-then-name_files
returns-then-name_files c = grind (arith, common_steps)

pub returns-else-name_files : goal.returns-else-name_files
returns-else-name_files c = grind (arith, common_steps)
