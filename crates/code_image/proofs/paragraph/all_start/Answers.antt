use Rattle.std.proofs.Common.{arith}
use Rattle.std.proofs.lemmas.Grind.{common_steps}
use Rattle.code_image.proofs.paragraph.all_start.Goals as goal

pub returns-then-not-starts_at : goal.returns-then-not-starts_at
returns-then-not-starts_at c = grind (arith, common_steps)

pub returns : goal.returns
returns c = grind (arith, common_steps)
