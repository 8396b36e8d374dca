use Rattle.std.proofs.Common.{arith}
use Rattle.std.proofs.lemmas.Grind.{common_steps}
use Rattle.code_image.specs.Reading.{mark_at}
use Rattle.code_image.proofs.reading.read_mark.Goals as goal

pub returns-then-starts_with : goal.returns-then-starts_with
unfolding mark_at
returns-then-starts_with c = grind (arith, common_steps)

pub returns-then-starts_with-2 : goal.returns-then-starts_with-2
unfolding mark_at
returns-then-starts_with-2 c = grind (arith, common_steps)
