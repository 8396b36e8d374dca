use Rattle.std.proofs.Common.{arith}
use Rattle.std.proofs.lemmas.Grind.{common_steps}
use Rattle.code_image.specs.Reading.{code_at}
use Rattle.code_image.proofs.reading.read_code.Goals as goal

pub returns : goal.returns
unfolding code_at
returns c = grind (arith, common_steps)

pub returns-in_err-held-2 : goal.returns-in_err-held-2
unfolding code_at
returns-in_err-held-2 c = grind (arith, common_steps)

pub returns-in_err-held : goal.returns-in_err-held
unfolding code_at
returns-in_err-held c = grind (arith, common_steps)
