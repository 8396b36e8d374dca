use Rattle.std.proofs.Common.{arith}
use Rattle.std.proofs.lemmas.Grind.{common_steps}
use Rattle.code_image.proofs.writing.to_bytes.Goals as goal

pub returns-clause-has_spelling : goal.returns-clause-has_spelling
returns-clause-has_spelling c = grind (arith, common_steps)
