use Rattle.std.proofs.Common.{arith}
use Rattle.std.proofs.lemmas.Grind.{common_steps}
use Rattle.data_instructions.proofs.effects.line_after.Goals as goal

pub returns-in-AppendLiteral : goal.returns-in-AppendLiteral
returns-in-AppendLiteral c = grind (arith, common_steps)
