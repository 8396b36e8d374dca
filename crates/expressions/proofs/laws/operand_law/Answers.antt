use Rattle.expressions.specs.Operands.{operand, operand_reader, number_operand, number_operand_reader}
use Rattle.expressions.proofs.Exact.Operands.{operand_sound, operand_complete, number_operand_sound}
use Rattle.expressions.proofs.Exact.Operands.{number_operand_complete}
use Rattle.expressions.proofs.Exact.Laws.{Never, only}
use Rattle.expressions.proofs.laws.operand_law.Goals as goal

pub returns-clause-spelled : goal.returns-clause-spelled
returns-clause-spelled c = operand_sound

pub returns-clause-only : goal.returns-clause-only
returns-clause-only c = only operand operand_reader (operand_complete {Allowed = Never})

pub returns-clause-number_spelled : goal.returns-clause-number_spelled
returns-clause-number_spelled c = number_operand_sound

pub returns-clause-number_only : goal.returns-clause-number_only
returns-clause-number_only c = only number_operand number_operand_reader (number_operand_complete {Allowed = Never})
