use Rattle.expressions.proofs.Exact.Expressions.{expression_sound}
use Rattle.expressions.proofs.Exact.Laws.{only_to_depth}
use Rattle.expressions.proofs.laws.expression_law.Goals as goal

pub returns-clause-spelled : goal.returns-clause-spelled
returns-clause-spelled c = expression_sound

pub returns-clause-only : goal.returns-clause-only
returns-clause-only c = only_to_depth
