use Rattle.source_tree.proofs.Programs.{more_tells_more, told_from_start}
use Rattle.source_tree.proofs.StatementRuns.{exec_runs}
use Rattle.source_tree.proofs.laws.output_law.Goals as goal

pub returns-clause-statement : goal.returns-clause-statement
returns-clause-statement c = λ around one s depth. (exec_runs around depth one).grows s

pub returns-clause-program : goal.returns-clause-program
returns-clause-program c = more_tells_more

pub returns-clause-whole : goal.returns-clause-whole
returns-clause-whole c = told_from_start
