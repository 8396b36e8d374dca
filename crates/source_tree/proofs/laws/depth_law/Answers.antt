use Rattle.source_tree.proofs.Programs.{depth_is_enough}
use Rattle.source_tree.proofs.StatementDepth.{exec_same}
use Rattle.source_tree.proofs.laws.depth_law.Goals as goal

pub returns-clause-statement : goal.returns-clause-statement
returns-clause-statement c = λ around one s depth other. exec_same around depth other one s

pub returns-clause-program : goal.returns-clause-program
returns-clause-program c = depth_is_enough
