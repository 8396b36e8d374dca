use Rattle.code_image.proofs.Determinism.{one_run}
use Rattle.code_image.proofs.Termination.{has_run}
use Rattle.code_image.proofs.Quiet.{no_notes}
use Rattle.code_image.proofs.laws.run_law.Goals as goal

pub returns-clause-one : goal.returns-clause-one
returns-clause-one c = one_run

pub returns-clause-ends : goal.returns-clause-ends
returns-clause-ends c = λ code given verified. has_run code verified given

pub returns-clause-quiet : goal.returns-clause-quiet
returns-clause-quiet c = no_notes
