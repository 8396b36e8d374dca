use Rattle.data_instructions.proofs.EachSafety.{safe}
use Rattle.data_instructions.proofs.Safety.{safe_accept, safe_date, safe_showing}
use Rattle.data_instructions.proofs.laws.safety_law.Goals as goal

pub returns-clause-work : goal.returns-clause-work
returns-clause-work c = λ tables one s order. safe tables order one s

pub returns-clause-accept : goal.returns-clause-accept
returns-clause-accept c = safe_accept

pub returns-clause-date : goal.returns-clause-date
returns-clause-date c = safe_date

pub returns-clause-show : goal.returns-clause-show
returns-clause-show c = safe_showing
