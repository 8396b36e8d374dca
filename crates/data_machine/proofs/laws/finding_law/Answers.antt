use Rattle.data_machine.proofs.Readies.{finds_accept, finds_date}
use Rattle.data_machine.proofs.laws.finding_law.Goals as goal

pub returns-clause-accept : goal.returns-clause-accept
returns-clause-accept c = finds_accept

pub returns-clause-date : goal.returns-clause-date
returns-clause-date c = finds_date
