use Rattle.data_machine.proofs.Staying.{starts, stays}
use Rattle.data_machine.proofs.laws.staying_law.Goals as goal

pub returns-clause-start : goal.returns-clause-start
returns-clause-start c = starts

pub returns-clause-stays : goal.returns-clause-stays
returns-clause-stays c = stays
