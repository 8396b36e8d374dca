use Rattle.perform_graph.proofs.Descent.{none_leads_back}
use Rattle.perform_graph.proofs.laws.one_answer.Goals as goal

pub returns : goal.returns
returns c = none_leads_back
