use Rattle.source_tree.proofs.InspectKept.{inspected_alike}
use Rattle.source_tree.proofs.laws.inspect_law.Goals as goal

pub returns : goal.returns
returns c = inspected_alike
