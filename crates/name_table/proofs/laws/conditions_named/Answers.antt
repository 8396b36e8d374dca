use Rattle.name_table.proofs.Picked.{named_conditions}
use Rattle.name_table.proofs.laws.conditions_named.Goals as goal

pub returns : goal.returns
returns c = named_conditions
