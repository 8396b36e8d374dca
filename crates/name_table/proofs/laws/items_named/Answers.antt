use Rattle.name_table.proofs.Picked.{named_items}
use Rattle.name_table.proofs.laws.items_named.Goals as goal

pub returns : goal.returns
returns c = named_items
