use Rattle.items.proofs.Held.{held_number}
use Rattle.items.proofs.laws.numbers_are_held.Goals as goal

pub returns : goal.returns
returns c = held_number
