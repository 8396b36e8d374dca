use Rattle.volume_format.proofs.Order as order
use Rattle.volume_format.proofs.laws.keys_in_order.Goals as goal

pub returns : goal.returns
returns c = order.keys_in_order
