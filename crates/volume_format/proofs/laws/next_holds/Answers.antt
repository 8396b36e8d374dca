use Rattle.volume_format.proofs.Empty as empty
use Rattle.volume_format.proofs.laws.next_holds.Goals as goal

pub returns : goal.returns
returns c = empty.next_holds
