use Rattle.volume_format.proofs.Empty as empty
use Rattle.volume_format.proofs.laws.empty_holds.Goals as goal

pub returns : goal.returns
returns c = empty.empty_holds
