use Rattle.volume_format.proofs.Comes as comes
use Rattle.volume_format.proofs.laws.pair_comes.Goals as goal

pub returns : goal.returns
returns c = comes.pair_comes
