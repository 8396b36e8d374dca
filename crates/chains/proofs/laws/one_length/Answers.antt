use Rattle.chains.proofs.Following as lemmas
use Rattle.chains.proofs.laws.one_length.Goals as goal

pub returns : goal.returns
returns c = lemmas.one_length
