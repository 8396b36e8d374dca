use Rattle.chains.proofs.Following as lemmas
use Rattle.chains.proofs.laws.chain_there.Goals as goal

pub returns : goal.returns
returns c = lemmas.chain_there
