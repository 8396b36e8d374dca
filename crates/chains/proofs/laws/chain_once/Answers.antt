use Rattle.chains.proofs.Following as lemmas
use Rattle.chains.proofs.laws.chain_once.Goals as goal

pub returns : goal.returns
returns c = lemmas.chain_once
