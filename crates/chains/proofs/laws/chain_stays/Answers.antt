use Rattle.chains.proofs.Staying as lemmas
use Rattle.chains.proofs.laws.chain_stays.Goals as goal

pub returns : goal.returns
returns c = lemmas.chain_stays
