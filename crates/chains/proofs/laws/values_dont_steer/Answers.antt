use Rattle.chains.proofs.Entries as lemmas
use Rattle.chains.proofs.laws.values_dont_steer.Goals as goal

pub returns : goal.returns
returns c = lemmas.values_dont_steer
