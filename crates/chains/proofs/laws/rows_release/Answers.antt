use Rattle.chains.proofs.Rows as lemmas
use Rattle.chains.proofs.laws.rows_release.Goals as goal

pub returns : goal.returns
returns c = lemmas.rows_release
