use Rattle.volume_format.proofs.Keeping as keeping
use Rattle.volume_format.proofs.laws.rows_fit.Goals as goal

pub returns : goal.returns
returns c = keeping.rows_fit
