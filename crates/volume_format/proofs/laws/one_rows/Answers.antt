use Rattle.volume_format.proofs.Once as once
use Rattle.volume_format.proofs.laws.one_rows.Goals as goal

pub returns : goal.returns
returns c = once.one_rows
