use Rattle.volume_copies.proofs.LoadedAgain.{rows_come_back}
use Rattle.volume_copies.proofs.laws.unloaded_rows_come_back.Goals as goal

pub returns : goal.returns
returns c = rows_come_back
