use Rattle.data_entries.proofs.Told.{all_told}
use Rattle.data_entries.proofs.laws.levels_are_told.Goals as goal

pub returns : goal.returns
returns c = all_told
