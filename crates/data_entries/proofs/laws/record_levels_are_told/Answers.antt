use Rattle.data_entries.proofs.Told.{record_told}
use Rattle.data_entries.proofs.laws.record_levels_are_told.Goals as goal

pub returns : goal.returns
returns c = record_told
