use Rattle.volume_copies.proofs.Unloads.{unloaded}
use Rattle.volume_copies.proofs.laws.unloaded_lines_spell_records.Goals as goal

pub returns : goal.returns
returns c = unloaded
