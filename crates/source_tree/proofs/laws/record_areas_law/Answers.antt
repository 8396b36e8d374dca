use Rattle.source_tree.proofs.RecordAreas.{record_areas_there}
use Rattle.source_tree.proofs.laws.record_areas_law.Goals as goal

pub returns : goal.returns
returns c = record { files = record_areas_there }
