use Rattle.initial_storage.proofs.Areas.{small_areas}
use Rattle.initial_storage.proofs.laws.areas_are_small.Goals as goal

pub returns : goal.returns
returns c = small_areas
