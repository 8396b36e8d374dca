use Rattle.volume_format.proofs.Forests as forests
use Rattle.volume_format.proofs.laws.forest_moves.Goals as goal

pub returns : goal.returns
returns c = forests.forest_moves
