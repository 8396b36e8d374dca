use Rattle.btree.proofs.Depth.{few_levels_held}
use Rattle.btree.proofs.laws.few_levels.Goals as goal

pub returns : goal.returns
returns c = few_levels_held
