use Rattle.unfinished_volume.proofs.NoRoots.{no_roots}
use Rattle.unfinished_volume.proofs.laws.hidden_root_is_damage.Goals as goal

pub returns : goal.returns
returns c = no_roots
