use Rattle.pages.proofs.One as one
use Rattle.pages.proofs.laws.one_map.Goals as goal

pub returns : goal.returns
returns c = one.one_map
