use Rattle.roots.proofs.Within as within
use Rattle.roots.proofs.laws.roots_stand.Goals as goal

pub returns : goal.returns
returns c = within.roots_stand
