use Rattle.btree.proofs.Stays as stays
use Rattle.btree.proofs.laws.tree_stays.Goals as goal

pub returns : goal.returns
returns c = stays.tree_stays
