use Rattle.btree.proofs.Filling as filling
use Rattle.btree.proofs.laws.few_leaves.Goals as goal

pub returns : goal.returns
returns c = filling.few_leaves
