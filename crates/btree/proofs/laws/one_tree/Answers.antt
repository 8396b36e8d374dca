use Rattle.btree.proofs.One as one
use Rattle.btree.proofs.laws.one_tree.Goals as goal

pub returns : goal.returns
returns c = one.one_tree
