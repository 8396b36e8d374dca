use Rattle.btree.proofs.There.{tree_ascends}
use Rattle.btree.proofs.laws.entries_ascend.Goals as goal

pub returns : goal.returns
returns c = tree_ascends
