use Rattle.btree.proofs.There as there
use Rattle.btree.proofs.laws.entry_there.Goals as goal

pub returns : goal.returns
returns c = there.entry_there
