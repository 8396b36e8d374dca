use Rattle.btree.proofs.Stays as stays
use Rattle.btree.proofs.laws.pages_once.Goals as goal

pub returns-clause-tree : goal.returns-clause-tree
returns-clause-tree c = stays.pages_once

pub returns-clause-nodes : goal.returns-clause-nodes
returns-clause-nodes c = stays.once_in_parts
