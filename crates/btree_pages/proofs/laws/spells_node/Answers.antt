use Rattle.btree_pages.proofs.Views.{spells_node}
use Rattle.btree_pages.proofs.laws.spells_node.Goals as goal

pub returns : goal.returns
returns c = λ layout bytes node sound long e. spells_node layout bytes node sound long e
