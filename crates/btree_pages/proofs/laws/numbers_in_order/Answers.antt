use Rattle.btree_pages.proofs.Numbers as numbers
use Rattle.btree_pages.proofs.laws.numbers_in_order.Goals as goal

pub returns : goal.returns
returns c = numbers.numbers_in_order
