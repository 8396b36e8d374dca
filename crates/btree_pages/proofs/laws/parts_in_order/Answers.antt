use Rattle.btree_pages.proofs.Numbers.{cmp_append}
use Rattle.btree_pages.proofs.laws.parts_in_order.Goals as goal

pub returns : goal.returns
returns c = λ one two behind_one behind_two count. cmp_append one two behind_one behind_two count
