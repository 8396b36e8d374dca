use Rattle.btree_pages.proofs.Beginnings.{low_fill, high_fill}
use Rattle.btree_pages.proofs.laws.beginnings_in_order.Goals as goal

pub returns-clause-first : goal.returns-clause-first
returns-clause-first c = low_fill

pub returns-clause-last : goal.returns-clause-last
returns-clause-last c = high_fill
