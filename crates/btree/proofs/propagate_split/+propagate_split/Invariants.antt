use Rattle.std.proofs.Common.{length}
use Rattle.btree.proofs.propagate_split.+propagate_split.Given as goal

abbrev pub decreases-propagate_split : goal.decreases-propagate_split
decreases-propagate_split g l = length l.path.now
