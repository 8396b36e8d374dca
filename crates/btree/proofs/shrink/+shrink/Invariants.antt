use Rattle.std.proofs.Common.{length}
use Rattle.btree.proofs.shrink.+shrink.Given as goal

abbrev pub decreases-shrink : goal.decreases-shrink
decreases-shrink g l = length l.path.now
