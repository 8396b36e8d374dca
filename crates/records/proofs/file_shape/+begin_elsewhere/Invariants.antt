use Rattle.std.proofs.Common.{length}
use Rattle.records.proofs.file_shape.+begin_elsewhere.Given as goal

abbrev pub decreases-begin_elsewhere : goal.decreases-begin_elsewhere
decreases-begin_elsewhere l = length l.keys.now
