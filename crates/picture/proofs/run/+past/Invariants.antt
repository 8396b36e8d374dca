use Rattle.std.proofs.Common.{length}
use Rattle.picture.proofs.run.+past.Given as goal

abbrev pub decreases-past : goal.decreases-past
decreases-past l = length l.runs.now
