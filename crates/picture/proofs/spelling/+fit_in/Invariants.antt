use Rattle.std.proofs.Common.{length}
use Rattle.picture.proofs.spelling.+fit_in.Given as goal

abbrev pub decreases-fit_in : goal.decreases-fit_in
decreases-fit_in l = length l.runs.now
