use Rattle.picture.proofs.Fitting.{bounded}
use Rattle.picture.proofs.spelling.are_spelled.Goals as goal

pub returns-clause-bound : goal.returns-clause-bound
returns-clause-bound c = bounded c.fit_in.result c.args.runs.now c.fit_in.ensures
