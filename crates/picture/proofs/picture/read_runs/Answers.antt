use Rattle.picture.proofs.Pictures.{from_form, from_only}
use Rattle.picture.proofs.picture.read_runs.Goals as goal

pub returns-clause-form : goal.returns-clause-form
returns-clause-form c = from_form c.args.runs.now c.picture_from.result c.picture_from.ensures

pub returns-clause-only : goal.returns-clause-only
returns-clause-only c = from_only c.args.runs.now c.picture_from.result c.picture_from.ensures
