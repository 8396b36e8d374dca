use Rattle.picture.proofs.Pictures.{bounds}
use Rattle.picture.proofs.form.bounds.Goals as goal

pub returns : goal.returns
returns c = bounds
