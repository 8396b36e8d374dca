use Rattle.picture.proofs.Pictures.{one_form}
use Rattle.picture.proofs.form.one_form.Goals as goal

pub returns : goal.returns
returns c = one_form
