use Rattle.picture.proofs.Pictures.{answer_form, answer_only}
use Rattle.picture.proofs.picture.read_text.Goals as goal

pub returns-clause-form : goal.returns-clause-form
returns-clause-form c = answer_form c.args.text.now c.picture_of.result c.picture_of.ensures

pub returns-clause-only : goal.returns-clause-only
returns-clause-only c = answer_only c.args.text.now c.picture_of.result c.picture_of.ensures
