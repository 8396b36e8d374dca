use Rattle.file_image.proofs.Verbs.{verb_form}
use Rattle.file_image.proofs.laws.verb_law.Goals as goal

pub returns-clause-again : goal.returns-clause-again
returns-clause-again c = verb_form.again

pub returns-clause-found : goal.returns-clause-found
returns-clause-found c = λ bytes verb rest is e. (verb_form.takes bytes verb rest is e).parts

pub returns-clause-fits : goal.returns-clause-fits
returns-clause-fits c = verb_form.sound
