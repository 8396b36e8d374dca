use Rattle.file_image.proofs.FileForms.{file_form}
use Rattle.file_image.proofs.laws.file_law.Goals as goal

pub returns-clause-again : goal.returns-clause-again
returns-clause-again c = file_form.again

pub returns-clause-found : goal.returns-clause-found
returns-clause-found c = λ bytes one rest is e. (file_form.takes bytes one rest is e).parts

pub returns-clause-fits : goal.returns-clause-fits
returns-clause-fits c = file_form.sound
