use Rattle.data_image.proofs.DataTables.{tables_form}
use Rattle.data_image.proofs.laws.tables_law.Goals as goal

pub returns-clause-again : goal.returns-clause-again
returns-clause-again c = tables_form.again

pub returns-clause-found : goal.returns-clause-found
returns-clause-found c = λ bytes tables rest is e. (tables_form.takes bytes tables rest is e).parts

pub returns-clause-fits : goal.returns-clause-fits
returns-clause-fits c = tables_form.sound
