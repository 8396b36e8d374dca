use Rattle.data_image.proofs.Instructions.{data_instruction_form}
use Rattle.data_image.proofs.laws.instruction_law.Goals as goal

pub returns-clause-again : goal.returns-clause-again
returns-clause-again c = data_instruction_form.again

pub returns-clause-found : goal.returns-clause-found
returns-clause-found c = λ bytes one rest is e. (data_instruction_form.takes bytes one rest is e).parts

pub returns-clause-fits : goal.returns-clause-fits
returns-clause-fits c = data_instruction_form.sound
