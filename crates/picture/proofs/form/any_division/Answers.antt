use Rattle.picture.proofs.Divisions.{characters_divide, numeric_divides, edited_divides}
use Rattle.picture.proofs.form.any_division.Goals as goal

pub returns-clause-characters : goal.returns-clause-characters
returns-clause-characters c = characters_divide

pub returns-clause-numeric : goal.returns-clause-numeric
returns-clause-numeric c = numeric_divides

pub returns-clause-edited : goal.returns-clause-edited
returns-clause-edited c = edited_divides
