use Rattle.data_instructions.proofs.Safety.{fits_less}
use Rattle.data_instructions.proofs.laws.joining_law.Goals as goal

pub returns-clause-join : goal.returns-clause-join
returns-clause-join c = fits_less
