use Rattle.code_image.proofs.Completeness.{code_again}
use Rattle.code_image.proofs.laws.spelling_law.Goals as goal

pub returns : goal.returns
returns c = code_again
