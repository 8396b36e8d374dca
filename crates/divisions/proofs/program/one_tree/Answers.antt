use Rattle.divisions.proofs.Programs.{one}
use Rattle.divisions.proofs.program.one_tree.Goals as goal

pub returns : goal.returns
returns c = one
