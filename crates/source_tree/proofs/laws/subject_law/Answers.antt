use Rattle.source_tree.proofs.Subjects.{beside_zero}
use Rattle.source_tree.proofs.laws.subject_law.Goals as goal

pub returns : goal.returns
returns c = record { value = beside_zero }
