use Rattle.data_machine.proofs.Cutting.{accepts_front}
use Rattle.data_machine.proofs.laws.cutting_law.Goals as goal

pub returns : goal.returns
returns c = accepts_front
