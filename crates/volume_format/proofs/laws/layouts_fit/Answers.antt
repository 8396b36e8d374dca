use Rattle.volume_format.proofs.Small as small
use Rattle.volume_format.proofs.laws.layouts_fit.Goals as goal

pub returns : goal.returns
returns c = small.layouts_fit
