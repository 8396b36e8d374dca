use Rattle.pages.proofs.Refused as refused
use Rattle.pages.proofs.laws.map_is_own.Goals as goal

pub returns : goal.returns
returns c = refused.map_is_own
