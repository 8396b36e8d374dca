use Rattle.decimal18.proofs.Receivers.{truncated_same}
use Rattle.decimal18.proofs.Truncations.{truncated_cut, truncated_whole}
use Rattle.decimal18.proofs.laws.truncations.Goals as goal

pub returns : goal.returns
returns c = record { same = truncated_same; cut = truncated_cut; whole = truncated_whole }
