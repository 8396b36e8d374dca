use Rattle.decimal18.proofs.ReceiverLaws.{fitted_kept, fitted_size}
use Rattle.decimal18.proofs.laws.receivers.Goals as goal

pub returns : goal.returns
returns c = record { kept = fitted_kept; size = fitted_size }
