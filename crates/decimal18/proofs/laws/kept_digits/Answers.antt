use Rattle.decimal18.proofs.ReceiverLaws.{low_kept, low_sign}
use Rattle.decimal18.proofs.laws.kept_digits.Goals as goal

pub returns : goal.returns
returns c = record { low = low_kept; sign = low_sign }
