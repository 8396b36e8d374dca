use Rattle.source_tree.proofs.Counts.{eighteen_digits, cut_is_same}
use Rattle.source_tree.proofs.laws.turns_law.Goals as goal

pub returns : goal.returns
returns c = record { digits = eighteen_digits; cut = cut_is_same }
