use Rattle.initial_storage.proofs.Conditions.{all_can_be_set}
use Rattle.initial_storage.proofs.laws.condition_values_suit.Goals as goal

pub returns : goal.returns
returns c = all_can_be_set
