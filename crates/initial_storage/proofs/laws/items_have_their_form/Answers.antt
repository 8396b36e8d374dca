use Rattle.initial_storage.proofs.Formed.{all_formed}
use Rattle.initial_storage.proofs.laws.items_have_their_form.Goals as goal

pub returns : goal.returns
returns c = all_formed
