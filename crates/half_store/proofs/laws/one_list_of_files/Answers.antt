use Rattle.half_store.proofs.OneList.{one_list}
use Rattle.half_store.proofs.laws.one_list_of_files.Goals as goal

pub returns : goal.returns
returns c = one_list
