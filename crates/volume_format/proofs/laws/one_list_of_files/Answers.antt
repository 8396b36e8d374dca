use Rattle.volume_format.proofs.OneFiles as one
use Rattle.volume_format.proofs.laws.one_list_of_files.Goals as goal

pub returns : goal.returns
returns c = one.one_files
