use Rattle.file_recovery.proofs.OneFiles as one
use Rattle.file_recovery.proofs.laws.one_list_of_files.Goals as goal

pub returns : goal.returns
returns c = one.one_files c.one_list_of_files.ensures c.one_list_of_files-2.ensures
