use Rattle.name_table.proofs.NamedFiles.{only_named}
use Rattle.name_table.proofs.laws.files_named_once.Goals as goal

pub returns : goal.returns
returns c = only_named
