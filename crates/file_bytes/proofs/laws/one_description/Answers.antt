use Rattle.file_bytes.proofs.Descriptions as own
use Rattle.file_bytes.proofs.laws.one_description.Goals as goal

pub returns : goal.returns
returns c = own.one_spec
