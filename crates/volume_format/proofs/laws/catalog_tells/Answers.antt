use Rattle.volume_format.proofs.Names as names
use Rattle.file_bytes.proofs.Descriptions as descriptions
use Rattle.volume_format.proofs.laws.catalog_tells.Goals as goal

pub returns-clause-spec : goal.returns-clause-spec
returns-clause-spec c = descriptions.one_spec

pub returns-clause-names : goal.returns-clause-names
returns-clause-names c = names.names_in_order
