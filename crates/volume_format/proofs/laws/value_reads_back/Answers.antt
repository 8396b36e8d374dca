use Rattle.volume_format.proofs.Values as values
use Rattle.volume_format.proofs.laws.value_reads_back.Goals as goal

pub returns-clause-value : goal.returns-clause-value
returns-clause-value c = values.reads_back

pub returns-clause-rows : goal.returns-clause-rows
returns-clause-rows c = values.rows_low
