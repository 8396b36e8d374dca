use Rattle.records.proofs.Ascending.{first_fits, own_row}
use Rattle.records.proofs.laws.rows_ascend.Goals as goal

pub returns-clause-first : goal.returns-clause-first
returns-clause-first c = first_fits

pub returns-clause-own : goal.returns-clause-own
returns-clause-own c = own_row
