use Rattle.records.proofs.Short.{created_short, inserted_short, replaced_short, removed_short}
use Rattle.records.proofs.Short.{none_long, long_is_made, made_is_long}
use Rattle.records.proofs.laws.changes_keep_short.Goals as goal

pub returns-clause-create : goal.returns-clause-create
returns-clause-create c = created_short

pub returns-clause-insert : goal.returns-clause-insert
returns-clause-insert c = inserted_short

pub returns-clause-replace : goal.returns-clause-replace
returns-clause-replace c = replaced_short

pub returns-clause-remove : goal.returns-clause-remove
returns-clause-remove c = removed_short

pub returns-clause-none : goal.returns-clause-none
returns-clause-none c = none_long

pub returns-clause-long : goal.returns-clause-long
returns-clause-long c = long_is_made

pub returns-clause-made : goal.returns-clause-made
returns-clause-made c = made_is_long
