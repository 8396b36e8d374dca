use Rattle.records.proofs.Changed.{created_are_files, inserted_are_files, replaced_are_files, removed_are_files}
use Rattle.records.proofs.Changed.{there_is_file}
use Rattle.records.proofs.laws.changes_keep_files.Goals as goal

pub returns-clause-create : goal.returns-clause-create
returns-clause-create c = created_are_files

pub returns-clause-insert : goal.returns-clause-insert
returns-clause-insert c = inserted_are_files

pub returns-clause-replace : goal.returns-clause-replace
returns-clause-replace c = replaced_are_files

pub returns-clause-remove : goal.returns-clause-remove
returns-clause-remove c = removed_are_files

pub returns-clause-there : goal.returns-clause-there
returns-clause-there c = there_is_file
