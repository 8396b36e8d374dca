use Rattle.declarations.proofs.declarations.Declarations.with_items.Goals as goal

pub of-requires : goal.of-requires
of-requires c = c.requires

pub with_tables-requires-clause-files : goal.with_tables-requires-clause-files
with_tables-requires-clause-files c = c.requires.files

pub with_tables-requires-clause-tables : goal.with_tables-requires-clause-tables
with_tables-requires-clause-tables c = c.in-Ok.ensures.tables

pub returns-in-Ok-clause-program : goal.returns-in-Ok-clause-program
returns-in-Ok-clause-program c = c.with_tables.ensures

pub returns-in-Ok-clause-names : goal.returns-in-Ok-clause-names
returns-in-Ok-clause-names c = c.in-Ok.ensures.names

pub returns-clause-program : goal.returns-clause-program
returns-clause-program c = tt

pub returns-clause-names : goal.returns-clause-names
returns-clause-names c = c.in-Err.ensures.names
