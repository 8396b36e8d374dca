use Rattle.declarations.proofs.Declared.{declared_by, same_data}
use Rattle.declarations.proofs.declarations.Declarations.with_tables.Goals as goal

pub returns : goal.returns
returns c = record {
  selects = c.as_slice-selects.ensures;
  descriptions = c.as_slice-descriptions.ensures;
  storage = c.as_slice-storage.ensures;
  procedures = c.requires.tables.listed;
}

pub invariant_of-result : goal.invariant_of-result
invariant_of-result c =
    let program = c.args.program.now in
    let given = c.requires.items in
    let tables = c.requires.tables in
    let made = c.args.tables in record {
      declared = declared_by program _ c.args.items.names c.args.items.layout made.conditions made.files
          made.procedure_list.items made.procedures
          (same_data program _ _ _ c.as_slice-selects.ensures c.as_slice-descriptions.ensures
          c.as_slice-storage.ensures)
          tables.listed given.table given.calls given.items tables.conditions tables.files c.requires.files
          tables.procedures;
    }
