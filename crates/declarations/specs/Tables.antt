-- The tables of a program's data and procedures.
use Rattle.std.specs.Prelude.{◌≡◌, List, [], map}
use Rattle.source_tree.specs.declared.program.Program.{Program}
use Rattle.source_tree.specs.FileRules.{program_file_rules}
use Rattle.source_tree.specs.Records.{program_items}
use Rattle.layout.specs.declared.program.Layout.{Layout}
use Rattle.layout.specs.Placing.{placed_item}
use Rattle.name_table.specs.declared.conditions.ConditionNames.{ConditionNames}
use Rattle.name_table.specs.declared.procedures.ProcedureNames.{ProcedureNames}
use Rattle.name_table.specs.declared.table.NameTable.{NameTable}
use Rattle.name_table.specs.Conditions.{AreConditions}
use Rattle.name_table.specs.Items.{called_item}
use Rattle.name_table.specs.Procedures.{AreProcedures}
use Rattle.name_table.specs.Table.{IsTable, calls_in}
use Rattle.file_descriptions.specs.declared.files.ProgramFiles.{ProgramFiles}
use Rattle.file_descriptions.specs.Files.{AreFiles}
use Rattle.declarations.specs.declared.listed.Procedure.{Procedure}
use Rattle.declarations.specs.Listed.{procedure_of}

-- Names and places are those of the items, the files those of the SELECTs, which keep their rules, and the names of procedures those of
-- the procedures.
pub record IsDeclared (program : Program) (named : NameTable) (layout : Layout) (all_conditions : ConditionNames) (all_files : ProgramFiles)
    (listed : List Procedure) (all_procedures : ProcedureNames) : Type 0 where
  pub table : IsTable named
  pub calls : calls_in named ≡ map called_item (program_items program)
  pub items : layout.items ≡ map placed_item (program_items program)
  pub conditions : AreConditions (program_items program) all_conditions
  pub files : AreFiles (program_items program) program all_files
  pub file_rules : program_file_rules (program_items program) program ≡ []
  pub procedures : AreProcedures (map procedure_of listed) all_procedures
