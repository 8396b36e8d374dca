-- The condition names, the files and the procedures of a program, in tables.
use Rattle.std.specs.Prelude.{◌≡◌, map}
use Rattle.source_tree.specs.declared.program.Program.{Program}
use Rattle.source_tree.specs.Procedures.{procedures_of}
use Rattle.source_tree.specs.Records.{program_items}
use Rattle.name_table.specs.Conditions.{AreConditions}
use Rattle.name_table.specs.Procedures.{AreProcedures}
use Rattle.file_descriptions.specs.Files.{AreFiles}
use Rattle.declarations.specs.declared.program_tables.ProgramTables.{ProgramTables}
use Rattle.declarations.specs.Listed.{procedure_of}

-- The tables are those of the program.
pub record AreTables (program : Program) (tables : ProgramTables) : Type 0 where
  pub conditions : AreConditions (program_items program) tables.conditions
  pub files : AreFiles (program_items program) program tables.files
  pub listed : map procedure_of tables.procedure_list.items ≡ procedures_of program.sections
  pub procedures : AreProcedures (procedures_of program.sections) tables.procedures
