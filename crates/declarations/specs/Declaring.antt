-- The rules that are looked for before those of statements.
use Rattle.std.specs.Prelude.{List, ◌++◌}
use Rattle.source_tree.specs.declared.program.Program.{Program}
use Rattle.source_tree.specs.Broken.{RuleBreach, each}
use Rattle.source_tree.specs.EntryRules.{entry_rules}
use Rattle.source_tree.specs.FileRules.{select_names, description_names, file_name_rules, descriptions_rules, select_rules, program_file_rules}
use Rattle.source_tree.specs.PerformRules.{procedure_name_rules}
use Rattle.source_tree.specs.Records.{storage_areas, program_items}

-- those of the names of files, and of the entries of records
abbrev pub file_rules : Program → List RuleBreach
file_rules program =
    file_name_rules (select_names program.selects) (description_names program.files) ++ descriptions_rules program.storage program.files

-- those of working storage before them
abbrev pub data_rules : Program → List RuleBreach
data_rules program = entry_rules program.storage ++ file_rules program

-- those of SELECTs
abbrev pub selects_rules : Program → List RuleBreach
selects_rules program = each (select_rules (program_items program) (storage_areas program.storage) program.files) program.selects

-- those of entries and files
abbrev pub item_rules : Program → List RuleBreach
item_rules program = entry_rules program.storage ++ program_file_rules (program_items program) program

abbrev pub declaration_rules : Program → List RuleBreach
declaration_rules program = item_rules program ++ procedure_name_rules program.sections
