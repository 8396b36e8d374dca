-- What is declared by a program, in the words of the program.
use Rattle.std.proofs.Common.{◌≡◌, List, [], ap, subst, sym, ◌∙◌}
use Rattle.std.specs.Prelude.{map}
use Rattle.source_tree.specs.declared.entry.Entry.{Entry}
use Rattle.source_tree.specs.declared.program.Program.{Program}
use Rattle.source_tree.specs.declared.program.Section.{Section}
use Rattle.source_tree.specs.declared.select.FileDescription.{FileDescription}
use Rattle.source_tree.specs.declared.select.Select.{Select}
use Rattle.source_tree.specs.FileRules.{program_file_rules}
use Rattle.source_tree.specs.Places.{LocatedItem}
use Rattle.source_tree.specs.ProgramFiles.{files_from}
use Rattle.source_tree.specs.Procedures.{Procedure, procedures_of}
use Rattle.source_tree.specs.Records.{program_items, storage_areas}
use Rattle.source_tree.specs.Rules.{all_permitted, sections_rules}
use Rattle.source_tree.specs.Setting.{Scope, scope}
use Rattle.layout.specs.declared.program.Layout.{Layout}
use Rattle.layout.specs.Placing.{placed_item}
use Rattle.name_table.specs.declared.conditions.ConditionNames.{ConditionNames}
use Rattle.name_table.specs.declared.procedures.ProcedureNames.{ProcedureNames}
use Rattle.name_table.specs.declared.table.NameTable.{NameTable}
use Rattle.name_table.specs.Conditions.{AreConditions}
use Rattle.name_table.specs.Items.{called_item}
use Rattle.name_table.specs.Procedures.{AreProcedures}
use Rattle.name_table.specs.Table.{IsTable, calls_in}
use Rattle.file_descriptions.specs.declared.files.ProgramFiles.{ProgramFiles}
use Rattle.file_descriptions.specs.Files.{AreFiles}
use Rattle.declarations.specs.declared.declarations.Declarations.{Declarations}
use Rattle.declarations.specs.Data.{with_data}
use Rattle.declarations.specs.declared.listed.Procedure.{Procedure as Listed}
use Rattle.declarations.specs.Listed.{procedure_of}
use Rattle.declarations.specs.Named.{Declares, data_in, items_in, procedures_in, scope_in}
use Rattle.declarations.specs.Tables.{IsDeclared}

-- The data that is declared is the program's.
pub same_data : (program : Program) (selects : List Select) (descriptions : List FileDescription) (storage : List Entry)
    → selects ≡ program.selects → descriptions ≡ program.files → storage ≡ program.storage
    → with_data selects descriptions storage ≡ with_data program.selects program.files program.storage
same_data program selects descriptions storage one two three =
    ap (λ (l : List Select). with_data l descriptions storage) one
    ∙ ap (λ (l : List FileDescription). with_data program.selects l storage) two
    ∙ ap (λ (l : List Entry). with_data program.selects program.files l) three

-- What is so of the program's data is so of what is declared.
pub declared_by : (program shown : Program) (named : NameTable) (layout : Layout) (all_conditions : ConditionNames)
    (all_files : ProgramFiles) (listed : List Listed) (all_procedures : ProcedureNames)
    → shown ≡ with_data program.selects program.files program.storage
    → map procedure_of listed ≡ procedures_of program.sections
    → IsTable named → calls_in named ≡ map called_item (program_items program)
    → layout.items ≡ map placed_item (program_items program)
    → AreConditions (program_items program) all_conditions → AreFiles (program_items program) program all_files
    → program_file_rules (program_items program) program ≡ []
    → AreProcedures (procedures_of program.sections) all_procedures
    → IsDeclared shown named layout all_conditions all_files listed all_procedures
declared_by program shown named layout all_conditions all_files listed all_procedures same procedures_same table calls
    items conditions files rules procedures =
    let own_data : Program = with_data program.selects program.files program.storage in
    let own : AreFiles (program_items own_data) own_data all_files =
    record { files = files.files; numbers = files.numbers; names = files.names } in
    let same_items : program_items shown ≡ program_items program = ap program_items same in
    record {
      table = table;
      calls = calls ∙ ap (map called_item) (sym same_items);
      items = items ∙ ap (map placed_item) (sym same_items);
      conditions = subst (λ (l : List LocatedItem). AreConditions l all_conditions) (sym same_items) conditions;
      files = subst (λ (p : Program). AreFiles (program_items p) p all_files) (sym same) own;
      file_rules = ap (λ (p : Program). program_file_rules (program_items p) p) same ∙ rules;
      procedures = subst (λ (l : List Procedure). AreProcedures l all_procedures) (sym procedures_same) procedures;
    }

module _ (program : Program) (all : Declarations) (h : Declares program all) where
  same : data_in all ≡ with_data program.selects program.files program.storage
  same =
      same_data program all.selects.now all.descriptions.now all.storage.now h.selects h.descriptions h.storage

  pub same_items : items_in all ≡ program_items program
  same_items = ap program_items same

  pub same_scope : scope_in all ≡ scope program
  same_scope =
      let with_files : Program → Scope = λ shown. record {
        items = program_items shown;
        files = files_from (program_items shown) (storage_areas shown.storage) shown.files 0 shown.selects;
        procedures = procedures_in all;
      } in
      let with_procedures : List Procedure → Scope = λ procedures. record {
        items = program_items program;
        files = files_from (program_items program) (storage_areas program.storage) program.files 0 program.selects;
        procedures = procedures;
      } in
      ap with_files same ∙ ap with_procedures h.procedures

  -- The statements of the program keep the rules, where they do so by what is declared.
  pub kept_by : (sections : List Section) → sections ≡ program.sections → sections_rules (scope_in all) all_permitted
      sections ≡ [] → sections_rules (scope program) all_permitted program.sections ≡ []
  kept_by sections same kept =
      ap (sections_rules (scope program) all_permitted) (sym same)
      ∙ ap (λ (found : Scope). sections_rules found all_permitted sections) (sym same_scope) ∙ kept
