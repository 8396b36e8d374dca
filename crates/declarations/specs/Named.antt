-- What is declared, in the words of the rules.
use Rattle.std.specs.Prelude.{◌≡◌, List, [], ◌∷◌, map, Some, Result, Ok, Err}
use Rattle.std.specs.Borrow.{Bor}
use Rattle.lexical.specs.declared.place.Place.{Place}
use Rattle.source_tree.specs.Broken.{RuleBreach}
use Rattle.source_tree.specs.declared.program.Program.{Program}
use Rattle.source_tree.specs.LookUp.{first}
use Rattle.source_tree.specs.NameRules.{unique_name_rules}
use Rattle.source_tree.specs.Places.{LocatedItem}
use Rattle.source_tree.specs.ProgramFiles.{ProgramFile, files_of}
use Rattle.source_tree.specs.Records.{program_items}
use Rattle.source_tree.specs.Procedures.{Procedure, procedures_of}
use Rattle.source_tree.specs.Setting.{Scope}
use Rattle.layout.specs.declared.placed.PlacedItem.{PlacedItem}
use Rattle.layout.specs.Placing.{placed_item}
use Rattle.entry_rules.specs.declared.rule.BrokenRule.{BrokenRule}
use Rattle.entry_rules.specs.Checks.{broken_of}
use Rattle.declarations.specs.declared.declarations.Declarations.{Declarations}
use Rattle.declarations.specs.Data.{with_data}
use Rattle.declarations.specs.Listed.{procedure_of}

-- a program with the data that is declared
abbrev pub data_in : Declarations → Program
data_in all = with_data all.selects.now all.descriptions.now all.storage.now

abbrev pub items_in : Declarations → List LocatedItem
items_in all = program_items (data_in all)

abbrev pub files_in : Declarations → List ProgramFile
files_in all = files_of (items_in all) (data_in all)

abbrev pub procedures_in : Declarations → List Procedure
procedures_in all = map procedure_of all.procedure_list.items

-- what names name
abbrev pub scope_in : Declarations → Scope
scope_in all = record { items = items_in all; files = files_in all; procedures = procedures_in all }

-- A program declares this: its data, and its procedures.
pub record Declares (program : Program) (all : Declarations) : Type 0 where
  pub selects : all.selects.now ≡ program.selects
  pub descriptions : all.descriptions.now ≡ program.files
  pub storage : all.storage.now ≡ program.storage
  pub procedures : procedures_in all ≡ procedures_of program.sections

abbrev pub result_now : Result (Bor PlacedItem) BrokenRule → Result PlacedItem BrokenRule
result_now (Ok item) = Ok item.now
result_now (Err broken) = Err broken

-- The only item, as it is placed; or what a name breaks that names nothing, or several things.
abbrev pub IsItemNamed : Place → Result PlacedItem BrokenRule → List LocatedItem → Type 0
IsItemNamed place (Ok item) found = (one : LocatedItem) × (found ≡ one ∷ []) × (item ≡ placed_item one)
IsItemNamed place (Err broken) found = (rules : LocatedItem → List RuleBreach) → first (unique_name_rules place rules found) ≡ Some (broken_of broken)
