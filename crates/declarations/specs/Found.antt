-- Items that are found by their names.
use Rattle.std.specs.Prelude.{◌≡◌, ℕ, List, [], ◌∷◌, map, slice_get, Some, Result, Ok, Err}
use Rattle.std.specs.Borrow.{Bor}
use Rattle.lexical.specs.declared.place.Place.{Place}
use Rattle.source_tree.specs.Broken.{RuleBreach}
use Rattle.source_tree.specs.declared.program.Program.{Program}
use Rattle.source_tree.specs.LookUp.{first}
use Rattle.source_tree.specs.NameRules.{unique_name_rules}
use Rattle.source_tree.specs.Places.{LocatedItem}
use Rattle.source_tree.specs.Records.{program_items}
use Rattle.layout.specs.declared.placed.PlacedItem.{PlacedItem}
use Rattle.layout.specs.Placing.{placed_item}
use Rattle.name_table.specs.Items.{called_item}
use Rattle.name_table.specs.Table.{IsTable, calls_in}
use Rattle.entry_rules.specs.declared.rule.BrokenRule.{BrokenRule}
use Rattle.entry_rules.specs.Checks.{broken_of}
use Rattle.declarations.specs.declared.declared_items.DeclaredItems.{DeclaredItems}
use Rattle.declarations.specs.Data.{with_data}

-- What a name breaks that names nothing, or several things.
abbrev pub IsUnnamed : {A : Type 0} → Place → BrokenRule → List A → Type 0
IsUnnamed {A} place broken found = (rules : A → List RuleBreach) → first (unique_name_rules place rules found) ≡ Some (broken_of broken)

-- The number of the only item.
abbrev pub IsNumbered : List LocatedItem → Place → Result ℕ BrokenRule → List LocatedItem → Type 0
IsNumbered items place (Ok number) found = (one : LocatedItem) × (found ≡ one ∷ []) × (slice_get items number ≡ Some one)
IsNumbered items place (Err broken) found = IsUnnamed place broken found

abbrev pub result_now : Result (Bor PlacedItem) BrokenRule → Result PlacedItem BrokenRule
result_now (Ok item) = Ok item.now
result_now (Err broken) = Err broken

-- The only item, as it is placed.
abbrev pub IsItemNamed : Place → Result PlacedItem BrokenRule → List LocatedItem → Type 0
IsItemNamed place (Ok item) found = (one : LocatedItem) × (found ≡ one ∷ []) × (item ≡ placed_item one)
IsItemNamed place (Err broken) found = IsUnnamed place broken found

-- a program with their data
abbrev pub data_of : DeclaredItems → Program
data_of all = with_data all.selects.now all.descriptions.now all.storage.now

abbrev pub items_of : DeclaredItems → List LocatedItem
items_of all = program_items (data_of all)

-- Names and places are those of the data's items.
pub record AreDeclared (all : DeclaredItems) : Type 0 where
  pub table : IsTable all.names
  pub calls : calls_in all.names ≡ map called_item (items_of all)
  pub items : all.layout.items ≡ map placed_item (items_of all)

-- They have the data of a program, and the names and places of its items.
pub record HasItems (program : Program) (all : DeclaredItems) : Type 0 where
  pub selects : all.selects.now ≡ program.selects
  pub descriptions : all.descriptions.now ≡ program.files
  pub storage : all.storage.now ≡ program.storage
  pub table : IsTable all.names
  pub calls : calls_in all.names ≡ map called_item (program_items program)
  pub items : all.layout.items ≡ map placed_item (program_items program)
