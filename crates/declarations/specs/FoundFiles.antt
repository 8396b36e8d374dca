-- Files, and items with their numbers, that are found.
use Rattle.std.specs.Prelude.{◌≡◌, ℕ, List, [], ◌∷◌, slice_get, Some, Result, Ok, Err}
use Rattle.std.specs.Borrow.{Bor}
use Rattle.lexical.specs.declared.place.Place.{Place}
use Rattle.source_tree.specs.Places.{LocatedItem}
use Rattle.source_tree.specs.ProgramFiles as tree
use Rattle.entry_rules.specs.declared.rule.BrokenRule.{BrokenRule}
use Rattle.file_descriptions.specs.declared.file.ProgramFile.{ProgramFile}
use Rattle.file_descriptions.specs.Files.{file_in}
use Rattle.layout.specs.declared.placed.PlacedItem.{PlacedItem}
use Rattle.layout.specs.Placing.{placed_item}
use Rattle.name_table.specs.Items.{called_item}
use Rattle.name_table.specs.Positions.{NamePath}
use Rattle.declarations.specs.Found.{IsUnnamed}

-- The only file; or what is broken where there is none, or there are several.
abbrev pub IsFileFound : List LocatedItem → Place → Result (Bor ProgramFile) BrokenRule → List tree.ProgramFile → Type 0
IsFileFound items place (Ok file) found = found ≡ file_in items file.now ∷ []
IsFileFound items place (Err broken) found = IsUnnamed place broken found

-- The only item, with its number among all items and among what these are called: where it stands, and what it is called.
abbrev pub IsNumberedItem : List LocatedItem → List NamePath → Place → Result (ℕ × Bor PlacedItem) BrokenRule → List LocatedItem → Type 0
IsNumberedItem items calls place (Ok item) found =
    (one : LocatedItem) × (found ≡ one ∷ []) × (item.1.now ≡ placed_item one) × (slice_get calls item.0 ≡ Some (called_item one)) × (slice_get items item.0 ≡ Some one)
IsNumberedItem items calls place (Err broken) found = IsUnnamed place broken found
