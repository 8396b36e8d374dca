-- The data of programs, with the names and places of their items.
use Rattle.std.specs.Prelude.{◌≡◌, List, map}
use Rattle.source_tree.specs.declared.program.Program.{Program}
use Rattle.source_tree.specs.Places.{LocatedItem}
use Rattle.source_tree.specs.Records.{program_items}
use Rattle.layout.specs.Placing.{placed_item}
use Rattle.name_table.specs.Items.{called_item}
use Rattle.name_table.specs.Table.{IsTable, calls_in}
use Rattle.file_descriptions.specs.declared.source.Source.{Source}
use Rattle.file_descriptions.specs.Descriptions.{data_with}

-- a program with this data
abbrev pub data_in : Source → Program
data_in source = data_with source.storage.now source.files.now

abbrev pub items_in : Source → List LocatedItem
items_in source = program_items (data_in source)

-- The names and the places are those of its items.
pub record IsSource (source : Source) : Type 0 where
  pub table : IsTable source.names.now
  pub calls : calls_in source.names.now ≡ map called_item (items_in source)
  pub items : source.layout.now.items ≡ map placed_item (items_in source)
