-- The items of entries, with their names and those around them.
use Rattle.std.specs.Prelude.{List, [], ◌∷◌, ◌++◌}
use Rattle.source_tree.specs.declared.name.Name.{Name}
use Rattle.source_tree.specs.declared.entry.ItemEntry.{ItemEntry}
use Rattle.source_tree.specs.declared.reference.QualifiedName.{QualifiedName}
use Rattle.source_tree.specs.declared.select.FileDescription.{FileDescription}
use Rattle.source_tree.specs.LookUp as tree
use Rattle.source_tree.specs.Levels.{Forest, End, Tree, forest_of}
use Rattle.source_tree.specs.Names.{with_name}
use Rattle.source_tree.specs.Places.{LocatedItem}
use Rattle.name_table.specs.declared.look_up.LookUp.{LookUp}
use Rattle.name_table.specs.Positions.{NamePath, IsLookUpOf}

abbrev pub called_item : LocatedItem → NamePath
called_item one = record { name = one.entry.name; around = one.groups }

-- The items of a tree of entries in groups of these names, in order.
abbrev pub item_calls : List Name → Forest → List NamePath
item_calls groups End = []
item_calls groups (Tree one conditions inner next) =
    record { name = one.name; around = groups } ∷ (item_calls (with_name one.name groups) inner ++ item_calls groups next)

abbrev pub entry_calls : List Name → ItemEntry → Forest → List NamePath
entry_calls groups one inner = record { name = one.name; around = groups } ∷ item_calls (with_name one.name groups) inner

-- The items of records, each in a group of its file's name.
abbrev pub record_calls : List FileDescription → List NamePath
record_calls [] = []
record_calls (one ∷ more) = item_calls (one.name ∷ []) (forest_of one.entries) ++ record_calls more

-- What was found is what the name names: nothing, the item of that number alone, or several items.
abbrev pub IsNamed : List LocatedItem → QualifiedName → LookUp → Type 0
IsNamed items reference = IsLookUpOf items (tree.items_named items reference)
