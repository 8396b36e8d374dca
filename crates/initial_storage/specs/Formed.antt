-- Items with the form of their kind.
use Rattle.std.specs.Prelude.{Option, Some, None}
use Rattle.picture.specs.declared.picture.Picture.{Picture}
use Rattle.items.specs.declared.item.Item.{Item}
use Rattle.items.specs.Items.{IsItem}
use Rattle.source_tree.specs.declared.entry.Around.{Around}
use Rattle.edited_move.specs.Moves.{IsPlainKind, IsEditedBy}
use Rattle.source_tree.specs.declared.select.FileDescription.{FileDescription}
use Rattle.source_tree.specs.Clauses.{nothing_around, inside, editing_of}
use Rattle.source_tree.specs.Levels.{Forest, End, Tree, forest_of}
use Rattle.source_tree.specs.Places.{LocatedItem}
use Rattle.source_tree.specs.Rooms.{item_with}

-- An edited item has the picture of its category and length, and no other has one.
abbrev pub IsEditing : Item → Option Picture → Type 0
IsEditing item None = IsPlainKind item.kind
IsEditing item (Some picture) = IsEditedBy item picture

-- A placed item has the form of its kind and, if it is edited, the picture that edits it.
pub record IsFormed (one : LocatedItem) : Type 0 where
  pub form : IsItem one.item
  pub editing : IsEditing one.item one.editing

abbrev pub HasForm : Item → Option Picture → Type 0
HasForm item editing = IsItem item × IsEditing item editing

-- The same of each entry, and of those in it.
abbrev pub AreFormed : Around → Forest → Type 0
AreFormed around End = Unit {0}
AreFormed around (Tree one conditions inner next) =
    HasForm (item_with around one inner) (editing_of around one) × AreFormed (inside around one) inner × AreFormed around next

-- the same of the records of a file
abbrev pub FormsFile : FileDescription → Type 0
FormsFile one = AreFormed nothing_around (forest_of one.entries)
