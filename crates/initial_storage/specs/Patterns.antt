-- What INITIALIZE puts into an item, as lists of bytes; and an entry as far as its pattern asks.
use Rattle.std.specs.Prelude.{◌≡◌, ℕ, List, [], ◌∷◌, ◌++◌, map, Option, Some, None, slice_get}
use Rattle.picture.specs.declared.picture.Picture.{Picture}
use Rattle.items.specs.declared.item.Item.{Item}
use Rattle.source_tree.specs.declared.entry.Around.{Around}
use Rattle.source_tree.specs.declared.entry.Entry.{Entry}
use Rattle.source_tree.specs.declared.entry.ItemEntry.{ItemEntry}
use Rattle.source_tree.specs.declared.select.FileDescription.{FileDescription}
use Rattle.source_tree.specs.Levels.{Forest, End, Tree, forest_of}
use Rattle.source_tree.specs.Clauses.{nothing_around, inside, editing_of}
use Rattle.source_tree.specs.Rooms.{item_with}
use Rattle.source_tree.specs.Places.{LocatedItem, items_of}
use Rattle.source_tree.specs.Records.{storage_areas, file_places}
use Rattle.source_tree.specs.Initializing.{Pattern, by_kind, entries_pattern, initial_pattern, named_pattern}
use Rattle.initial_storage.specs.Fits.{Fits, FitsEntry}
use Rattle.initial_storage.specs.Formed.{HasForm, AreFormed}
use Rattle.initial_storage.specs.declared.outlines.Found.{Found}

-- 0 where a byte stays
abbrev pub byte_of : Option ℕ → ℕ
byte_of None = 0
byte_of (Some byte) = byte

-- 1 where a byte is new
abbrev pub mark_of : Option ℕ → ℕ
mark_of None = 0
mark_of (Some byte) = 1

abbrev pub bytes_of_pattern : Pattern → List ℕ
bytes_of_pattern pattern = map byte_of pattern

abbrev pub marks_of_pattern : Pattern → List ℕ
marks_of_pattern pattern = map mark_of pattern

-- what INITIALIZE puts into an item, if there is one
abbrev pub pattern_at : Option LocatedItem → Pattern
pattern_at None = []
pattern_at (Some one) = named_pattern one

-- An item where it stands, without its place.
pub record Outline : Type 0 where
  pub item : Item
  pub editing : Option Picture
  pub inside : Around
  pub entries : Forest

abbrev pub outline_of : LocatedItem → Outline
outline_of one = record { item = one.item; editing = one.editing; inside = one.inside; entries = one.entries }

abbrev pub outline : Around → ItemEntry → Forest → Outline
outline around one inner =
    record { item = item_with around one inner; editing = editing_of around one; inside = inside around one; entries = inner }

-- All items of entries, in order.
abbrev pub outlines : Around → Forest → List Outline
outlines around End = []
outlines around (Tree one conditions inner next) = outline around one inner ∷ (outlines (inside around one) inner ++ outlines around next)

-- those of the records of files
abbrev pub file_outlines : List FileDescription → List Outline
file_outlines [] = []
file_outlines (one ∷ more) = outlines nothing_around (forest_of one.entries) ++ file_outlines more

-- All items of a program with this working storage and these files, where they stand, and without their places.
abbrev pub items_with : List Entry → List FileDescription → List LocatedItem
items_with storage files = items_of storage ++ file_places (storage_areas storage) files

abbrev pub outlines_with : List Entry → List FileDescription → List Outline
outlines_with storage files = outlines nothing_around (forest_of storage) ++ file_outlines files

-- what INITIALIZE puts into it
abbrev pub outline_pattern : Outline → Pattern
outline_pattern one = by_kind one.item.kind (entries_pattern one.inside one.entries) (initial_pattern one.editing one.item)

-- It is as long as items may be, and so are those in it, and they have the form of their kinds.
pub record IsWellFormedEntry (around : Around) (one : ItemEntry) (inner : Forest) : Type 0 where
  pub fits : FitsEntry around one inner
  pub within : Fits (inside around one) inner
  pub form : HasForm (item_with around one inner) (editing_of around one)
  pub formed : AreFormed (inside around one) inner

-- The item of this number, or there is none.
abbrev pub IsFoundAt : List Outline → ℕ → Option Found → Type 0
IsFoundAt all number None = slice_get all number ≡ None
IsFoundAt all number (Some found) =
    (slice_get all number ≡ Some (outline found.around found.one.entry.now (forest_of found.one.inner.now)))
    × IsWellFormedEntry found.around found.one.entry.now (forest_of found.one.inner.now)
