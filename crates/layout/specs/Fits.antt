-- Entries whose levels, occurrences and lengths keep within the limits.
use Rattle.std.specs.Prelude.{ℕ, ◌≤◌, ◌<◌, List, [], ◌∷◌, length}
use Rattle.source_tree.specs.declared.entry.Around.{Around}
use Rattle.source_tree.specs.declared.entry.ItemEntry.{ItemEntry}
use Rattle.source_tree.specs.declared.select.FileDescription.{FileDescription}
use Rattle.source_tree.specs.Levels.{Forest, End, Tree, level_of, forest_of}
use Rattle.source_tree.specs.Clauses.{nothing_around, inside, occurrences}
use Rattle.source_tree.specs.Rooms.{room, item_with}
use Rattle.source_tree.specs.ClauseRules.{most_item_bytes, most_occurrences}
use Rattle.source_tree.specs.EntryRules.{most_entries}

pub record FitsEntry (around : Around) (one : ItemEntry) (inner : Forest) : Type 0 where
  pub level : level_of one < 100000
  pub times : occurrences one ≤ most_occurrences
  pub bytes : (item_with around one inner).length ≤ most_item_bytes
  pub within : room (inside around one) inner ≤ most_item_bytes

abbrev pub Fits : Around → Forest → Type 0
Fits around End = Unit {0}
Fits around (Tree one conditions inner next) = FitsEntry around one inner × Fits (inside around one) inner × Fits around next

pub record FitsFile (one : FileDescription) : Type 0 where
  pub entries : Fits nothing_around (forest_of one.entries)
  pub most : length one.entries ≤ most_entries

abbrev pub FitFiles : List FileDescription → Type 0
FitFiles [] = Unit {0}
FitFiles (one ∷ more) = FitsFile one × FitFiles more

-- no offset is greater
abbrev pub most_offset : ℕ
most_offset = 327680000
