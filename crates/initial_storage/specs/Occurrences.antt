-- What the occurrences of an entry hold at the start, be it that it redefines another or not.
use Rattle.std.specs.Prelude.{◌≡◌, ℕ, true, List, Option, Some, None}
use Rattle.std.specs.List.{repeat}
use Rattle.source_tree.specs.declared.entry.Around.{Around}
use Rattle.source_tree.specs.declared.entry.ItemEntry.{ItemEntry}
use Rattle.source_tree.specs.declared.entry.Entry.{Entry}
use Rattle.source_tree.specs.Levels.{Forest, End, forest_of}
use Rattle.source_tree.specs.Clauses.{inside, occurrences}
use Rattle.source_tree.specs.Rooms.{redefines, leading_redefinitions, item_with}
use Rattle.source_tree.specs.Starts.{start, initial_bytes}
use Rattle.data_entries.specs.declared.levels.Sibling.{Sibling}
use Rattle.data_entries.specs.Nesting.{IsNextItem}

abbrev pub occurrence : Around → ItemEntry → Forest → List ℕ
occurrence around one inner = initial_bytes (item_with around one inner) one.value (start (inside around one) inner)

abbrev pub all_occurrences : Around → ItemEntry → Forest → List ℕ
all_occurrences around one inner = repeat (occurrences one) (occurrence around one inner)

-- The first item of a list of entries, where it redefines.
abbrev pub IsNextRedefinition : List Entry → Option Sibling → Type 0
IsNextRedefinition entries None = leading_redefinitions (forest_of entries) ≡ End
IsNextRedefinition entries (Some one) = IsNextItem entries (Some one) × (redefines one.entry.now ≡ true)
