-- The records of files (COBOL-85, Sequential I-O, "File description entry", "Record description entry"): those of one FD share one
-- area. The record areas follow the areas of working storage, in the order of the FDs (own choice).
use Rattle.std.specs.Prelude.{ℕ, ◌+◌, map, List, [], ◌∷◌, ◌++◌, length}
use Rattle.items.specs.Texts.{padded_text}
use Rattle.source_tree.specs.declared.name.Name.{Name}
use Rattle.source_tree.specs.declared.entry.Entry.{Entry}
use Rattle.source_tree.specs.declared.select.FileDescription.{FileDescription}
use Rattle.source_tree.specs.declared.program.Program.{Program}
use Rattle.source_tree.specs.Levels.{Forest, End, Tree, forest_of}
use Rattle.source_tree.specs.Clauses.{nothing_around}
use Rattle.source_tree.specs.Rooms.{longest, area_lengths}
use Rattle.source_tree.specs.Places.{LocatedItem, top, places, items_of}
use Rattle.source_tree.specs.Starts.{areas_at_start}

-- how many areas working storage has
abbrev pub storage_areas : List Entry → ℕ
storage_areas entries = length (area_lengths (forest_of entries))

-- the bytes of the longest record
abbrev pub record_length : List Entry → ℕ
record_length entries = longest nothing_around (forest_of entries)

-- The items of a file's records: each record begins the area, and the file's name qualifies what is in it.
abbrev pub record_places : ℕ → Name → Forest → List LocatedItem
record_places area file End = []
record_places area file (Tree one conditions inner next) =
    places (top area (file ∷ [])) 0 0 (Tree one conditions inner End) ++ record_places area file next

-- those of files of which the first has this area
abbrev pub file_places : ℕ → List FileDescription → List LocatedItem
file_places area [] = []
file_places area (one ∷ more) = record_places area one.name (forest_of one.entries) ++ file_places (area + 1) more

-- All items of a program: those of working storage, and then those of records.
abbrev pub program_items : Program → List LocatedItem
program_items program = items_of program.storage ++ file_places (storage_areas program.storage) program.files

-- A record area holds spaces at the start (own choice).
abbrev pub spaces_for : FileDescription → List ℕ
spaces_for one = padded_text (record_length one.entries) []

abbrev pub record_areas : List FileDescription → List (List ℕ)
record_areas files = map spaces_for files

-- what all areas hold at the start of a run
abbrev pub program_areas : Program → List (List ℕ)
program_areas program = areas_at_start program.storage ++ record_areas program.files
