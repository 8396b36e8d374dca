-- The data division: which tokens spell which files and entries, and how they are read (COBOL-85, Nucleus, "Data division").
use Rattle.std.specs.Prelude.{◌≡◌, if◌then◌else◌, List, [], ◌∷◌, Ok}
use Rattle.tokens.specs.declared.reserved.Reserved.TheVariants as w
use Rattle.source_tree.specs.declared.entry.Entry.{Entry}
use Rattle.grammar.specs.Parts.{Part, ◌then◌, ◌or◌, absence_of, any, lookahead, word, heading}
use Rattle.grammar.specs.Reading as r
use Rattle.grammar.specs.Reading.{Parser, ◌>>=◌, ◌>>◌, pure, begins_word}
use Rattle.expressions.specs.Subscripts.{begins_integer}
use Rattle.data_division.specs.declared.division.DataDivision.{DataDivision}
use Rattle.grammar.specs.Listed.{listed_from, list_from}
use Rattle.data_division.specs.Entries.{entry}
use Rattle.data_division.specs.EntryReading.{entry_reader}
use Rattle.data_division.specs.Files.{file_section, file_section_reader}

-- WORKING-STORAGE SECTION . [entry...]
abbrev pub working_storage_section : List Entry → Part
working_storage_section all = heading (w.WorkingStorage ∷ w.Section ∷ []) then any entry (lookahead begins_integer) all

-- [WORKING-STORAGE SECTION . [entry...]]: it is left out only where WORKING-STORAGE does not stand.
abbrev pub working_storage : List Entry → Part
working_storage = listed_from w.WorkingStorage working_storage_section

-- DATA DIVISION . with its sections
abbrev pub sections : DataDivision → Part
sections one = heading (w.Data ∷ w.Division ∷ []) then file_section one.files then working_storage one.storage

-- [DATA DIVISION . ..]: it is left out only where DATA does not stand.
abbrev pub data_division : DataDivision → Part
data_division one = sections one or (λ from rest. (one.files ≡ []) × (one.storage ≡ []) × absence_of (word w.Data) from rest)

-- ---- reading

unfoldable pub stored_reader : Parser (List Entry)
stored_reader = do
  r.heading_reader (w.WorkingStorage ∷ w.Section ∷ [])
  r.any entry_reader begins_integer

unfoldable pub working_storage_reader : Parser (List Entry)
working_storage_reader = list_from w.WorkingStorage stored_reader

unfoldable pub sections_reader : Parser DataDivision
sections_reader = do
  r.heading_reader (w.Data ∷ w.Division ∷ [])
  files ← file_section_reader
  storage ← working_storage_reader
  pure (record { files = files; storage = storage })

unfoldable pub data_division_reader : Parser DataDivision
data_division_reader i = if begins_word w.Data i then sections_reader i else Ok (record { files = []; storage = [] }, i)
