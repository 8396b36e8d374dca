-- File description entries with their records, and the file section (COBOL-85, Sequential I-O, "File description entry"): which
-- tokens spell them, and how they are read.
use Rattle.std.specs.Prelude.{Bool, List, [], ◌∷◌}
use Rattle.tokens.specs.declared.reserved.Reserved.TheVariants as w
use Rattle.tokens.specs.declared.token.Token.{Token}
use Rattle.source_tree.specs.declared.select.FileDescription.{FileDescription}
use Rattle.grammar.specs.Parts.{Part, ◌then◌, some_of, several, lookahead, word, period, heading, name}
use Rattle.grammar.specs.Reading as r
use Rattle.grammar.specs.Reading.{Parser, ◌>>=◌, ◌>>◌, pure, begins_word, expect}
use Rattle.expressions.specs.Subscripts.{begins_integer}
use Rattle.grammar.specs.Gathering.{clauses_from, gathering_reader}
use Rattle.grammar.specs.Listed.{listed_from, list_from}
use Rattle.data_division.specs.FileClauses.{file_clauses, no_file_clauses, file_clause_reader}
use Rattle.data_division.specs.Entries.{entry}
use Rattle.data_division.specs.EntryReading.{entry_reader}

-- FD f clauses . entry...: the clauses stand in any order, each at most once, and leave nothing.
abbrev pub file : FileDescription → Part
file one = word w.Fd then name one.name then some_of (clauses_from file_clauses no_file_clauses) then period then several entry (lookahead begins_integer) one.entries

abbrev pub begins_file : List Token → Bool
begins_file = begins_word w.Fd

-- FILE SECTION . {fd entry...}...
abbrev pub described_files : List FileDescription → Part
described_files files = heading (w.File ∷ w.Section ∷ []) then several file (lookahead begins_file) files

-- [FILE SECTION . {fd entry...}...]: it is left out only where FILE does not stand.
abbrev pub file_section : List FileDescription → Part
file_section = listed_from w.File described_files

-- ---- reading

unfoldable pub file_reader : Parser FileDescription
file_reader = do
  expect w.Fd
  given ← r.name
  clauses ← gathering_reader file_clauses file_clause_reader no_file_clauses
  r.period
  records ← r.several entry_reader begins_integer
  pure (record { name = given; entries = records })

unfoldable pub described_reader : Parser (List FileDescription)
described_reader = do
  r.heading_reader (w.File ∷ w.Section ∷ [])
  r.several file_reader begins_file

unfoldable pub file_section_reader : Parser (List FileDescription)
file_section_reader = list_from w.File described_reader
