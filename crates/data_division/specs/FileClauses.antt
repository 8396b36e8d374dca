-- The clauses of an FD, which have no effect (COBOL-85, Sequential I-O, "File description entry"): which tokens spell them, and how
-- they are read.
use Rattle.std.specs.Prelude.{Bool, false, true, List, [], ◌∷◌, Option, None, Some}
use Rattle.tokens.specs.declared.reserved.Reserved.{Reserved}
use Rattle.tokens.specs.declared.reserved.Reserved.TheVariants as w
use Rattle.tokens.specs.declared.token.Kind.{Kind}
use Rattle.tokens.specs.declared.token.Kind.TheVariants as k
use Rattle.tokens.specs.declared.token.Token.{Token}
use Rattle.grammar.specs.Parts.{Part, ◌then◌, optional, some_of, several, lookahead, word, name, begins_name}
use Rattle.grammar.specs.Reading as r
use Rattle.grammar.specs.Reading.{Parser, ◌>>=◌, ◌>>◌, pure, expect, skip}
use Rattle.expressions.specs.Subscripts.{integer, integer_reader}
use Rattle.data_division.specs.declared.file_clauses.FileClause.{FileClause}
use Rattle.data_division.specs.declared.file_clauses.FileClause.TheVariants as clause_as
use Rattle.data_division.specs.declared.file_clauses.FileClauses.{FileClauses}
use Rattle.grammar.specs.Listed.{◌unless_no◌, unless_none}
use Rattle.data_division.specs.Clauses.{either}
use Rattle.data_division.specs.ClauseReading.{either_reader, skip_either}
use Rattle.grammar.specs.Gathering.{Clauses}

-- ---- the rules

-- LABEL {RECORD|RECORDS} [IS|ARE] {STANDARD|OMITTED}
abbrev pub label_records : Part
label_records = word w.Label then either w.Record w.Records then optional (either w.Is w.Are) then either w.Standard w.Omitted

-- TO int
abbrev pub to_size : Part
to_size = word w.To then some_of integer

-- BLOCK [CONTAINS] int [TO int] [RECORDS|CHARACTERS]
abbrev pub block_contains : Part
block_contains =
    word w.Block then optional (word w.Contains) then some_of integer then (to_size unless_no w.To) then optional (either w.Records w.Characters)

-- RECORD [CONTAINS] int [CHARACTERS]
abbrev pub record_contains : Part
record_contains = word w.Record then optional (word w.Contains) then some_of integer then optional (word w.Characters)

-- DATA {RECORD|RECORDS} [IS|ARE] n...
abbrev pub data_records : Part
data_records = word w.Data then either w.Record w.Records then optional (either w.Is w.Are) then some_of (several name (lookahead begins_name))

abbrev pub file_clause : FileClause → Part
file_clause clause_as.LabelRecords = label_records
file_clause clause_as.BlockContains = block_contains
file_clause clause_as.RecordContains = record_contains
file_clause clause_as.DataRecords = data_records

-- the clause that a word begins
abbrev pub file_clause_of : Reserved → Option FileClause
file_clause_of w.Label = Some clause_as.LabelRecords
file_clause_of w.Block = Some clause_as.BlockContains
file_clause_of w.Record = Some clause_as.RecordContains
file_clause_of w.Data = Some clause_as.DataRecords
file_clause_of _ = None

abbrev pub file_clause_in : Kind → Option FileClause
file_clause_in (k.Reserved one) = file_clause_of one
file_clause_in _ = None

-- the clause that begins with the first token
abbrev pub file_clause_at : List Token → Option FileClause
file_clause_at [] = None
file_clause_at (first ∷ more) = file_clause_in first.kind

-- ---- reading

unfoldable pub label_records_reader : Parser FileClause
label_records_reader = do
  expect w.Label
  either_reader w.Record w.Records
  skip_either w.Is w.Are
  either_reader w.Standard w.Omitted
  pure clause_as.LabelRecords

unfoldable pub to_size_reader : Parser (Unit {0})
to_size_reader = do
  expect w.To
  size ← integer_reader
  pure tt

abbrev pub unless_to_size : Parser (Unit {0})
unless_to_size = unless_none w.To to_size_reader

unfoldable pub block_contains_reader : Parser FileClause
block_contains_reader = do
  expect w.Block
  skip w.Contains
  size ← integer_reader
  unless_to_size
  skip_either w.Records w.Characters
  pure clause_as.BlockContains

unfoldable pub record_contains_reader : Parser FileClause
record_contains_reader = do
  expect w.Record
  skip w.Contains
  size ← integer_reader
  skip w.Characters
  pure clause_as.RecordContains

unfoldable pub data_records_reader : Parser FileClause
data_records_reader = do
  expect w.Data
  either_reader w.Record w.Records
  skip_either w.Is w.Are
  names ← r.several r.name begins_name
  pure clause_as.DataRecords

-- the clause that its first word begins
unfoldable pub file_clause_reader : FileClause → Parser FileClause
file_clause_reader clause_as.LabelRecords = label_records_reader
file_clause_reader clause_as.BlockContains = block_contains_reader
file_clause_reader clause_as.RecordContains = record_contains_reader
file_clause_reader clause_as.DataRecords = data_records_reader

-- ---- in any order, each at most once

abbrev pub no_file_clauses : FileClauses
no_file_clauses = record { label_records = false; block_contains = false; record_contains = false; data_records = false }

abbrev pub has_file_clause : FileClauses → FileClause → Bool
has_file_clause all clause_as.LabelRecords = all.label_records
has_file_clause all clause_as.BlockContains = all.block_contains
has_file_clause all clause_as.RecordContains = all.record_contains
has_file_clause all clause_as.DataRecords = all.data_records

abbrev pub with_clause : FileClauses → FileClause → FileClauses
with_clause all clause_as.LabelRecords = record all { label_records = true }
with_clause all clause_as.BlockContains = record all { block_contains = true }
with_clause all clause_as.RecordContains = record all { record_contains = true }
with_clause all clause_as.DataRecords = record all { data_records = true }

-- the clauses of an FD: they leave nothing, so each is its own kind
abbrev pub file_clauses : Clauses FileClause FileClause FileClauses
file_clauses = record {
  clause = file_clause;
  kind_of = λ one. one;
  at = file_clause_at;
  has = has_file_clause;
  with_clause = with_clause;
}
