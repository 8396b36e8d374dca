-- Programs with relative and indexed files, the statuses that they receive, and the rows that they read.
use Prim.Native.String.{String}
use Rattle.std.proofs.Common.{◌≡◌, ℕ, true, false, List, [], ◌∷◌, ◌++◌, None, Some, refl}
use Rattle.std.specs.Prelude.{codes, map, length}
use Rattle.station.specs.State.{Event}
use Rattle.records.specs.declared.file_spec.KeyPlace.{KeyPlace}
use Rattle.records.specs.declared.file_spec.AlternateKey.{AlternateKey}
use Rattle.records.specs.declared.file_spec.Organization.{Organization}
use Rattle.records.specs.declared.file_spec.Organization.TheVariants.{Relative, Indexed}
use Rattle.records.specs.declared.select.Access.{Access}
use Rattle.records.specs.declared.select.Access.TheVariants.{Sequential, Random, Dynamic}
use Rattle.records.specs.declared.verb.OpenMode.TheVariants.{Input, Output, InputOutput}
use Rattle.records.specs.Rows.{Row}
use Rattle.records.specs.Files.{Files, NamedFile}
use Rattle.source_tree.specs.declared.condition.Relation.TheVariants.{Equal, Greater, GreaterOrEqual}
use Rattle.source_tree.specs.declared.entry.Entry.{Entry}
use Rattle.source_tree.specs.declared.select.Select.{Select}
use Rattle.source_tree.specs.declared.select.AlternateKeyClause.{AlternateKeyClause}
use Rattle.source_tree.specs.declared.statement.Verb.{Verb}
use Rattle.source_tree.specs.declared.statement.Statement.{Statement, out-Statement, roll-Statement}
use Rattle.source_tree.specs.declared.program.Program.{Program}
use Rattle.source_tree.specs.Meaning.{Run, meaning}
use Rattle.source_tree.proofs.Samples.{item, group, entries}
use Rattle.source_tree.proofs.FileSamples.{select, optional, with_status, relative, indexed, alternate, described}
use Rattle.source_tree.proofs.FileSamples.{opening, close, read, read_next, read_by, reading, write, rewrite, delete}
use Rattle.source_tree.proofs.FileSamples.{start, start_at, put, show, invalid_key, lines_from, program, over, statuses}
use Rattle.source_tree.proofs.FileSamples.{shown, all_codes}
unfoldable use Rattle.source_tree.proofs.Computing.{computing}

abbrev of_file : Select → List Entry → List Entry → List (Verb Statement) → Program
of_file file records storage statements = program (with_status "S" file ∷ []) (described "F" records ∷ [])
    (entries (item (codes "77") (codes "S") (codes "XX") ∷ []) ++ storage) (lines_from 9 statements)

-- FD F. 01 R. 05 K PIC X. 05 V PIC X.
abbrev key_and_value : List Entry
key_and_value = entries (group (codes "01") (codes "R") ∷ item (codes "05") (codes "K") (codes "X")
    ∷ item (codes "05") (codes "V") (codes "X") ∷ [])

abbrev runs : Access → List AlternateKeyClause → List (Verb Statement) → Run
runs access alternates statements =
    meaning (of_file (indexed access "K" alternates (select "F")) key_and_value [] statements) (over [])

abbrev told : Access → List AlternateKeyClause → List (Verb Statement) → List (List ℕ)
told access alternates statements = statuses (runs access alternates statements).events

abbrev rows_of : List NamedFile → List (List ℕ)
rows_of [] = []
rows_of (one ∷ more) = map (λ (row : Row). row.bytes) one.file.rows

abbrev last_files : List Files → Files
last_files [] = []
last_files (one ∷ []) = one
last_files (one ∷ other ∷ more) = last_files (other ∷ more)

-- a file of records of so many bytes as the first of these rows has
abbrev length_of : List Row → ℕ
length_of [] = 1
length_of (row ∷ more) = length row.bytes

abbrev file_of : Organization → List AlternateKey → List Row → Files
file_of organization alternates rows = record {
  name = codes "F";
  file = record {
    spec = record { organization = organization; record_length = length_of rows; alternates = alternates };
    rows = rows;
    next_arrival = 9;
  };
} ∷ []

abbrev place : ℕ → ℕ → KeyPlace
place offset length = record { offset = offset; length = length }

-- the statuses that were received, and what was shown
abbrev both : List Event → List (List ℕ) × List ℕ
both events = (statuses events, shown events)

abbrev tells : List String → String → List (List ℕ) × List ℕ
tells received text = (all_codes received, codes text)

-- ---- sequential access: keys in WRITE ascend

abbrev in_sequence : List (Verb Statement)
in_sequence = opening Output "F" ∷ put "2a" "R" ∷ write "R" ∷ put "1b" "R" ∷ write "R" ∷ put "2c" "R" ∷ write "R" ∷ []

out_of_sequence : told Sequential [] in_sequence ≡ all_codes ("00" ∷ "00" ∷ "21" ∷ "21" ∷ [])
unfolding computing out-Statement roll-Statement denote.Hole.Carrier.out denote.Hole.Carrier.roll
out_of_sequence = refl

one_row : rows_of (last_files (runs Sequential [] in_sequence).files) ≡ all_codes ("2a" ∷ [])
unfolding computing out-Statement roll-Statement denote.Hole.Carrier.out denote.Hole.Carrier.roll
one_row = refl

-- ---- random access: an alternate key without DUPLICATES

abbrev repeated : List (Verb Statement)
repeated = opening Output "F" ∷ put "1X" "R" ∷ write "R" ∷ put "2X" "R" ∷ write "R" ∷ []

repeated_value : told Random (alternate "V" false ∷ []) repeated ≡ all_codes ("00" ∷ "00" ∷ "22" ∷ [])
unfolding computing out-Statement roll-Statement denote.Hole.Carrier.out denote.Hole.Carrier.roll
repeated_value = refl

unchanged : rows_of (last_files (runs Random (alternate "V" false ∷ []) repeated).files) ≡ all_codes ("1X" ∷ [])
unfolding computing out-Statement roll-Statement denote.Hole.Carrier.out denote.Hole.Carrier.roll
unchanged = refl

-- ---- dynamic access: an alternate key with DUPLICATES, in the order in which rows came to their values

abbrev three_rows : List (Verb Statement)
three_rows =
    opening Output "F" ∷ put "1X" "R" ∷ write "R" ∷ put "2X" "R" ∷ write "R" ∷ put "3X" "R" ∷ write "R" ∷ close "F" ∷ []

abbrev back_and_forth : List (Verb Statement)
back_and_forth =
    opening InputOutput "F" ∷ put "1Y" "R" ∷ rewrite "R" ∷ put "1X" "R" ∷ rewrite "R" ∷ start_at Equal "V" "F"
    ∷ read_next "F" ∷ show "R" ∷ read_next "F" ∷ show "R" ∷ read_next "F" ∷ show "R" ∷ read_next "F" ∷ read_next "F"
    ∷ []

duplicates : told Dynamic (alternate "V" true ∷ []) (three_rows ++ back_and_forth)
    ≡ all_codes ("00" ∷ "00" ∷ "02" ∷ "02" ∷ "00" ∷ "00" ∷ "00" ∷ "02" ∷ "00" ∷ "02" ∷ "02" ∷ "00" ∷ "10" ∷ "46" ∷ [])
unfolding computing out-Statement roll-Statement denote.Hole.Carrier.out denote.Hole.Carrier.roll
duplicates = refl

by_arrival : shown (runs Dynamic (alternate "V" true ∷ []) (three_rows ++ back_and_forth)).events ≡ codes "2X3X1X"
unfolding computing out-Statement roll-Statement denote.Hole.Carrier.out denote.Hole.Carrier.roll
by_arrival = refl

-- ---- READ by key, and the phrases of INVALID KEY

abbrev one : ℕ → Verb Statement → Statement
one line verb = roll-Statement (record { place = record { line = line; column = 20 }; verb = verb })

abbrev some_phrases : Verb Statement
some_phrases = reading false None (invalid_key (one 40 (show "S") ∷ []) (one 41 (show "V") ∷ [])) "F"

-- The prime key, and the alternate one: the first row of the value, of which there are more. 23 leaves the record area
-- as it is.
abbrev by_keys : Run
by_keys = meaning (of_file (indexed Dynamic "K" (alternate "V" true ∷ []) (select "F")) key_and_value []
    (opening Input "F" ∷ put "2 " "R" ∷ read "F" ∷ show "R" ∷ put "9X" "R" ∷ read_by "V" "F" ∷ show "R" ∷ put "9" "K"
    ∷ some_phrases ∷ show "R" ∷ put "3" "K" ∷ some_phrases ∷ []))
    (over (file_of (Indexed (place 0 1)) (record { place = place 1 1; duplicates = true } ∷ [])
    (record { number = 0; bytes = codes "1X"; arrivals = 1 ∷ [] }
    ∷ record { number = 0; bytes = codes "2X"; arrivals = 2 ∷ [] }
    ∷ record { number = 0; bytes = codes "3X"; arrivals = 3 ∷ [] } ∷ [])))

by_key : statuses by_keys.events ≡ all_codes ("00" ∷ "00" ∷ "02" ∷ "23" ∷ "00" ∷ [])
unfolding computing out-Statement roll-Statement denote.Hole.Carrier.out denote.Hole.Carrier.roll
    Rattle.source_tree.specs.declared.statement.Statement.TheBlock.shown-the_row-Statement-0 denote.Hole.Carrier.shown
    denote.Hole.Carrier.hidden
by_key = refl

by_key_shown : shown by_keys.events ≡ codes "2X1X239XX"
unfolding computing out-Statement roll-Statement denote.Hole.Carrier.out denote.Hole.Carrier.roll
    Rattle.source_tree.specs.declared.statement.Statement.TheBlock.shown-the_row-Statement-0 denote.Hole.Carrier.shown
    denote.Hole.Carrier.hidden
by_key_shown = refl

-- ---- a group key of two items: rows A1, A2, B1

abbrev group_key : List Entry
group_key = entries (group (codes "01") (codes "R") ∷ group (codes "05") (codes "K")
    ∷ item (codes "10") (codes "K1") (codes "X") ∷ item (codes "10") (codes "K2") (codes "X") ∷ [])

abbrev keyed : String → Row
keyed bytes = record { number = 0; bytes = codes bytes; arrivals = [] }

abbrev of_group : List (Verb Statement) → List (List ℕ) × List ℕ
of_group statements =
    both (meaning (of_file (indexed Dynamic "K" [] (select "F")) group_key [] (opening InputOutput "F" ∷ statements))
    (over (file_of (Indexed (place 0 2)) [] (keyed "A1" ∷ keyed "A2" ∷ keyed "B1" ∷ [])))).events

start_equal : of_group (put "B " "K" ∷ start_at Equal "K1" "F" ∷ read_next "F" ∷ show "K" ∷ [])
    ≡ tells ("00" ∷ "00" ∷ "00" ∷ []) "B1"
unfolding computing out-Statement roll-Statement denote.Hole.Carrier.out denote.Hole.Carrier.roll
start_equal = refl

start_greater : of_group (put "A " "K" ∷ start_at Greater "K1" "F" ∷ read_next "F" ∷ show "K" ∷ [])
    ≡ tells ("00" ∷ "00" ∷ "00" ∷ []) "B1"
unfolding computing out-Statement roll-Statement denote.Hole.Carrier.out denote.Hole.Carrier.roll
start_greater = refl

start_not_less : of_group (put "A2" "K" ∷ start_at GreaterOrEqual "K" "F" ∷ read_next "F" ∷ show "K" ∷ [])
    ≡ tells ("00" ∷ "00" ∷ "00" ∷ []) "A2"
unfolding computing out-Statement roll-Statement denote.Hole.Carrier.out denote.Hole.Carrier.roll
start_not_less = refl

start_nowhere : of_group (put "C " "K" ∷ start_at Equal "K1" "F" ∷ read_next "F" ∷ [])
    ≡ tells ("00" ∷ "23" ∷ "46" ∷ []) ""
unfolding computing out-Statement roll-Statement denote.Hole.Carrier.out denote.Hole.Carrier.roll
start_nowhere = refl

-- without KEY: EQUAL on the prime key
start_alone : of_group (put "A2" "K" ∷ start "F" ∷ read_next "F" ∷ show "K" ∷ []) ≡ tells ("00" ∷ "00" ∷ "00" ∷ []) "A2"
unfolding computing out-Statement roll-Statement denote.Hole.Carrier.out denote.Hole.Carrier.roll
start_alone = refl

next_after_deleted : of_group (read_next "F" ∷ show "K" ∷ delete "F" ∷ read_next "F" ∷ show "K" ∷ [])
    ≡ tells ("00" ∷ "00" ∷ "00" ∷ "00" ∷ []) "A1A2"
unfolding computing out-Statement roll-Statement denote.Hole.Carrier.out denote.Hole.Carrier.roll
next_after_deleted = refl

absent_rows : of_group (put "A3" "K" ∷ delete "F" ∷ rewrite "R" ∷ put "A2" "K" ∷ write "R" ∷ [])
    ≡ tells ("00" ∷ "23" ∷ "23" ∷ "22" ∷ []) ""
unfolding computing out-Statement roll-Statement denote.Hole.Carrier.out denote.Hole.Carrier.roll
absent_rows = refl

-- ---- relative files: N is the RELATIVE KEY, in a group G

abbrev relative_run : Select → String → Files → List (Verb Statement) → Run
relative_run file picture files statements =
    meaning (of_file file (entries (item (codes "01") (codes "R") (codes "X") ∷ [])) (entries
    (group (codes "01") (codes "G") ∷ item (codes "05") (codes "N") (codes picture) ∷ [])) statements) (over files)

abbrev numbered : ℕ → String → Row
numbered number bytes = record { number = number; bytes = codes bytes; arrivals = [] }

-- An OPTIONAL file that is absent.
at_five : both (relative_run (optional (relative Dynamic (Some "N") (select "F"))) "99" []
    (opening InputOutput "F" ∷ put "05" "N" ∷ write "R" ∷ put "00" "N" ∷ read_next "F" ∷ show "N" ∷ put "00" "N"
    ∷ write "R" ∷ read "F" ∷ show "N" ∷ [])).events
    ≡ tells ("05" ∷ "00" ∷ "00" ∷ "24" ∷ "23" ∷ []) "0500"
unfolding computing out-Statement roll-Statement denote.Hole.Carrier.out denote.Hole.Carrier.roll
at_five = refl

-- Bytes that are no number count as 0, and stay.
no_number :
    both (relative_run (relative Random (Some "N") (select "F")) "99" (file_of Relative [] (numbered 5 "E" ∷ []))
    (put "  " "G" ∷ opening Input "F" ∷ read "F" ∷ show "G" ∷ put "05" "N" ∷ read "F" ∷ show "R" ∷ [])).events
    ≡ tells ("00" ∷ "23" ∷ "00" ∷ []) "  E"
unfolding computing out-Statement roll-Statement denote.Hole.Carrier.out denote.Hole.Carrier.roll
no_number = refl

-- Sequential WRITE counts from 1, as long as the key item can hold the number.
ten_writes : both (relative_run (relative Sequential (Some "N") (select "F")) "9" []
    (opening Output "F" ∷ write "R" ∷ write "R" ∷ write "R" ∷ write "R" ∷ write "R" ∷ write "R" ∷ write "R" ∷ write "R"
    ∷ write "R" ∷ write "R" ∷ show "N" ∷ [])).events
    ≡ tells ("00" ∷ "00" ∷ "00" ∷ "00" ∷ "00" ∷ "00" ∷ "00" ∷ "00" ∷ "00" ∷ "00" ∷ "24" ∷ []) "9"
unfolding computing out-Statement roll-Statement denote.Hole.Carrier.out denote.Hole.Carrier.roll
ten_writes = refl

too_long : both (relative_run (relative Sequential (Some "N") (select "F")) "9"
    (file_of Relative [] (numbered 9 "I" ∷ numbered 10 "J" ∷ []))
    (opening Input "F" ∷ read "F" ∷ show "N" ∷ show "R" ∷ read "F" ∷ read "F" ∷ show "N" ∷ show "R" ∷ [])).events
    ≡ tells ("00" ∷ "00" ∷ "14" ∷ "46" ∷ []) "9I9I"
unfolding computing out-Statement roll-Statement denote.Hole.Carrier.out denote.Hole.Carrier.roll
too_long = refl

-- without RELATIVE KEY no number is too long
no_key_item : both (relative_run (relative Sequential None (select "F")) "9"
    (file_of Relative [] (numbered 9 "I" ∷ numbered 10 "J" ∷ []))
    (opening Input "F" ∷ read "F" ∷ read "F" ∷ show "N" ∷ show "R" ∷ [])).events
    ≡ tells ("00" ∷ "00" ∷ "00" ∷ []) "0J"
unfolding computing out-Statement roll-Statement denote.Hole.Carrier.out denote.Hole.Carrier.roll
no_key_item = refl

-- START on RELATIVE KEY, with NOT LESS and GREATER, and without KEY
relative_starts : both (relative_run (relative Dynamic (Some "N") (select "F")) "99"
    (file_of Relative [] (numbered 3 "C" ∷ numbered 5 "E" ∷ []))
    (opening Input "F" ∷ put "03" "N" ∷ start_at GreaterOrEqual "N" "F" ∷ read_next "F" ∷ show "N"
    ∷ start_at Greater "N" "F" ∷ read_next "F" ∷ show "R" ∷ put "04" "N" ∷ start "F" ∷ [])).events
    ≡ tells ("00" ∷ "00" ∷ "00" ∷ "00" ∷ "00" ∷ "23" ∷ []) "03E"
unfolding computing out-Statement roll-Statement denote.Hole.Carrier.out denote.Hole.Carrier.roll
relative_starts = refl
