-- Programs with sequential files, the statuses that they receive, and what they leave.
use Prim.Native.String.{String}
use Rattle.std.proofs.Common.{◌≡◌, ℕ, false, List, [], ◌∷◌, ◌++◌, None, Some, refl}
use Rattle.std.specs.Prelude.{codes, map}
use Rattle.station.specs.State.{Event, Shown, Noted}
use Rattle.records.specs.declared.file_spec.Organization.TheVariants as organization
use Rattle.records.specs.declared.verb.OpenMode.TheVariants.{Input, Output, InputOutput, Extend}
use Rattle.records.specs.Rows.{Row}
use Rattle.records.specs.Files.{Files}
use Rattle.source_tree.specs.declared.entry.Entry.{Entry}
use Rattle.source_tree.specs.declared.phrases.FilePhrases.TheVariants.{Absent, AtEnd}
use Rattle.source_tree.specs.declared.statement.Verb.{Verb}
use Rattle.source_tree.specs.declared.statement.Statement.{Statement, out-Statement, roll-Statement}
use Rattle.source_tree.specs.declared.program.Program.{Program}
use Rattle.source_tree.specs.Evaluated as fault
use Rattle.source_tree.specs.State.{Stopped, Faulted}
use Rattle.source_tree.specs.Meaning.{Run, meaning}
use Rattle.source_tree.proofs.Samples.{item, group, entries}
use Rattle.source_tree.proofs.FileSamples.{select, optional, with_status, described, opening, close, read, reading}
use Rattle.source_tree.proofs.FileSamples.{read_into, write, write_from, rewrite, put, show, at_end, lines_from}
use Rattle.source_tree.proofs.FileSamples.{program, over, statuses, shown, all_codes}
unfoldable use Rattle.source_tree.proofs.Computing.{computing}

-- FD F. 01 R PIC XX. 77 S PIC XX, the FILE STATUS of F. 77 X PIC XXX.
abbrev storage : List Entry
storage = entries (item (codes "77") (codes "S") (codes "XX") ∷ item (codes "77") (codes "X") (codes "XXX") ∷ [])

abbrev of_letters : List (Verb Statement) → Program
of_letters statements =
    program (with_status "S" (select "F") ∷ [])
    (described "F" (entries (item (codes "01") (codes "R") (codes "XX") ∷ [])) ∷ []) storage (lines_from 9 statements)

abbrev told : List (Verb Statement) → List (List ℕ)
told all = statuses (meaning (of_letters all) (over [])).events

absent_input : told (opening Input "F" ∷ []) ≡ all_codes ("35" ∷ [])
unfolding computing out-Statement roll-Statement denote.Hole.Carrier.out denote.Hole.Carrier.roll
absent_input = refl

all_statuses : told (opening Output "F" ∷ write "R" ∷ write "R" ∷ close "F" ∷ close "F"
    ∷ opening InputOutput "F" ∷ rewrite "R"
    ∷ read "F" ∷ rewrite "R" ∷ rewrite "R"
    ∷ read "F" ∷ read "F" ∷ read "F"
    ∷ opening InputOutput "F" ∷ write "R" ∷ close "F"
    ∷ opening Extend "F" ∷ read "F" ∷ write "R" ∷ close "F" ∷ [])
    ≡ all_codes ("00" ∷ "00" ∷ "00" ∷ "00" ∷ "42" ∷ "00" ∷ "43" ∷ "00" ∷ "00" ∷ "43" ∷ "00" ∷ "10" ∷ "46" ∷ "41" ∷ "48"
    ∷ "00" ∷ "00" ∷ "47" ∷ "00" ∷ "00" ∷ [])
unfolding computing out-Statement roll-Statement denote.Hole.Carrier.out denote.Hole.Carrier.roll
all_statuses = refl

-- ---- files at the start and after each file statement

abbrev row : ℕ → String → Row
row number bytes = record { number = number; bytes = codes bytes; arrivals = [] }

abbrev file_of : List Row → ℕ → Files
file_of rows next = record {
  name = codes "F";
  file = record {
    spec = record { organization = organization.Sequential; record_length = 2; alternates = [] };
    rows = rows;
    next_arrival = next;
  };
} ∷ []

abbrev two_rows : Files
two_rows = file_of (row 1 "AB" ∷ row 2 "CD" ∷ []) 3

-- The record area holds spaces at the start, and WRITE leaves it as it is.
each_file_statement : (meaning (of_letters (opening Output "F" ∷ write "R" ∷ put "AB" "R" ∷ write "R" ∷ write "R" ∷ []))
    (over two_rows)).files
    ≡ two_rows ∷ file_of [] 1 ∷ file_of (row 1 "  " ∷ []) 2 ∷ file_of (row 1 "  " ∷ row 2 "AB" ∷ []) 3
    ∷ file_of (row 1 "  " ∷ row 2 "AB" ∷ row 3 "AB" ∷ []) 4 ∷ []
unfolding computing out-Statement roll-Statement denote.Hole.Carrier.out denote.Hole.Carrier.roll
each_file_statement = refl

-- A status from 10 on leaves all files as they were.
failed_statements :
    (meaning (of_letters (opening InputOutput "F" ∷ rewrite "R" ∷ write "R" ∷ [])) (over two_rows)).files
    ≡ two_rows ∷ two_rows ∷ two_rows ∷ two_rows ∷ []
unfolding computing out-Statement roll-Statement denote.Hole.Carrier.out denote.Hole.Carrier.roll
failed_statements = refl

-- ---- what follows a status

abbrev one : ℕ → Verb Statement → Statement
one line verb = roll-Statement (record { place = record { line = line; column = 20 }; verb = verb })

-- Another record length: 39. A second SELECT of the name, while it is open: 41, of the second file.
abbrev of_two : String → List (Verb Statement) → Program
of_two picture statements =
    program
    (with_status "S" (select "F") ∷ record (with_status "S" (select "G")) { assigned = (select "F").assigned } ∷ [])
    (described "G" (entries (item (codes "01") (codes "Q") (codes picture) ∷ []))
    ∷ described "F" (entries (item (codes "01") (codes "R") (codes "XX") ∷ [])) ∷ [])
    storage (lines_from 9 statements)

abbrev noted : ℕ → String → Event
noted file status = Noted (record { file = file; status = codes status })

another_length :
    (meaning (of_two "XXX" (opening Input "G" ∷ opening Input "F" ∷ opening Input "G" ∷ [])) (over two_rows)).events
    ≡ noted 1 "39" ∷ noted 0 "00" ∷ noted 1 "41" ∷ []
unfolding computing out-Statement roll-Statement denote.Hole.Carrier.out denote.Hole.Carrier.roll
another_length = refl

-- each file has an area of its own
two_areas :
    shown (meaning (of_two "XX" (opening Input "F" ∷ put "QQ" "Q" ∷ read "F" ∷ show "R" ∷ show "Q" ∷ show "S" ∷ []))
    (over two_rows)).events ≡ codes "ABQQ00"
unfolding computing out-Statement roll-Statement denote.Hole.Carrier.out denote.Hole.Carrier.roll
two_areas = refl

-- READ F INTO X AT END DISPLAY S NOT AT END DISPLAY X: what was read is moved before the phrase; at the end nothing is.
abbrev read_and_show : Verb Statement
read_and_show = read_into "X" (at_end (one 20 (show "S") ∷ []) (one 21 (show "X") ∷ [])) "F"

phrases :
    (meaning (of_letters (opening Input "F" ∷ read_and_show ∷ read_and_show ∷ read_and_show ∷ show "X" ∷ show "R" ∷ []))
    (over two_rows)).events
    ≡ noted 0 "00" ∷ noted 0 "00" ∷ map Shown (codes "AB ") ++ noted 0 "00" ∷ map Shown (codes "CD ")
    ++ noted 0 "10" ∷ map Shown (codes "10CD CD")
unfolding computing out-Statement roll-Statement denote.Hole.Carrier.out denote.Hole.Carrier.roll
    Rattle.source_tree.specs.declared.statement.Statement.TheBlock.shown-the_row-Statement-0 denote.Hole.Carrier.shown
    denote.Hole.Carrier.hidden
phrases = refl

-- FROM is moved into the record before.
from_item : (meaning (of_letters (put "XYZ" "X" ∷ opening Output "F" ∷ write_from "X" "R" ∷ [])) (over [])).files
    ≡ [] ∷ file_of [] 1 ∷ file_of (row 1 "XY" ∷ []) 2 ∷ []
unfolding computing out-Statement roll-Statement denote.Hole.Carrier.out denote.Hole.Carrier.roll
from_item = refl

-- ---- without FILE STATUS

abbrev unheard : List (Verb Statement) → Files → Run
unheard statements files =
    meaning (program (optional (select "F") ∷ []) (described "F"
    (entries (item (codes "01") (codes "R") (codes "XX") ∷ [])) ∷ []) storage (lines_from 9 statements)) (over files)

-- An OPTIONAL file that is absent: 05. READ without AT END is noted, and then the fault of its line.
absent_optional : unheard (opening Input "F" ∷ read "F" ∷ read "F" ∷ []) [] ≡ record {
  events = noted 0 "05" ∷ noted 0 "10" ∷ [];
  end = Faulted fault.FileStatus 10;
  lines = [];
  files = [] ∷ [] ∷ [] ∷ [];
}
unfolding computing out-Statement roll-Statement denote.Hole.Carrier.out denote.Hole.Carrier.roll
absent_optional = refl

-- With AT END it goes on; without NOT AT END nothing more is done after a success. 46 has no phrase that fits.
with_phrase : (unheard (opening Input "F"
    ∷ reading false None (AtEnd (record { arose = Some (one 20 (show "X") ∷ []); did_not = None })) "F" ∷ show "R"
    ∷ reading false None (AtEnd (record { arose = Some (one 20 (show "X") ∷ []); did_not = None })) "F" ∷ []) []).end
    ≡ Faulted fault.FileStatus 12
unfolding computing out-Statement roll-Statement denote.Hole.Carrier.out denote.Hole.Carrier.roll
    Rattle.source_tree.specs.declared.statement.Statement.TheBlock.shown-the_row-Statement-0 denote.Hole.Carrier.shown
    denote.Hole.Carrier.hidden
with_phrase = refl

-- NOT AT END alone is no phrase that fits 10.
not_at_end_alone : (unheard (opening Input "F"
    ∷ reading false None (AtEnd (record { arose = None; did_not = Some (one 20 (show "X") ∷ []) })) "F" ∷ []) []).end
    ≡ Faulted fault.FileStatus 10
unfolding computing out-Statement roll-Statement denote.Hole.Carrier.out denote.Hole.Carrier.roll
    Rattle.source_tree.specs.declared.statement.Statement.TheBlock.shown-the_row-Statement-0 denote.Hole.Carrier.shown
    denote.Hole.Carrier.hidden
not_at_end_alone = refl

-- Files that are open at the end are no file statement: nothing is noted.
left_open : unheard (opening Output "F" ∷ []) []
    ≡ record { events = noted 0 "00" ∷ []; end = Stopped; lines = []; files = [] ∷ file_of [] 1 ∷ [] }
unfolding computing out-Statement roll-Statement denote.Hole.Carrier.out denote.Hole.Carrier.roll
left_open = refl

-- ---- INTO a PIC 999: of several records it moves the record area as a group, from the left; an only record that is a
-- number is moved as one.
abbrev reads_into : List Entry → List ℕ
reads_into records =
    shown (meaning (program (select "F" ∷ []) (described "F" records ∷ [])
    (entries (group (codes "01") (codes "G") ∷ item (codes "05") (codes "X") (codes "999") ∷ []))
    (lines_from 9 (opening Input "F" ∷ read_into "X" Absent "F" ∷ show "G" ∷ [])))
    (over (file_of (row 1 "12" ∷ []) 2))).events

several_records : reads_into (entries (item (codes "01") (codes "N") (codes "99") ∷ group (codes "01") (codes "T")
    ∷ item (codes "05") (codes "P") (codes "9") ∷ [])) ≡ codes "12 "
unfolding computing out-Statement roll-Statement denote.Hole.Carrier.out denote.Hole.Carrier.roll
several_records = refl

only_record : reads_into (entries (item (codes "01") (codes "N") (codes "99") ∷ [])) ≡ codes "012"
unfolding computing out-Statement roll-Statement denote.Hole.Carrier.out denote.Hole.Carrier.roll
only_record = refl
