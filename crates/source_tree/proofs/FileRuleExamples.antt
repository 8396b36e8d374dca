-- The rules of files and file statements, each broken alone and nearly broken.
use Prim.Native.String.{String}
use Rattle.std.proofs.Common.{◌≡◌, ℕ, true, false, List, [], ◌∷◌, ◌++◌, None, Some, refl}
use Rattle.std.specs.Prelude.{codes, map, replicate}
use Rattle.records.specs.declared.select.Access.TheVariants.{Sequential, Random, Dynamic}
use Rattle.records.specs.declared.verb.OpenMode.TheVariants.{Input, Extend}
use Rattle.source_tree.specs.declared.condition.Relation.TheVariants.{Less, LessOrEqual, Equal, GreaterOrEqual, Greater}
use Rattle.source_tree.specs.declared.entry.Entry.{Entry}
use Rattle.source_tree.specs.declared.phrases.FilePhrases.{FilePhrases}
use Rattle.source_tree.specs.declared.phrases.FilePhrases.TheVariants.{Absent, AtEnd, InvalidKey}
use Rattle.source_tree.specs.declared.select.Select.{Select}
use Rattle.source_tree.specs.declared.select.FileDescription.{FileDescription}
use Rattle.source_tree.specs.declared.statement.Verb.{Verb}
use Rattle.source_tree.specs.declared.statement.Verb.TheVariants as verb
use Rattle.source_tree.specs.declared.statement.Statement.{Statement}
use Rattle.source_tree.specs.declared.program.Program.{Program}
use Rattle.source_tree.specs.Broken.{RuleBreach}
use Rattle.source_tree.specs.Records.{program_items}
use Rattle.source_tree.specs.ProgramFiles.{files_of}
use Rattle.source_tree.specs.FileRules.{file_name_rules, program_file_rules}
use Rattle.source_tree.specs.FilingRules.{filing_rules}
use Rattle.source_tree.proofs.Samples.{name, here, item, group, redefining, occurring, valued, entries, condition}
use Rattle.source_tree.proofs.Samples.{one_value, text}
use Rattle.source_tree.proofs.FileSamples.{select, with_status, relative, indexed, alternate, described, opening, close}
use Rattle.source_tree.proofs.FileSamples.{read_next, read_by, reading, read_into, write, writing, write_from, delete}
use Rattle.source_tree.proofs.FileSamples.{start, start_at, starting, program}
unfoldable use Rattle.source_tree.proofs.Computing.{computing}

abbrev rules : List RuleBreach → List ℕ
rules = map (λ one. one.rule)

-- ---- files: the record R of F, and working storage

abbrev records : List Entry
records = entries (group (codes "01") (codes "R") ∷ item (codes "05") (codes "K") (codes "XX")
    ∷ item (codes "05") (codes "V") (codes "XX") ∷ item (codes "05") (codes "M") (codes "99")
    ∷ item (codes "05") (codes "Q") (codes "S99") ∷ item (codes "05") (codes "A") (codes "AA")
    ∷ occurring (codes "2") (item (codes "05") (codes "W") (codes "XX")) ∷ [])

abbrev storage : List Entry
storage = entries (item (codes "77") (codes "S") (codes "XX") ∷ item (codes "77") (codes "S3") (codes "XXX")
    ∷ item (codes "77") (codes "N") (codes "99") ∷ item (codes "77") (codes "SN") (codes "S99")
    ∷ item (codes "77") (codes "D") (codes "9V9") ∷ [])

abbrev of_files : List Select → List FileDescription → List ℕ
of_files selects files =
    rules (program_file_rules (program_items (program selects files storage [])) (program selects files storage []))

abbrev Breaks : List (Select × List ℕ) → Type 0
Breaks rows = map (λ row. of_files (row.0 ∷ []) (described "F" records ∷ [])) rows ≡ map (λ row. row.1) rows

abbrev f : Select
f = select "F"

-- 42 and 57
names_match : of_files (f ∷ []) [] ≡ 57 ∷ []
unfolding computing
names_match = refl

described_alone : of_files [] (described "F" records ∷ []) ≡ 57 ∷ []
unfolding computing
described_alone = refl

selected_twice : of_files (f ∷ f ∷ []) (described "F" records ∷ []) ≡ 42 ∷ []
unfolding computing
selected_twice = refl

described_twice : of_files (f ∷ []) (described "F" records ∷ described "F" records ∷ []) ≡ 42 ∷ []
unfolding computing
described_twice = refl

-- 58: keys and access by organization
clauses : Breaks ((f, [])
    ∷ (indexed Random "K" [] f, [])
    ∷ (record (indexed Dynamic "K" [] f) { record_key = None }, 58 ∷ [])
    ∷ (
      record (relative Sequential (Some "N") f)
          { organization = (indexed Random "K" [] f).organization; record_key = (indexed Random "K" [] f).record_key },
      58 ∷ [],
    )
    ∷ (record f { access = Random }, 58 ∷ [])
    ∷ (record f { relative_key = (relative Random (Some "N") f).relative_key }, 58 ∷ [])
    ∷ (record (relative Sequential None f) { record_key = (indexed Random "K" [] f).record_key }, 58 ∷ [])
    ∷ (record (relative Sequential None f) { alternate_keys = alternate "V" true ∷ [] }, 58 ∷ [])
    ∷ [])
unfolding computing
clauses = refl

-- 58: an unsigned number in DISPLAY usage may be a key; a number with S, an alphabetic item, one of a table, one of
-- working storage may not; nor may two keys begin at one place
keys : Breaks ((indexed Random "M" (alternate "K" false ∷ alternate "V" true ∷ []) f, [])
    ∷ (indexed Random "Q" [] f, 58 ∷ [])
    ∷ (indexed Random "A" [] f, 58 ∷ [])
    ∷ (indexed Random "W" [] f, 58 ∷ [])
    ∷ (indexed Random "S" [] f, 58 ∷ [])
    ∷ (indexed Random "Z" [] f, 40 ∷ [])
    ∷ (indexed Random "R" [] f, [])
    ∷ (indexed Random "K" (alternate "R" false ∷ []) f, 58 ∷ [])
    ∷ (indexed Random "K" (alternate "V" false ∷ alternate "V" true ∷ []) f, 58 ∷ [])
    ∷ [])
unfolding computing
keys = refl

-- 60
relative_keys : Breaks ((relative Sequential None f, [])
    ∷ (relative Random None f, 60 ∷ [])
    ∷ (relative Dynamic (Some "N") f, [])
    ∷ (relative Dynamic (Some "SN") f, 60 ∷ [])
    ∷ (relative Dynamic (Some "D") f, 60 ∷ [])
    ∷ (relative Dynamic (Some "S") f, 60 ∷ [])
    ∷ (relative Dynamic (Some "M") f, 60 ∷ [])
    ∷ (relative Dynamic (Some "Z") f, 40 ∷ [])
    ∷ [])
unfolding computing
relative_keys = refl

-- 59
statuses : Breaks ((with_status "S" f, [])
    ∷ (with_status "S3" f, 59 ∷ [])
    ∷ (with_status "N" f, 59 ∷ [])
    ∷ (with_status "V" f, 59 ∷ [])
    ∷ (with_status "Z" f, 40 ∷ [])
    ∷ [])
unfolding computing
statuses = refl

-- 66
abbrev called : List ℕ → Select
called characters = record f { assigned = record { characters = characters; place = here } }

assigned : Breaks ((called (replicate 30 65), []) ∷ (called (replicate 31 65), 66 ∷ []) ∷ (called [], 66 ∷ []) ∷ [])
unfolding computing
assigned = refl

-- 69: a record of more than 16,000 bytes, a key of more than 100, more than 7 alternate keys, more than 15 files
abbrev of_length : String → List ℕ
of_length picture = of_files (indexed Random "K" [] f ∷ [])
    (described "F" (entries (item (codes "01") (codes "K") (codes picture) ∷ [])) ∷ [])

longest_key : of_length "X(100)" ≡ []
unfolding computing
longest_key = refl

too_long_key : of_length "X(101)" ≡ 69 ∷ []
unfolding computing
too_long_key = refl

longest_record :
    of_files (f ∷ []) (described "F" (entries (item (codes "01") (codes "R") (codes "X(16000)") ∷ [])) ∷ [])
    ≡ []
unfolding computing
longest_record = refl

too_long_record : of_files (f ∷ []) (described "F" (entries
    (item (codes "01") (codes "R") (codes "X") ∷ item (codes "01") (codes "T") (codes "X(16001)") ∷ [])) ∷ []) ≡ 69 ∷ []
unfolding computing
too_long_record = refl

abbrev letters : List Entry
letters = entries
    (group (codes "01") (codes "R") ∷ map (λ letter. item (codes "05") (letter ∷ []) (codes "X")) (codes "KABCEFGHI"))

seven_keys : of_files (indexed Random "K" (alternate "A" true ∷ alternate "B" true ∷ alternate "C" true
    ∷ alternate "E" true ∷ alternate "F" true ∷ alternate "G" true ∷ alternate "H" true ∷ []) (select "X") ∷ [])
    (described "X" letters ∷ []) ≡ []
unfolding computing
seven_keys = refl

eight_keys : of_files (indexed Random "K" (alternate "A" true ∷ alternate "B" true ∷ alternate "C" true ∷ alternate "E"
    true ∷ alternate "F" true ∷ alternate "G" true ∷ alternate "H" true ∷ alternate "I" true ∷ []) (select "X") ∷ [])
    (described "X" letters ∷ []) ≡ 69 ∷ []
unfolding computing
eight_keys = refl

abbrev named_by : List ℕ → List ℕ
named_by letters =
    rules (file_name_rules (map (λ letter. name (letter ∷ [])) letters) (map (λ letter. name (letter ∷ [])) letters))

fifteen_files : named_by (codes "ABCDEFGHIJKLMNO") ≡ []
fifteen_files = refl

sixteen_files : named_by (codes "ABCDEFGHIJKLMNOP") ≡ 69 ∷ []
sixteen_files = refl

-- entries of records: 46 REDEFINES at 01, 47 VALUE except for a condition name, 43 levels
abbrev Holds : List (List Entry × List ℕ) → Type 0
Holds rows = map (λ row. of_files (f ∷ []) (described "F" row.0 ∷ [])) rows ≡ map (λ row. row.1) rows

record_entries : Holds ((
  entries (item (codes "01") (codes "R") (codes "XX")
      ∷ redefining (codes "R") (item (codes "01") (codes "T") (codes "XX")) ∷ []),
  46 ∷ [],
)
    ∷ (
      entries (group (codes "01") (codes "R") ∷ item (codes "05") (codes "B") (codes "X")
          ∷ redefining (codes "B") (item (codes "05") (codes "C") (codes "X")) ∷ []),
      [],
    )
    ∷ (entries (valued (text (codes "A")) (item (codes "01") (codes "R") (codes "X")) ∷ []), 47 ∷ [])
    ∷ (
      entries (item (codes "01") (codes "R") (codes "X") ∷ [])
          ++ condition (codes "C") (one_value (text (codes "A")) ∷ []) ∷ [],
      [],
    )
    ∷ (entries (item (codes "05") (codes "R") (codes "X") ∷ []), 43 ∷ [])
    ∷ (entries (item (codes "77") (codes "R") (codes "X") ∷ []), 43 ∷ [])
    ∷ ([], 69 ∷ [])
    ∷ [])
unfolding computing
record_entries = refl

-- ---- file statements: F is sequential, G relative with dynamic access and H with sequential, I indexed with random
-- access and J with dynamic, L sequential with a number as its only record

abbrev some_files : List Select
some_files = f ∷ relative Dynamic (Some "N") (select "G") ∷ relative Sequential None (select "H")
    ∷ indexed Random "IK" (alternate "IV" true ∷ []) (select "I")
    ∷ indexed Dynamic "JK" (alternate "JV" true ∷ []) (select "J") ∷ select "L" ∷ []

abbrev some_records : List FileDescription
some_records = described "F" (entries (item (codes "01") (codes "FR") (codes "XXXX") ∷ []))
    ∷ described "G" (entries (item (codes "01") (codes "GR") (codes "XXXX") ∷ []))
    ∷ described "H" (entries (item (codes "01") (codes "HR") (codes "XXXX") ∷ []))
    ∷ described "I" (entries (group (codes "01") (codes "IR") ∷ item (codes "05") (codes "IK") (codes "XX")
    ∷ item (codes "05") (codes "IV") (codes "99")
    ∷ redefining (codes "IV") (item (codes "05") (codes "I2") (codes "99")) ∷ []))
    ∷ described "J" (entries (group (codes "01") (codes "JR") ∷ group (codes "05") (codes "JK") ∷ item (codes "10")
    (codes "J1") (codes "X") ∷ item (codes "10") (codes "J2") (codes "X") ∷ item (codes "05") (codes "JV") (codes "99")
    ∷ redefining (codes "JV") (item (codes "05") (codes "J3") (codes "99"))
    ∷ redefining (codes "JV") (item (codes "05") (codes "J4") (codes "XX")) ∷ []))
    ∷ described "L" (entries (item (codes "01") (codes "LR") (codes "9(4)") ∷ [])) ∷ []

abbrev some_storage : List Entry
some_storage = entries
    (item (codes "01") (codes "N") (codes "99") ∷ redefining (codes "N") (item (codes "01") (codes "N2") (codes "99"))
    ∷ item (codes "77") (codes "X") (codes "XX") ∷ item (codes "77") (codes "A") (codes "AA") ∷ [])

abbrev some_program : Program
some_program = program some_files some_records some_storage []

abbrev of_filing : Verb Statement → List RuleBreach
of_filing (verb.FileStatement one) =
    filing_rules (program_items some_program) (files_of (program_items some_program) some_program) one
of_filing _ = []

abbrev Broke : List (Verb Statement × List ℕ) → Type 0
Broke rows = map (λ row. rules (of_filing row.0)) rows ≡ map (λ row. row.1) rows

abbrev with_end : FilePhrases Statement
with_end = AtEnd (record { arose = Some []; did_not = None })

abbrev with_invalid : FilePhrases Statement
with_invalid = InvalidKey (record { arose = Some []; did_not = None })

-- all files are there, and no rule of theirs is broken
no_file_broken : rules (program_file_rules (program_items some_program) some_program) ≡ []
unfolding computing
no_file_broken = refl

opened : Broke ((opening Extend "F", []) ∷ (opening Extend "G", 61 ∷ []) ∷ (opening Extend "J", 61 ∷ [])
    ∷ (opening Input "Z", 40 ∷ []) ∷ (close "F", []) ∷ (close "FR", 40 ∷ []) ∷ [])
unfolding computing
opened = refl

reads : Broke ((read_next "F", [])
    ∷ (reading false None with_end "F", [])
    ∷ (reading false None with_invalid "F", 62 ∷ [])
    ∷ (read_by "FR" "F", 62 ∷ 62 ∷ [])
    ∷ (reading false None with_invalid "G", [])
    ∷ (reading false None with_end "G", 62 ∷ [])
    ∷ (reading true None with_end "G", [])
    ∷ (reading true None with_invalid "G", 62 ∷ [])
    ∷ (read_by "N" "G", 62 ∷ [])
    ∷ (reading false None with_end "H", [])
    ∷ (read_by "IK" "I", [])
    ∷ (read_by "IV" "I", [])
    ∷ (read_by "IR" "I", 62 ∷ [])
    ∷ (read_by "I2" "I", 62 ∷ [])
    ∷ (read_by "JK" "I", 62 ∷ [])
    ∷ (read_by "Z" "I", 40 ∷ [])
    ∷ (read_next "I", 62 ∷ [])
    ∷ (reading true (Some "JK") Absent "J", 62 ∷ [])
    ∷ (read_into "A" Absent "F", [])
    ∷ (read_into "A" Absent "L", 49 ∷ [])
    ∷ (read_into "Z" Absent "F", 40 ∷ [])
    ∷ [])
unfolding computing
reads = refl

changes : Broke ((write "FR", [])
    ∷ (write "IK", 40 ∷ [])
    ∷ (write "X", 40 ∷ [])
    ∷ (write "Z", 40 ∷ [])
    ∷ (writing with_invalid "FR", 62 ∷ [])
    ∷ (writing with_invalid "GR", [])
    ∷ (write_from "X" "FR", [])
    ∷ (write_from "A" "LR", 49 ∷ [])
    ∷ (delete "F", 61 ∷ [])
    ∷ (delete "H", [])
    ∷ [])
unfolding computing
changes = refl

starts : Broke ((start "F", 61 ∷ [])
    ∷ (start "I", 61 ∷ [])
    ∷ (start "H", 60 ∷ [])
    ∷ (start "G", [])
    ∷ (start_at GreaterOrEqual "N" "G", [])
    ∷ (start_at Equal "X" "G", 63 ∷ [])
    ∷ (start_at Equal "N2" "G", 63 ∷ [])
    ∷ (start_at Equal "JK" "J", [])
    ∷ (start_at Equal "J1" "J", [])
    ∷ (start_at Equal "J2" "J", 63 ∷ [])
    ∷ (start_at Equal "JV" "J", [])
    ∷ (start_at Equal "JR" "J", 63 ∷ [])
    ∷ (start_at Equal "J3" "J", 63 ∷ [])
    ∷ (start_at Equal "J4" "J", [])
    ∷ (start_at Less "JK" "J", 63 ∷ [])
    ∷ (start_at LessOrEqual "JK" "J", 63 ∷ [])
    ∷ (starting true Less "JK" "J", [])
    ∷ (starting true LessOrEqual "JK" "J", 63 ∷ [])
    ∷ (starting true Equal "JK" "J", 63 ∷ [])
    ∷ (starting true Greater "JK" "J", 63 ∷ [])
    ∷ (starting true GreaterOrEqual "JK" "J", 63 ∷ [])
    ∷ (start_at Equal "Z" "J", 40 ∷ [])
    ∷ [])
unfolding computing
starts = refl
