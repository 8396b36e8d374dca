-- The lines of a text become rows of a file.
use Rattle.std.specs.Prelude.{◌≡◌, ◌≤◌, true, ℕ, zero, suc, ◌+◌, max, min, List, [], ◌∷◌, slice_index_or, Some, Ok}
use Rattle.station.specs.Disk.{Sector}
use Rattle.records.specs.declared.file_spec.Organization.{Organization}
use Rattle.records.specs.declared.file_spec.Organization.TheVariants.{Sequential, Relative, Indexed}
use Rattle.records.specs.Rows.{Row}
use Rattle.records.specs.Files.{File, Files, file_at, with_file}
use Rattle.records.specs.Changes.{FileChange, insertion}
use Rattle.records.specs.Stores.{is_change}
use Rattle.volume_copies.specs.Record.{record_of}

-- the greatest number of a row, 0 without rows
abbrev pub greatest_number : List Row → ℕ
greatest_number [] = 0
greatest_number (row ∷ rows) = max row.number (greatest_number rows)

-- The number of a new row: one more than the greatest in a relative file. Other files take no number.
abbrev pub number_among : Organization → List Row → ℕ
number_among Sequential rows = 0
number_among Relative rows = greatest_number rows + 1
number_among (Indexed place) rows = 0

abbrev pub next_number : File → ℕ
next_number file = number_among file.spec.organization file.rows

-- This number is the next one; or both are past the greatest that a row may have.
abbrev pub IsNext : ℕ → File → Type 0
IsNext number file = min number 1000000000 ≡ min (next_number file) 1000000000

-- the number after that of a new row
abbrev pub following_number : Organization → ℕ → ℕ
following_number Sequential number = 0
following_number Relative number = number + 1
following_number (Indexed place) number = 0

-- the file with a record as a new row, if it has room for one
abbrev pub file_change : List ℕ → File → FileChange
file_change bytes file = insertion (next_number file) bytes file

-- A line is a new row of the file of this name.
pub record AddsLine (name line : List ℕ) (before after : Files) : Type 0 where
  pub file : File
  pub there : file_at name before ≡ Some file
  pub bytes : List ℕ
  pub reads : record_of file.spec.record_length line ≡ Ok bytes
  pub added : is_change (file_change bytes file).outcome ≡ true
  pub after_is : after ≡ with_file name (file_change bytes file).file before

-- The first lines, so many of them, are new rows, one after the other.
abbrev pub AddsLines : List ℕ → List (List ℕ) → Files → ℕ → Files → Type 0
AddsLines name lines before zero now = now ≡ before
AddsLines name lines before (suc count) now =
    (mid : Files) × AddsLines name lines before count mid × AddsLine name (slice_index_or lines count []) mid now

-- an image holds the files with at most so many lines
pub record HoldsLines (holds : List Sector → Files → Type 0) (name : List ℕ) (lines : List (List ℕ)) (before : Files)
    (most : ℕ) (image : List Sector) : Type 0 where
  pub count : ℕ
  pub now : Files
  pub few : count ≤ most
  pub adds : AddsLines name lines before count now
  pub there : holds image now
