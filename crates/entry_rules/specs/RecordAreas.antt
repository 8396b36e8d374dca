-- The record areas of files, as they are added up.
use Rattle.std.specs.Prelude.{◌≤◌, ℕ, ◌+◌, nat_lt, if◌then◌else◌, Option, Some, None}
use Rattle.lexical.specs.declared.place.Place.{Place}
use Rattle.source_tree.specs.declared.select.FileDescription.{FileDescription}
use Rattle.source_tree.specs.EntryRules.{most_storage}
use Rattle.source_tree.specs.Records.{record_length}
use Rattle.entry_rules.specs.declared.record_areas.RecordAreas.{RecordAreas}

-- the bytes of a file's record area
abbrev pub length_of : FileDescription → ℕ
length_of one = record_length one.entries

abbrev pub areas_of_bytes : ℕ → RecordAreas
areas_of_bytes bytes = record { bytes = bytes; past = None }

abbrev pub past_at : ℕ → Place → Option Place
past_at bytes place = if nat_lt most_storage bytes then Some place else None

abbrev pub with_past : Option Place → RecordAreas → Place → ℕ → RecordAreas
with_past (Some past) areas place bytes = areas
with_past None areas place bytes = record { bytes = areas.bytes + bytes; past = past_at (areas.bytes + bytes) place }

-- with the record area of one more file; after the first that goes past the limit nothing is counted
abbrev pub with : RecordAreas → Place → ℕ → RecordAreas
with areas place bytes = with_past areas.past areas place bytes

-- what is counted: no more than the limit, but where an area went past it
abbrev pub IsWithinLimit : Option Place → ℕ → Type 0
IsWithinLimit (Some past) bytes = Unit {0}
IsWithinLimit None bytes = bytes ≤ most_storage
