-- What a read of a record is asked for.
use Rattle.std.specs.Prelude.{◌≡◌, ◌≤◌, ℕ, zero, suc, Bool, List, length, take, Option, Some, None, is_some, ⊤}
use Rattle.station.specs.Disk.{Sector}
use Rattle.btree.specs.Entries.{Entry}
use Rattle.chains.specs.Rows.{HasChain, unrolled_entry}
use Rattle.volume_format.specs.Chained.{form_of}

-- a buffer is as long as a record: in a tree with chains, all records have one length
abbrev pub IsRecordLength : ℕ → ℕ → Type 0
IsRecordLength zero size = ⊤
IsRecordLength (suc more) size = size ≡ suc more

-- an entry has a record of that length: it begins its value, or its value begins with the first page of its chain
abbrev pub HasRecord : ℕ → List (Option Sector) → Entry → ℕ → Type 0
HasRecord zero pages entry size = size ≤ length entry.value
HasRecord (suc more) pages entry size =
    (size ≡ suc more) × (4 ≤ length entry.value) × HasChain (form_of (suc more)) pages entry

-- a buffer got the record of an entry
pub record ReadsRecord (record_bytes : ℕ) (pages : List (Option Sector)) (entry : Entry) (old new : List ℕ) : Type 0
  where
    pub has : HasRecord record_bytes pages entry (length old)
    pub bytes_are : new ≡ take (length old) (unrolled_entry (form_of record_bytes) pages entry).value

-- a buffer with the record of a row, as it was if there is none
abbrev pub record_into : Option Entry → List ℕ → List ℕ
record_into None old = old
record_into (Some row) old = take (length old) row.value

-- It is said whether the row is there, and a buffer got its record.
abbrev pub ReadsRow : Option Entry → List ℕ → List ℕ → Bool → Type 0
ReadsRow row old new found = (found ≡ is_some row) × (new ≡ record_into row old)
