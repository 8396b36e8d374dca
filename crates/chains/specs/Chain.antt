-- A chain of pages that holds the bytes of a long record (own choice). Byte 0 of each page is 3, and bytes 4 to 7 are
-- the next page, big-endian, or 0 on the last page. The record's bytes begin at byte 16, 4,080 on each page. No reader
-- looks at the other bytes, or at the bytes after the record's end. They are written as zeros.
use Rattle.std.specs.Prelude.{◌≡◌, ◌<◌, ◌+◌, ◌-◌, ◌*◌, ◌/◌, ◌++◌, ℕ, zero, suc, List, [], ◌∷◌, length, drop}
use Rattle.std.specs.Prelude.{replicate}
use Rattle.std.specs.Prelude.{slice_index, slice_index_or, Option, Some, None}
use Rattle.byteorder.specs.Endian.{big_number, big_bytes}
use Rattle.station.specs.Disk.{Sector}

-- a page of a chain: its next page, or 0, and its part of the record
abbrev pub next_in : Sector → ℕ
next_in bytes = big_number 4 (drop 4 bytes)

abbrev pub part_in : Sector → List ℕ
part_in bytes = drop 16 bytes

-- the same of a page that may not be in the map
abbrev pub IsLink : Option Sector → Type 0
IsLink None = ⊥
IsLink (Some bytes) = slice_index bytes 0 ≡ 3

abbrev pub next_on : Option Sector → ℕ
next_on None = 0
next_on (Some bytes) = next_in bytes

abbrev pub part_on : Option Sector → List ℕ
part_on None = []
part_on (Some bytes) = part_in bytes

-- the page after a page
abbrev pub page_at : List (Option Sector) → ℕ → Option Sector
page_at pages page = slice_index_or pages page None

abbrev pub next_at : List (Option Sector) → ℕ → ℕ
next_at pages page = next_on (page_at pages page)

-- A chain of so many pages stands from this page on: each of them is a page of a chain, and names the next one; the
-- last one names none. The chain of no pages has first page 0.
abbrev pub Stands : List (Option Sector) → ℕ → ℕ → Type 0
Stands pages zero first = first ≡ 0
Stands pages (suc count) first = (0 < first) × IsLink (page_at pages first) × Stands pages count (next_at pages first)

-- its pages, and the bytes on them
abbrev pub chain_pages : List (Option Sector) → ℕ → ℕ → List ℕ
chain_pages pages zero first = []
chain_pages pages (suc count) first = first ∷ chain_pages pages count (next_at pages first)

abbrev pub chain_bytes : List (Option Sector) → ℕ → ℕ → List ℕ
chain_bytes pages zero first = []
chain_bytes pages (suc count) first = part_on (page_at pages first) ++ chain_bytes pages count (next_at pages first)

-- how many pages a record of so many bytes needs
abbrev pub pages_for : ℕ → ℕ
pages_for bytes = (bytes + 4079) / 4080

-- what its pages hold: the record, and zeros
abbrev pub with_zeros : List ℕ → List ℕ
with_zeros bytes = bytes ++ replicate (pages_for (length bytes) * 4080 - length bytes) 0

-- the bytes of a page, as they are written
abbrev pub link_bytes : ℕ → List ℕ → Sector
link_bytes next part =
    (3 ∷ 0 ∷ 0 ∷ 0 ∷ []) ++ (big_bytes 4 next ++ (replicate 8 0 ++ (part ++ replicate (4080 - length part) 0)))
