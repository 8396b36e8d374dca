-- Pages of a chain that are in memory.
use Rattle.std.specs.Prelude.{◌≡◌, ℕ, List, take, Option}
use Rattle.std.specs.List.{flat_map}
use Rattle.station.specs.Disk.{Sector}
use Rattle.chains.specs.Chain.{Stands, part_in, chain_bytes}

-- the parts of a record on the first of some pages, one after the other
abbrev pub parts_on : ℕ → List Sector → List ℕ
parts_on count read = flat_map part_in (take count read)

-- a chain of so many pages stands from this page on, and the first pages in memory have its bytes
pub record ReadsChain (pages : List (Option Sector)) (count first : ℕ) (read : List Sector) : Type 0 where
  pub stands : Stands pages count first
  pub bytes_are : parts_on count read ≡ chain_bytes pages count first
