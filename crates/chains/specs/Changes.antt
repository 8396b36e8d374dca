-- What the calls on a chain do to the pages of the map, and what is a record of a chain.
use Rattle.std.specs.Prelude.{◌≡◌, ℕ, List, [], length, take, Option}
use Rattle.station.specs.Disk.{Sector}
use Rattle.btree.specs.Moves.{Moves}
use Rattle.chains.specs.Chain.{Stands, chain_pages, chain_bytes, pages_for, with_zeros}

-- The chain of a record was laid: it stands on pages that were in no map before, and the other pages are as they were.
pub record Lays (before : List (Option Sector)) (bytes : List ℕ) (after : List (Option Sector)) (first : ℕ) :
    Type 0 where
  pub stands : Stands after (pages_for (length bytes)) first
  pub holds : chain_bytes after (pages_for (length bytes)) first ≡ with_zeros bytes
  pub moves : Moves before [] after (chain_pages after (pages_for (length bytes)) first)

-- The chain from this page on got another record of the same length: it stands on the same pages, and the others are as
-- they were.
pub record Rewrites (before : List (Option Sector)) (bytes : List ℕ) (after : List (Option Sector)) (first : ℕ) :
    Type 0 where
  pub stands : Stands after (pages_for (length bytes)) first
  pub same : chain_pages after (pages_for (length bytes)) first ≡ chain_pages before (pages_for (length bytes)) first
  pub holds : chain_bytes after (pages_for (length bytes)) first ≡ with_zeros bytes
  pub moves : Moves before (chain_pages before (pages_for (length bytes)) first) after
      (chain_pages before (pages_for (length bytes)) first)

-- The chain from this page on left the map, and the other pages are as they were.
abbrev pub Releases : List (Option Sector) → ℕ → List (Option Sector) → ℕ → Type 0
Releases before count after first = Moves before (chain_pages before count first) after []

-- a record that stands in a chain from this page on
pub record IsRecordOf (pages : List (Option Sector)) (first : ℕ) (bytes : List ℕ) : Type 0 where
  pub stands : Stands pages (pages_for (length bytes)) first
  pub bytes_are : bytes ≡ take (length bytes) (chain_bytes pages (pages_for (length bytes)) first)
