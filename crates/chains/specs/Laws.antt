-- What holds of every chain.
use Rattle.std.specs.Prelude.{◌≡◌, ◌<◌, ℕ, List, Option, Contains}
use Rattle.station.specs.Disk.{Sector}
use Rattle.btree.specs.Laws.{Apart}
use Rattle.btree.specs.Moves.{Moves, Once}
use Rattle.chains.specs.Chain.{IsLink, Stands, chain_pages, chain_bytes, page_at}

-- no page stands in a chain twice
abbrev pub ChainOnce : Type 0
ChainOnce =
    (pages : List (Option Sector)) (count first : ℕ) → Stands pages count first → Once (chain_pages pages count first)

-- chains from one page on have one number of pages
abbrev pub OneLength : Type 0
OneLength =
    (pages : List (Option Sector)) (one two first : ℕ) → Stands pages one first → Stands pages two first → one ≡ two

-- each page of a chain is in the map, and isn't page 0
abbrev pub ChainThere : Type 0
ChainThere = (pages : List (Option Sector)) (count first page : ℕ) → Stands pages count first
    → Contains (chain_pages pages count first) page → (0 < page) × IsLink (page_at pages page)

-- what is known of a chain after a change of other pages
pub record KeepsChain (before : List (Option Sector)) (count first : ℕ) (after : List (Option Sector)) (new : List ℕ) :
    Type 0 where
  pub stands : Stands after count first
  pub same_pages : chain_pages after count first ≡ chain_pages before count first
  pub same_bytes : chain_bytes after count first ≡ chain_bytes before count first
  pub apart : Apart (chain_pages before count first) new

-- A change of pages that a chain hasn't leaves it as it is, and it has none of the new ones.
abbrev pub ChainStays : Type 0
ChainStays = (before after : List (Option Sector)) (old new : List ℕ) (count first : ℕ) →
    Moves before old after new → Stands before count first → Apart (chain_pages before count first) old
    → KeepsChain before count first after new
