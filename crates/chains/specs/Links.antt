-- One page of a chain: what is read of it, and what is written.
use Rattle.std.specs.Prelude.{◌≡◌, ◌⊎◌, ◌<◌, ◌≤◌, ◌++◌, ℕ, List, [], length, take, Option, Some, None}
use Rattle.station.specs.Disk.{Sector}
use Rattle.chains.specs.Chain.{IsLink, next_in, part_on, page_at, next_at, link_bytes}

-- a record is its first part and the rest: only the last part is short
pub record IsCut (bytes part rest : List ℕ) : Type 0 where
  pub is : bytes ≡ part ++ rest
  pub some : 0 < length part
  pub few : length part ≤ 4080
  pub last : (length part ≡ 4080) ⊎ (rest ≡ [])

-- the page of a number and no other one was written
pub record Sets (before : List (Option Sector)) (page : ℕ) (now : Option Sector) (after : List (Option Sector)) :
    Type 0 where
  pub count : length after ≡ length before
  pub here : page_at after page ≡ now
  pub others : (other : ℕ) → (other ≡ page → ⊥) → page_at after other ≡ page_at before other

-- a page that wasn't in the map is there now, with a part of a record and its next page
pub record PutsLink (before : List (Option Sector)) (next : ℕ) (part : List ℕ) (after : List (Option Sector)) (page : ℕ)
    : Type 0 where
  pub some : 0 < page
  pub none : page_at before page ≡ None
  pub reads : next_in (link_bytes next part) ≡ next
  pub sets : Sets before page (Some (link_bytes next part)) after

-- a page is one of a chain, and this is its next page
pub record LinksTo (pages : List (Option Sector)) (page next : ℕ) : Type 0 where
  pub some : 0 < page
  pub link : IsLink (page_at pages page)
  pub next_is : next ≡ next_at pages page
  pub long : length (part_on (page_at pages page)) ≡ 4080

-- where this is told, the page is none of a chain
abbrev pub NoLink : ℕ → Type 0 → List (Option Sector) → Type 0
NoLink page told pages = told → 0 < page → IsLink (page_at pages page) → ⊥

-- it is, and so many bytes of its part came to the end of a list
pub record AddsPart (pages : List (Option Sector)) (page size : ℕ) (old new : List ℕ) (next : ℕ) : Type 0 where
  pub links : LinksTo pages page next
  pub bytes_are : new ≡ old ++ take size (part_on (page_at pages page))
