-- Records that are in chains of pages, as recovery finds them.
use Rattle.std.specs.Prelude.{◌≡◌, ◌<◌, ◌++◌, ℕ, Bool, List, [], ◌∷◌, length, take, drop, Option}
use Rattle.byteorder.specs.Endian.{big_number}
use Rattle.station.specs.Disk.{Sector}
use Rattle.btree_check.specs.Walks.{CanMark, Marks}
use Rattle.chains.specs.Chain.{IsLink, page_at, next_at, part_on, Stands, chain_pages, chain_bytes, pages_for}

-- a page is one of a chain, this is its next page, and exactly that page was marked
pub record MarksLink (pages : List (Option Sector)) (page : ℕ) (old new : List Bool) (next : ℕ) : Type 0 where
  pub some : 0 < page
  pub link : IsLink (page_at pages page)
  pub next_is : next ≡ next_at pages page
  pub long : length (part_on (page_at pages page)) ≡ 4080
  pub marks : Marks old (page ∷ []) new

-- it is none of a chain that can be marked
abbrev pub NoMarkedLink : List (Option Sector) → ℕ → List Bool → Type 0
NoMarkedLink pages page old = 0 < page → IsLink (page_at pages page) → CanMark old (page ∷ []) → ⊥

-- a chain stands from this page on, and exactly its pages were marked; and none that can be marked
pub record MarksChain (pages : List (Option Sector)) (count first : ℕ) (old new : List Bool) : Type 0 where
  pub stands : Stands pages count first
  pub marks : Marks old (chain_pages pages count first) new

abbrev pub NoMarkedChain : List (Option Sector) → ℕ → ℕ → List Bool → Type 0
NoMarkedChain pages count first old = Stands pages count first → CanMark old (chain_pages pages count first) → ⊥

-- the first page of the chain that a value names
abbrev pub first_named : List ℕ → ℕ
first_named value = big_number 4 value

-- the value with its record of so many bytes in place, and exactly the pages of its chain were marked; and none that can be
-- marked
pub record ReadsWhole (pages : List (Option Sector)) (size : ℕ) (value whole : List ℕ) (old new : List Bool) : Type 0 where
  pub chain : MarksChain pages (pages_for size) (first_named value) old new
  pub whole_is : whole ≡ take size (chain_bytes pages (pages_for size) (first_named value)) ++ drop 4 value

abbrev pub NoWhole : List (Option Sector) → ℕ → List ℕ → List Bool → Type 0
NoWhole pages size value old = NoMarkedChain pages (pages_for size) (first_named value) old
