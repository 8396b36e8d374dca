-- The cache of pages as committed.
use Rattle.std.specs.Prelude.{◌≡◌, ◌⊎◌, ℕ, List, Bool, false, nat_eq, Option, Some, None, IsSome, slice_get, slice_index_or, Contains}
use Rattle.std.specs.Map.{lookup, remove_entry}
use Rattle.std.specs.Option.{option_map_or}
use Rattle.station.specs.Disk.{Sector}
use Rattle.lru.specs.LruCache.{LruCache, lru_cache, promoted, put_entries}
use Rattle.pages.specs.declared.change.Change.{Change}

-- each entry is the page of its number among these, and none is of a page that was changed
pub record IsCacheOf (pages : List (Option Sector)) (changed : List ℕ) (entries : List (ℕ × Sector)) : Type 0 where
  pub right : (e : ℕ × Sector) → Contains entries e → slice_index_or pages e.0 None ≡ Some e.1
  pub unchanged : (e : ℕ × Sector) → Contains entries e → Contains changed e.0 → ⊥

-- whether the most recently used page has this number
abbrev pub is_first : ℕ → List (ℕ × Sector) → Bool
is_first page entries = option_map_or (λ e. nat_eq page e.0) (slice_get entries 0) false

-- without a page
abbrev pub cache_without : ℕ → LruCache ℕ Sector → LruCache ℕ Sector
cache_without page cache = lru_cache (remove_entry (nat_eq page) cache.entries) cache.cap

-- What becomes of the cache where a page is asked for, with this answer: a page that is there becomes the most recently used one.
-- A page that isn't there stays out, or comes in as the most recently used one.
pub data Recalls (page : ℕ) (answer : Option Sector) (old new : LruCache ℕ Sector) : Type 0 where
  Hit : IsSome (lookup (nat_eq page) old.entries) → new ≡ lru_cache (promoted (nat_eq page) old.entries) old.cap → Recalls page answer old new
  StaysOut : lookup (nat_eq page) old.entries ≡ None → new ≡ old → Recalls page answer old new
  ComesIn : (bytes : Sector) → lookup (nat_eq page) old.entries ≡ None → answer ≡ Some bytes → new ≡ lru_cache (put_entries nat_eq old page bytes) old.cap → Recalls page answer old new

-- a page comes in as the most recently used one, or stays out
abbrev pub CachesPage : ℕ → Sector → LruCache ℕ Sector → LruCache ℕ Sector → Type 0
CachesPage page bytes old new = (new ≡ old) ⊎ (new ≡ lru_cache (put_entries nat_eq old page bytes) old.cap)

-- a page comes in, with some bytes, or stays out
abbrev pub Loads : ℕ → LruCache ℕ Sector → LruCache ℕ Sector → Type 0
Loads page old new = (bytes : Sector) × CachesPage page bytes old new

-- Pages with these new bytes come in or stay out: what is there then was there, or is one of them.
pub record KeepsChanges (changes : List Change) (old new : LruCache ℕ Sector) : Type 0 where
  pub capacity : new.cap ≡ old.cap
  pub entries : (e : ℕ × Sector) → Contains new.entries e → Contains old.entries e ⊎ ((c : Change) × Contains changes c × (c.page ≡ e.0) × (c.bytes ≡ Some e.1))

-- The pages that were changed come in or stay out: what is there then was there, or is a page of the map that was changed.
pub record Gathers (changed : List ℕ) (pages : List (Option Sector)) (old new : LruCache ℕ Sector) : Type 0 where
  pub capacity : new.cap ≡ old.cap
  pub entries : (e : ℕ × Sector) → Contains new.entries e → Contains old.entries e ⊎ (Contains changed e.0 × (slice_index_or pages e.0 None ≡ Some e.1))
