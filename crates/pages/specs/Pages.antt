-- What the user of the pages sees.
use Rattle.std.specs.Prelude.{◌≡◌, ◌≢◌, ◌⊎◌, ◌<◌, ◌≤◌, ◌+◌, ◌*◌, ◌^◌, Bool, false, ℕ, List, [], length, Option, None}
use Rattle.std.specs.Prelude.{slice_index_or}
use Rattle.station.specs.Disk.{Disk, Sector}
use Rattle.pages.specs.Layout.{map_count, version_of}
use Rattle.pages.specs.Image.{Volume, Map, IsImageOf, pages_in, IsCommitted}
use Rattle.pages.specs.Changes.{pages_after, changed_pages}
use Rattle.pages.specs.Use.{free_count}
use Rattle.pages.specs.Needed.{needed_sectors, filled_count, Fills}
use Rattle.pages.specs.Volumes.{volume_of}
use Rattle.pages.specs.Cache.{IsCacheOf}
use Rattle.lru.specs.LruCache.{LruCache}
use Rattle.pages.specs.declared.page_map.PageMap.{PageMap}

-- the volume of the last commit
abbrev pub committed_of : PageMap → Volume
committed_of p = volume_of p.volume

-- the map, over the image of the last commit, with what was changed since
abbrev pub map_now : PageMap → List Sector → Map
map_now p image = record {
  mark = version_of p.mark;
  generation = p.volume.generation;
  catalog = p.catalog;
  pages = pages_after (pages_in image p.volume.table) p.changes.items;
}

-- the page of that number, or none
abbrev pub page_of : Map → ℕ → Option Sector
page_of m page = slice_index_or m.pages page None

-- the pages that were changed since the last commit
abbrev pub changed_pages_of : PageMap → List ℕ
changed_pages_of p = changed_pages p.changes.items

-- how many of them have bytes: those that weren't released
abbrev pub filled_of : PageMap → ℕ
filled_of p = filled_count p.changes.items

-- A page got bytes. Where it had been given some since the last commit, no more pages have some than before.
abbrev pub FillsPage : PageMap → PageMap → ℕ → Type 0
FillsPage old new page = Fills old.changes.items page new.changes.items

abbrev pub catalog_of : PageMap → ℕ
catalog_of p = p.catalog

-- the mark of the next commit: 0 for the first mark of a volume of pages, 1 for the second
abbrev pub mark_of : PageMap → ℕ
mark_of p = version_of p.mark

abbrev pub is_spent : PageMap → Bool
is_spent p = p.spent

-- the generation of the last commit
abbrev pub generation_of : PageMap → ℕ
generation_of p = p.volume.generation

-- how many sectors the volume has, and how many page numbers
abbrev pub sectors_of : PageMap → ℕ
sectors_of p = p.volume.sectors

abbrev pub page_count : PageMap → ℕ
page_count p = length p.volume.table

-- a page number from 1 on
abbrev pub IsPage : PageMap → ℕ → Type 0
IsPage p page = (0 < page) × (page < page_count p)

-- the pages in memory that weren't changed, the most recently used first, and how many there may be
abbrev pub cache_of : PageMap → LruCache ℕ Sector
cache_of p = p.cache

-- the disk is as the last commit left it, and so are the pages of the cache
pub record Agrees (p : PageMap) (disk : Disk) : Type 0 where
  pub committed : IsCommitted (committed_of p) disk
  pub cache : IsCacheOf (pages_in disk.present p.volume.table) (changed_pages_of p) p.cache.entries

-- each page number from 1 on is in the map
abbrev pub HasEachPage : PageMap → Type 0
HasEachPage p = (image : List Sector) (page : ℕ) → IsPage p page → page_of (map_now p image) page ≢ None

-- how many sectors the next commit needs
abbrev pub needed_of : PageMap → ℕ
needed_of p = needed_sectors (committed_of p) p.changes.items

-- a page, the page of the catalog's root, or the mark was changed
abbrev pub HasChanges : PageMap → Type 0
HasChanges p = (changed_pages_of p ≡ []) × (p.catalog ≡ p.volume.catalog) × (mark_of p ≡ version_of p.volume.mark)
    → ⊥

-- the next commit writes, and too few sectors are free for it, or no generation is left
abbrev pub IsFull : PageMap → Type 0
IsFull p = HasChanges p × ((free_count (committed_of p) < needed_of p) ⊎ (2 ^ 63 ≤ generation_of p + 1))

-- the map of the next generation
abbrev pub next_generation : Map → Map
next_generation m = record { mark = m.mark; generation = m.generation + 1; catalog = m.catalog; pages = m.pages }

-- one generation or another of the same pages, with the same mark
pub record SamePages (m n : Map) : Type 0 where
  pub mark : n.mark ≡ m.mark
  pub catalog : n.catalog ≡ m.catalog
  pub pages : n.pages ≡ m.pages

-- what is committed is the same, the mark of the next commit, and what is spent
pub record SameCommitted (old new : PageMap) : Type 0 where
  pub volume : new.volume ≡ old.volume
  pub mark : mark_of new ≡ mark_of old
  pub spent : new.spent ≡ old.spent

-- what a call that only reads leaves: the map, what was changed of it, and what is committed
pub record IsUnchanged (old new : PageMap) : Type 0 where
  pub map : (image : List Sector) → map_now new image ≡ map_now old image
  pub changed_pages : changed_pages_of new ≡ changed_pages_of old
  pub filled : filled_of new ≡ filled_of old
  pub committed : SameCommitted old new

-- what each call keeps but a commit: what is committed, the page of the catalog's root, and what the disk and the cache
-- agree on
pub record KeepsCommitted (old new : PageMap) : Type 0 where
  pub committed : SameCommitted old new
  pub catalog : catalog_of new ≡ catalog_of old
  pub agrees : (disk : Disk) → Agrees old disk → Agrees new disk

-- a commit needs at most two sectors for each page that was changed
abbrev pub FewNeeded : Type 0
FewNeeded = (p : PageMap) → needed_of p ≤ 2 * length (changed_pages_of p)

-- it needs at most one for each page that has bytes, and the map's sectors; no more pages have bytes than were changed
abbrev pub NeededBy : Type 0
NeededBy = (p : PageMap) → is_spent p ≡ false → (needed_of p ≤ filled_of p + map_count (sectors_of p))
    × (filled_of p ≤ length (changed_pages_of p))

-- so too few sectors are free only where fewer than that are
abbrev pub ShortBy : Type 0
ShortBy = (p : PageMap) → is_spent p ≡ false → IsFull p
    → (free_count (committed_of p) < filled_of p + map_count (sectors_of p)) ⊎ (2 ^ 63 ≤ generation_of p + 1)

-- a map that an image holds is within the bounds of a volume
abbrev pub MapBounds : Type 0
MapBounds = (image : List Sector) (m : Map) → IsImageOf image m → (m.generation < 2 ^ 63) × (length m.pages ≤ 921600)

-- and so is that of an opened volume
abbrev pub OpenBounds : Type 0
OpenBounds = (p : PageMap) (image : List Sector) → is_spent p ≡ false
    → ((map_now p image).generation < 2 ^ 63) × (length (map_now p image).pages ≤ 921600)

-- where each page number is used, fewer sectors are free than pages were changed
abbrev pub FewFree : Type 0
FewFree = (p : PageMap) → is_spent p ≡ false → HasEachPage p
    → free_count (committed_of p) < length (changed_pages_of p)
