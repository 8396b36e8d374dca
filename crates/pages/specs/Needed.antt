-- How many sectors a commit needs.
use Rattle.std.specs.Prelude.{◌⊎◌, ◌<◌, ◌≤◌, ◌+◌, ◌*◌, ◌/◌, ◌^◌, ◌==◌, ◌&&◌, ◌||◌, not, if◌then◌else◌, Bool, ℕ, zero, suc, List, take, drop, length, slice_index, is_some, count_by, Some, Contains}
use Rattle.station.specs.Disk.{Sector}
use Rattle.std.specs.List.{list_any}
use Rattle.pages.specs.Image.{Volume}
use Rattle.pages.specs.Use.{free_count}
use Rattle.pages.specs.Changes.{mapped_after}
use Rattle.pages.specs.declared.change.Change.{Change}

-- how many pages get bytes
abbrev pub filled_count : List Change → ℕ
filled_count changes = count_by (λ c. is_some c.bytes) changes

-- a page has bytes among these changes
abbrev pub HasBytes : List Change → ℕ → Type 0
HasBytes changes page = (bytes : Sector) × Contains changes (record { page = page; bytes = Some bytes })

-- A page got bytes. Where it had some, no more pages have bytes than before, and each page that had some has some.
pub record Fills (old : List Change) (page : ℕ) (new : List Change) : Type 0 where
  pub again : HasBytes old page → filled_count new ≤ filled_count old
  pub here : HasBytes new page
  pub others : (other : ℕ) → HasBytes old other → HasBytes new other

-- the entry of a page in the map sector of that number changes: the page gets bytes, or loses its sector
abbrev pub alters : Volume → ℕ → Change → Bool
alters v i c = (c.page / 1024 == i) && (is_some c.bytes || not (slice_index v.table c.page == 0))

-- some page of it is in the map after the changes
abbrev pub has_pages : Volume → List Change → ℕ → Bool
has_pages v changes i = list_any (λ here. here) (take 1024 (drop (1024 * i) (mapped_after v.table changes)))

-- it has a sector, and another than before
unfoldable pub is_written : Volume → List Change → ℕ → Bool
is_written v changes i = list_any (alters v i) changes && has_pages v changes i

-- how many of the map sectors below a number are written
abbrev pub written_below : Volume → List Change → ℕ → ℕ
written_below v changes zero = 0
written_below v changes (suc i) = written_below v changes i + (if is_written v changes i then 1 else 0)

-- a sector for each page that gets bytes, and one for each map sector that is written
abbrev pub needed_sectors : Volume → List Change → ℕ
needed_sectors v changes = filled_count changes + written_below v changes (length v.root.maps)

-- too few sectors are free, or no generation is left
abbrev pub LacksSectors : Volume → List Change → Type 0
LacksSectors v changes = (free_count v < needed_sectors v changes) ⊎ (2 ^ 63 ≤ v.root.generation + 1)
