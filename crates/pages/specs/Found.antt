-- A root that was read, and the table that its maps hold.
use Rattle.std.specs.Prelude.{◌≡◌, ◌<◌, ◌≤◌, ◌*◌, ◌^◌, ◌++◌, ℕ, Bool, List, length, slice_index}
use Rattle.station.specs.Disk.{Sector}
use Rattle.pages.specs.Layout.{VolumeRoot, map_count}
use Rattle.pages.specs.Image.{map_at, map_part}
use Rattle.pages.specs.Marked.{IsMarked}
use Rattle.pages.specs.declared.root.FoundRoot.{FoundRoot}

abbrev pub found_root : FoundRoot → VolumeRoot
found_root r =
    record { mark = r.mark; generation = r.generation; sectors = r.sectors; catalog = r.catalog; maps = r.maps.items }

-- within the bounds of a volume, on a device of so many sectors, with one of the two marks
pub record IsFoundWithin (count : ℕ) (r : FoundRoot) : Type 0 where
  pub mark : r.mark < 2
  pub generation : r.generation < 2 ^ 63
  pub least : 1024 ≤ r.sectors
  pub most : r.sectors ≤ 921600
  pub there : r.sectors ≤ count
  pub maps : length r.maps.items ≡ map_count r.sectors

-- the table of a root that was read, and the marks of the sectors that both name
pub record IsTable (r : FoundRoot) (table : List ℕ) (used : List Bool) : Type 0 where
  pub count : length table ≡ 1024 * length r.maps.items
  pub marked : IsMarked (r.maps.items ++ table) used
  pub all : length used ≡ r.sectors
  pub first : slice_index table 0 ≡ 0

-- the map sectors of an image hold the table
abbrev pub HoldsMaps : List Sector → FoundRoot → List ℕ → Type 0
HoldsMaps image r table = (i : ℕ) → i < length r.maps.items
    → map_at image (slice_index r.maps.items i) ≡ map_part table i
