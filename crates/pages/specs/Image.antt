-- What an image holds.
use Rattle.std.specs.Prelude.{◌≡◌, ◌≢◌, ◌⊎◌, ◌<◌, ◌≤◌, ◌*◌, ℕ, zero, suc, List, ◌++◌, map, length, take, drop}
use Rattle.std.specs.Prelude.{slice_index, Option, Some, None, Contains}
use Rattle.station.specs.Disk.{Disk, Sector, sector_at, IsSettled}
use Rattle.pages.specs.Layout.{VolumeRoot, newest, IsForeign, words, zeros}

-- the entries of the map sector with this number
abbrev pub map_at : List Sector → ℕ → List ℕ
map_at image zero = zeros
map_at image (suc m) = words (sector_at image (suc m))

-- the entries of a table that stand in the map of this number
abbrev pub map_part : List ℕ → ℕ → List ℕ
map_part table i = take 1024 (drop (1024 * i) table)

abbrev pub page_at : List Sector → ℕ → Option Sector
page_at image zero = None
page_at image (suc s) = Some (sector_at image (suc s))

abbrev pub pages_in : List Sector → List ℕ → List (Option Sector)
pages_in image table = map (page_at image) table

-- the newest root, and the sector of each page, 0 for none
pub record Volume : Type 0 where
  pub root : VolumeRoot
  pub table : List ℕ

-- the sectors that it names, and zeros
abbrev pub names : Volume → List ℕ
names v = v.root.maps ++ v.table

-- 0, or a sector after the roots
abbrev pub IsPlace : ℕ → ℕ → Type 0
IsPlace sectors s = (s ≡ 0) ⊎ (2 ≤ s) × (s < sectors)

-- no sector is named twice
abbrev pub NamesOnce : List ℕ → Type 0
NamesOnce list = (i j : ℕ) → i < length list → j < length list → slice_index list i ≢ 0
    → slice_index list i ≡ slice_index list j → i ≡ j

-- the maps are these: sectors after the roots, each named once, and none for page 0
pub record Maps (image : List Sector) (v : Volume) : Type 0 where
  pub count : length v.table ≡ 1024 * length v.root.maps
  pub entries : (i : ℕ) → i < length v.root.maps → map_at image (slice_index v.root.maps i) ≡ map_part v.table i
  pub places : (s : ℕ) → Contains (names v) s → IsPlace v.root.sectors s
  pub once : NamesOnce (names v)
  pub unused : slice_index v.table 0 ≡ 0

-- the newest root and its maps are these
pub record Reads (image : List Sector) (v : Volume) : Type 0 where
  pub root : newest image ≡ Some v.root
  pub maps : Maps image v

-- each page by its number, the page of the catalog's root, and the mark, by which the catalog's layout is known
pub record Map : Type 0 where
  pub mark : ℕ
  pub generation : ℕ
  pub catalog : ℕ
  pub pages : List (Option Sector)

abbrev pub map_of : List Sector → Volume → Map
map_of image v = record {
  mark = v.root.mark;
  generation = v.root.generation;
  catalog = v.root.catalog;
  pages = pages_in image v.table;
}

-- the image holds this map
abbrev pub IsImageOf : List Sector → Map → Type 0
IsImageOf image m = (v : Volume) × Reads image v × (map_of image v ≡ m)

-- the image holds no map, and its newest root isn't another format's
pub record IsDamaged (image : List Sector) : Type 0 where
  pub none : (m : Map) → IsImageOf image m → ⊥
  pub own : IsForeign image → ⊥

-- a sector that neither the root nor its maps name
pub record IsFree (v : Volume) (s : ℕ) : Type 0 where
  pub high : 2 ≤ s
  pub low : s < v.root.sectors
  pub unnamed : Contains (names v) s → ⊥

-- the same sectors, except for free ones
pub record KeepsUsed (v : Volume) (base image : List Sector) : Type 0 where
  pub count : length image ≡ length base
  pub each : (s : ℕ) → s < length image → (sector_at image s ≡ sector_at base s) ⊎ IsFree v s

-- nothing waits on the disk, and it holds this volume
pub record IsCommitted (v : Volume) (disk : Disk) : Type 0 where
  pub settled : IsSettled disk
  pub reads : Reads disk.present v
