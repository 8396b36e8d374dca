-- The next volume, while its blocks are chosen.
use Rattle.std.specs.Prelude.{◌≡◌, ◌⊎◌, ◌<◌, ◌≤◌, ◌/◌, Bool, false, ℕ, List, length, slice_index, slice_index_or, Contains}
use Rattle.std.specs.List.{All}
use Rattle.station.specs.Disk.{Sector}
use Rattle.station.specs.Blocks.{SectorsAre, with_all}
use Rattle.station.specs.declared.blocks.Block.{Block}
use Rattle.pages.specs.Image.{Volume, names, IsPlace, NamesOnce, Reads, IsFree, map_at, map_part, pages_in}
use Rattle.pages.specs.Use.{IsUse, use_after}
use Rattle.pages.specs.Changes.{pages_after}
use Rattle.pages.specs.declared.change.Change.{Change}
use Rattle.pages.specs.declared.draft.UseChange.{UseChange}

-- The sectors that the next volume names: those of v, and free ones below `next`.
pub record NamesSectors (v : Volume) (used : List Bool) (named : List ℕ) (turns : List UseChange) (next : ℕ) : Type 0 where
  pub start : 2 ≤ next
  pub places : (s : ℕ) → Contains named s → IsPlace v.root.sectors s
  pub once : NamesOnce named
  pub fresh : (s : ℕ) → Contains named s → Contains (names v) s ⊎ (s < next)
  pub in_use : IsUse v.root.sectors named (use_after used turns)
  pub turns_low : All (λ (t : UseChange). t.sector < v.root.sectors) turns

-- Pages for these changes stand in blocks for free sectors, and the table names them. A map that none of them changed has its old entries.
pub record IsStaged (v : Volume) (maps table : List ℕ) (changed_maps : List Bool) (blocks : List Block) (changes : List Change) : Type 0 where
  pub maps_count : length maps ≡ length v.root.maps
  pub table_count : length table ≡ length v.table
  pub changed_maps_count : length changed_maps ≡ length v.root.maps
  pub unused : slice_index table 0 ≡ 0
  pub free : SectorsAre (IsFree v) blocks
  pub clean : (page : ℕ) → slice_index_or changed_maps (page / 1024) false ≡ false → slice_index table page ≡ slice_index v.table page
  pub pages : (base : List Sector) → v.root.sectors ≤ length base → Reads base v → pages_in (with_all base blocks) table ≡ pages_after (pages_in base v.table) changes

-- The first map sectors spell the table, and the others are as before.
pub record IsMapped (v : Volume) (maps table : List ℕ) (blocks : List Block) (next : ℕ) : Type 0 where
  pub spelled : (base : List Sector) → v.root.sectors ≤ length base → Reads base v → (i : ℕ) → i < next → map_at (with_all base blocks) (slice_index maps i) ≡ map_part table i
  pub others : (i : ℕ) → next ≤ i → slice_index maps i ≡ slice_index v.root.maps i
