-- A volume in memory.
use Rattle.std.specs.List.{All, list_any}
use Rattle.std.specs.Prelude.{◌≡◌, ◌≢◌, ◌⊎◌, ◌<◌, ◌≤◌, ◌+◌, ◌*◌, ◌^◌, ◌/◌, ◌==◌, not, map, replicate, Bool, true}
use Rattle.std.specs.Prelude.{false, ℕ, List, [], ◌∷◌, ◌++◌, length, slice_index, slice_index_or, slice_set, Contains}
use Rattle.station.specs.Disk.{Sector}
use Rattle.station.specs.declared.blocks.Block.{Block}
use Rattle.pages.specs.Layout.{map_count, version_of}
use Rattle.pages.specs.Image.{Volume, names, IsPlace, NamesOnce}
use Rattle.pages.specs.Use.{IsUse, use_after, turns_of, free_count}
use Rattle.pages.specs.Changes.{mapped_after}
use Rattle.pages.specs.Needed.{filled_count, alters}
use Rattle.pages.specs.Draft.{NamesSectors, IsStaged, IsMapped}
pub use Rattle.pages.specs.Runs.{unused_count, unused_below}
use Rattle.pages.specs.declared.volume.VolumeMap.{VolumeMap}
use Rattle.pages.specs.declared.draft.Draft.{Draft}
use Rattle.pages.specs.declared.draft.UseChange.{UseChange}
use Rattle.pages.specs.declared.change.Change.{Change}

abbrev pub volume_of : VolumeMap → Volume
volume_of m = record {
  root = record {
    mark = version_of m.mark;
    generation = m.generation;
    sectors = m.sectors;
    catalog = m.catalog;
    maps = m.maps.items;
  };
  table = m.table;
}

-- what is named is within the volume, each sector once, and the use is right
pub record IsSound (m : VolumeMap) : Type 0 where
  pub generation : m.generation < 2 ^ 63
  pub least : 1024 ≤ m.sectors
  pub most : m.sectors ≤ 921600
  pub maps_count : length m.maps.items ≡ map_count m.sectors
  pub count : length m.table ≡ 1024 * length m.maps.items
  pub places : (s : ℕ) → Contains (names (volume_of m)) s → IsPlace m.sectors s
  pub once : NamesOnce (names (volume_of m))
  pub unused : slice_index m.table 0 ≡ 0
  pub in_use : IsUse m.sectors (names (volume_of m)) m.used
  pub free : m.free ≡ unused_count m.used

-- the next volume after v, with these changes
pub record IsDraft (v : Volume) (m : VolumeMap) (d : Draft) (changes : List Change) : Type 0 where
  pub in_use : IsUse v.root.sectors (names v) m.used
  pub some : 0 < v.root.sectors
  pub staged : IsStaged v m.maps.items m.table d.changed_maps.items d.blocks.items changes
  pub naming : NamesSectors v m.used (m.maps.items ++ m.table) d.turns.items d.next

-- the first maps of it are on their way too
pub record IsMappedDraft (v : Volume) (m : VolumeMap) (d : Draft) (changes : List Change) (next : ℕ) : Type 0 where
  pub draft : IsDraft v m d changes
  pub mapped : IsMapped v m.maps.items m.table d.blocks.items next

-- each block's sector is after those of the blocks before it
abbrev pub AreAscending : List Block → Type 0
AreAscending blocks = (i j : ℕ) (d e : Block) → i < j → j < length blocks
    → (slice_index_or blocks i d).sector < (slice_index_or blocks j e).sector

-- The blocks of a commit of so many changes may begin there: at the first sector after the roots, or where from there
-- on at least two sectors for each change aren't marked as used.
pub record MayStart (used : List Bool) (changes start : ℕ) : Type 0 where
  pub some : 2 ≤ start
  pub room : (start ≡ 2) ⊎ (unused_below used start + 2 * changes ≤ unused_count used)

-- blocks were placed in ascending sectors, one in each sector from `from` on and below `next` that isn't marked as used
pub record IsTaken (used : List Bool) (from next : ℕ) (blocks : List Block) : Type 0 where
  pub start : 0 < next
  pub count : unused_below used next ≡ unused_below used from + length blocks
  pub low : All (λ (b : Block). b.sector < next) blocks
  pub ascending : AreAscending blocks

-- There are as many blocks as these changes with bytes, and so many maps. The table has the pages after the changes.
pub record IsCounted (v : Volume) (m : VolumeMap) (d : Draft) (changes : List Change) (maps : ℕ) : Type 0 where
  pub free : unused_count m.used ≡ free_count v
  pub taken : IsTaken m.used d.start d.next d.blocks.items
  pub blocks : length d.blocks.items ≡ filled_count changes + maps
  pub pages : map (λ s. not (s == 0)) m.table ≡ mapped_after v.table changes
  pub changed_maps : (i : ℕ) → i < length d.changed_maps.items
      → slice_index_or d.changed_maps.items i false ≡ list_any (alters v i) changes

-- nothing but the two lists of names changed, and not their lengths
pub record SameSize (old new : VolumeMap) : Type 0 where
  pub mark : new.mark ≡ old.mark
  pub generation : new.generation ≡ old.generation
  pub sectors : new.sectors ≡ old.sectors
  pub catalog : new.catalog ≡ old.catalog
  pub maps : length new.maps.items ≡ length old.maps.items
  pub table : length new.table ≡ length old.table
  pub used : new.used ≡ old.used
  pub free : new.free ≡ old.free

-- a block for a sector that isn't used, after the others
pub record PlacesBlock (used : List Bool) (old new : Draft) (sector : ℕ) (bytes : Sector) : Type 0 where
  pub later : old.next ≤ sector
  pub low : sector < length used
  pub first : (s : ℕ) → old.next ≤ s → s < sector → slice_index_or used s false ≡ true
  pub free : slice_index_or used sector false ≡ false
  pub blocks : new.blocks.items ≡ old.blocks.items ++ record { sector = sector; bytes = bytes } ∷ []
  pub changed_maps : new.changed_maps ≡ old.changed_maps
  pub turns : new.turns ≡ old.turns
  pub start : new.start ≡ old.start
  pub next : new.next ≡ sector + 1

-- a page has another sector, or none
pub record SetsPage (m after : VolumeMap) (old new : Draft) (page sector : ℕ) : Type 0 where
  pub size : SameSize m after
  pub maps : after.maps ≡ m.maps
  pub table : after.table ≡ slice_set m.table page sector
  pub blocks : new.blocks ≡ old.blocks
  pub changed_maps : new.changed_maps.items ≡ slice_set old.changed_maps.items (page / 1024) true
  pub turns : new.turns.items ≡ old.turns.items ++ turns_of (slice_index m.table page) sector
  pub start : new.start ≡ old.start
  pub next : new.next ≡ old.next

-- a map has another sector, or none
pub record SetsMap (m after : VolumeMap) (old new : Draft) (map sector : ℕ) : Type 0 where
  pub size : SameSize m after
  pub maps : after.maps.items ≡ slice_set m.maps.items map sector
  pub table : after.table ≡ m.table
  pub blocks : new.blocks ≡ old.blocks
  pub changed_maps : new.changed_maps ≡ old.changed_maps
  pub turns : new.turns.items ≡ old.turns.items ++ turns_of (slice_index m.maps.items map) sector
  pub start : new.start ≡ old.start
  pub next : new.next ≡ old.next

-- a page has no sector
pub data ReleasesPage (m after : VolumeMap) (old new : Draft) (page : ℕ) : Type 0 where
  HadNone : slice_index m.table page ≡ 0 → after ≡ m → new ≡ old → ReleasesPage m after old new page
  HadOne : slice_index m.table page ≢ 0 → SetsPage m after old new page 0 → ReleasesPage m after old new page

-- a draft of a volume with so many maps, with nothing in it, whose blocks begin there
pub record IsFresh (maps first : ℕ) (d : Draft) : Type 0 where
  pub blocks : d.blocks.items ≡ []
  pub changed_maps : d.changed_maps.items ≡ replicate maps false
  pub turns : d.turns.items ≡ []
  pub start : d.start ≡ first
  pub next : d.next ≡ first

-- the next generation, with this mark and this page of the catalog's root
pub record IsNext (old new : VolumeMap) (version page : ℕ) : Type 0 where
  pub mark : version_of new.mark ≡ version
  pub generation : new.generation ≡ old.generation + 1
  pub sectors : new.sectors ≡ old.sectors
  pub catalog : new.catalog ≡ page
  pub maps : length new.maps.items ≡ length old.maps.items
  pub table : length new.table ≡ length old.table
  pub used : new.used ≡ old.used
  pub free : new.free ≡ old.free

-- sound, once these turns are marked
pub record IsSoundAfter (m : VolumeMap) (turns : List UseChange) : Type 0 where
  pub generation : m.generation < 2 ^ 63
  pub least : 1024 ≤ m.sectors
  pub most : m.sectors ≤ 921600
  pub maps_count : length m.maps.items ≡ map_count m.sectors
  pub count : length m.table ≡ 1024 * length m.maps.items
  pub places : (s : ℕ) → Contains (names (volume_of m)) s → IsPlace m.sectors s
  pub once : NamesOnce (names (volume_of m))
  pub unused : slice_index m.table 0 ≡ 0
  pub in_use : IsUse m.sectors (names (volume_of m)) (use_after m.used turns)
  pub turns_low : All (λ (t : UseChange). t.sector < length m.used) turns
  pub free : m.free ≡ unused_count m.used
