-- A volume gets the second mark.
use Rattle.std.specs.Prelude.{◌≡◌, ◌<◌, ◌≤◌, ◌⊎◌, ◌+◌, ◌*◌, ◌^◌, ℕ, List, map, length, Result, IfErr, OnOk, ⊤}
use Rattle.std.specs.List.{All}
use Rattle.station.specs.Disk.{Sector, IsCrashImage}
use Rattle.station.specs.State.{State}
use Rattle.station.specs.Blocks.{CrashLeaves}
use Rattle.station.specs.History.{EachImage}
use Rattle.station.specs.declared.device.Device.{Ghosts as Devices}
use Rattle.pages.specs.Layout.{IsForeign, map_count}
use Rattle.pages.specs.Image.{Volume, Map, Reads}
use Rattle.pages.specs.Use.{free_count}
use Rattle.btree_pages.specs.declared.row_layout.Kind.TheVariants.{Leaf}
use Rattle.btree_pages.specs.Node.{Node}
use Rattle.btree.specs.Builds.{IsLeafOf, rows_of_nodes}
use Rattle.btree.specs.Entries.{entries_of_rows}
use Rattle.records.specs.declared.fault.StoreFault.{StoreFault}
use Rattle.records.specs.declared.fault.StoreFault.TheVariants.{Device, Full, Damaged, Memory, Spent, Layout, Old}
use Rattle.records.specs.Files.{Files}
use Rattle.volume_format.specs.Catalog.{catalog_layout}
use Rattle.volume_format.specs.Volume.{FileTrees, Holds, catalog_entry}
use Rattle.alternate_keys.specs.Opened.{HoldsNone, FailsWith, IfForeign, OnHeldFiles, PassesThrough, SyncsAtMost}

-- the newest root in the image has this mark of a volume of pages
abbrev pub HasMark : ℕ → List Sector → Type 0
HasMark mark image = (v : Volume) × Reads image v × (v.root.mark ≡ mark)

-- where the device is honest, and its image has this mark
abbrev pub IfMarked : {D : Type 0} → Devices D → D → ℕ → Type 0 → Type 0
IfMarked d now mark claim = d.is_honest now → HasMark mark (d.state now).disk.present → claim

-- it has the second mark, and holds these files
abbrev pub IsMigrated : Files → List Sector → Type 0
IsMigrated files image = HasMark 1 image × Holds image files

-- a map, with this mark
abbrev pub with_mark : ℕ → Map → Map
with_mark mark m = record { mark = mark; generation = m.generation; catalog = m.catalog; pages = m.pages }

-- nothing was shown, and what a crash leaves was possible before, or holds these files
abbrev pub IsMigrating : State → Files → State → Type 0
IsMigrating old files state = CrashLeaves old.events (λ image. IsCrashImage old.disk image ⊎ Holds image files) state

-- The volume has the first mark. Fewer than nine sectors are free besides all sectors of the map, or no generation is
-- left.
pub record LacksRoomToMigrate (image : List Sector) : Type 0 where
  pub volume : Volume
  pub reads : Reads image volume
  pub first : volume.root.mark ≡ 0
  pub short : (free_count volume < 9 + map_count volume.root.sectors) ⊎ (2 ^ 63 ≤ volume.root.generation + 1)

-- What a refusal says of the image: `Device` and `Memory` say nothing of it, and `Spent` and `Old` don't come.
abbrev pub IsMigrateRefusal : List Sector → StoreFault → Type 0
IsMigrateRefusal image Device = ⊤
IsMigrateRefusal image Full = LacksRoomToMigrate image
IsMigrateRefusal image Damaged = HoldsNone image
IsMigrateRefusal image Memory = ⊤
IsMigrateRefusal image Spent = ⊥
IsMigrateRefusal image Layout = IsForeign image
IsMigrateRefusal image Old = ⊥

-- What giving a volume the second mark does to the device.
module _ {D : Type 0} (d : Devices D) where
  -- Of the files that its image holds: at each moment a crash leaves what was possible before, or these files.
  abbrev pub LeavesSameFiles : D → D → Type 0
  LeavesSameFiles old new = OnHeldFiles d old (λ files. PassesThrough d old new (IsMigrating (d.state old) files))

  -- After `Ok` each crash leaves them on a volume with the second mark.
  abbrev pub MigratesFiles : {T : Type 0} → D → D → Result T StoreFault → Type 0
  MigratesFiles old new result =
      OnHeldFiles d old (λ files. OnOk result (EachImage (IsMigrated files) (d.state new)))

  -- The other store's volume is refused with `Layout`, and is synced at most.
  abbrev pub OnlyOpensForeign : {T : Type 0} → D → D → Result T StoreFault → Type 0
  OnlyOpensForeign old new result = IfForeign d old (FailsWith Layout result × SyncsAtMost d old new)

  -- Each refusal says what it means of the present image.
  abbrev pub RefusesToMigrate : {T : Type 0} → D → Result T StoreFault → Type 0
  RefusesToMigrate old result = d.is_honest old → IfErr result (IsMigrateRefusal (d.state old).disk.present)

-- the leaves of a catalog on a volume with the second mark
pub record AreCatalogLeaves (leaves : List Node) : Type 0 where
  pub each : All (IsLeafOf (catalog_layout 1)) leaves
  pub few : length leaves ≤ 8

-- so many rows: full leaves of 33 rows each, and one that has the rest
pub record AreFilled (n : ℕ) (leaves : List Node) (leaf : Node) : Type 0 where
  pub each : All (IsLeafOf (catalog_layout 1)) leaves
  pub like : leaf.layout ≡ catalog_layout 1
  pub kind : leaf.kind ≡ Leaf
  pub fits : length leaf.rows ≤ 33
  pub count : 33 * length leaves + length leaf.rows ≡ n

-- they list these files with the numbers of their rows
abbrev pub ListsCounted : List FileTrees → List Node → Type 0
ListsCounted kept leaves = entries_of_rows (catalog_layout 1) (rows_of_nodes leaves) ≡ map (catalog_entry 1) kept
