-- Which files the store holds, and why a change is refused.
use Rattle.std.specs.Prelude.{◌≡◌, ◌<◌, ◌≤◌, ◌⊎◌, ◌+◌, ◌*◌, ◌^◌, Bool, ℕ, List, [], length, Option, Some, None}
use Rattle.std.specs.Prelude.{if◌then◌else◌}
use Rattle.std.specs.Prelude.{Result, IfOk}
use Rattle.station.specs.Disk.{Disk, Sector}
use Rattle.station.specs.declared.device.Device.{Ghosts as Devices}
use Rattle.pages.specs.Layout.{map_count}
use Rattle.pages.specs.Image.{Volume, Reads, map_of}
use Rattle.pages.specs.Use.{free_count}
use Rattle.pages.specs.Pages.{map_now, committed_of, changed_pages_of, Agrees}
use Rattle.pages.specs.declared.page_map.PageMap.{PageMap}
use Rattle.chains.specs.Chain.{pages_for}
use Rattle.records.specs.declared.fault.StoreFault.{StoreFault}
use Rattle.records.specs.declared.fault.StoreFault.TheVariants.{Device, Full, Damaged, Memory, Spent, Layout, Old}
use Rattle.records.specs.Files.{File, Files, file_at}
use Rattle.records.specs.Stores.{MakesLong}
use Rattle.volume_format.specs.Chained.{chained_bytes}
use Rattle.volume_format.specs.Volume.{MapHolds, Holds}
use Rattle.alternate_keys.specs.Notes.{AreNotesOf}
use Rattle.alternate_keys.specs.Opened.{OpenedVolume}

-- over this disk the pages hold these files, and nothing waits for a commit
pub record Represents (pages : PageMap) (disk : Disk) (files : Files) : Type 0 where
  pub agrees : Agrees pages disk
  pub still : map_now pages disk.present ≡ map_of disk.present (committed_of pages)
  pub rested : changed_pages_of pages ≡ []
  pub holds : MapHolds (map_now pages disk.present) files

-- over this disk the store's pages hold these files, and what it notes is true of them
pub record IsStoreOf (store : OpenedVolume) (disk : Disk) (files : Files) : Type 0 where
  pub represents : Represents store.pages disk files
  pub notes : AreNotesOf store.notes (map_now store.pages disk.present)

-- where the image of the device holds files, the store that was opened stands for them
abbrev pub StandsForFiles : {D : Type 0} → Devices D → Result OpenedVolume StoreFault → D → D → Type 0
StandsForFiles d result old new = d.is_honest old → (files : Files) → Holds (d.state old).disk.present files
    → IfOk result (λ store. IsStoreOf store (d.state new).disk files)

-- how many alternate keys the file has
abbrev pub keys_of : Option File → ℕ
keys_of None = 0
keys_of (Some file) = length file.spec.alternates

-- how many pages the chain of each of its records has
abbrev pub record_pages : Option File → ℕ
record_pages None = 0
record_pages (Some file) = pages_for (chained_bytes file.spec)

-- how many free sectors are enough for a change of a file; a new file may need all sectors of the map besides
abbrev pub enough : Volume → Bool → Option File → ℕ
enough volume is_new file =
    200 * (keys_of file + 2) + 4 * record_pages file + (if is_new then map_count volume.root.sectors else 0)

-- too few sectors are free, the files are more than 255, or no generation is left
abbrev pub LacksSpace : Volume → Bool → List ℕ → Files → Type 0
LacksSpace volume is_new name after =
    (free_count volume < enough volume is_new (file_at name after)) ⊎ (255 < length after)
    ⊎ (2 ^ 63 ≤ volume.root.generation + 1)

-- The volume in an image lacks room for these files after a change of the file of this name.
pub record LacksRoom (image : List Sector) (is_new : Bool) (name : List ℕ) (after : Files) : Type 0 where
  pub volume : Volume
  pub reads : Reads image volume
  pub short : LacksSpace volume is_new name after

-- The volume in an image has the first mark, and the file of this name is made with long records.
pub record LacksMark (image : List Sector) (is_new : Bool) (name : List ℕ) (after : Files) : Type 0 where
  pub volume : Volume
  pub reads : Reads image volume
  pub first : volume.root.mark ≡ 0
  pub long : MakesLong is_new name after

-- A change into these files may be refused for want of room, or for the volume's mark.
abbrev pub Lacks : StoreFault → List Sector → Bool → List ℕ → Files → Type 0
Lacks Device image is_new name after = ⊥
Lacks Full image is_new name after = LacksRoom image is_new name after
Lacks Damaged image is_new name after = ⊥
Lacks Memory image is_new name after = ⊥
Lacks Spent image is_new name after = ⊥
Lacks Layout image is_new name after = ⊥
Lacks Old image is_new name after = LacksMark image is_new name after
