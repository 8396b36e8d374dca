-- The next volume, before it is on the disk.
use Rattle.std.specs.Prelude.{◌≡◌, ◌≤◌, ◌+◌, List, length}
use Rattle.station.specs.Disk.{Sector}
use Rattle.station.specs.Blocks.{SectorsAre, with_all}
use Rattle.station.specs.declared.blocks.Block.{Block}
use Rattle.pages.specs.Image.{Volume, Reads, Maps, IsFree, pages_in}
use Rattle.pages.specs.Changes.{pages_after}
use Rattle.pages.specs.declared.change.Change.{Change}

-- Blocks for free sectors of v, after which the maps of w stand there, and its pages are those of v after the changes.
pub record IsPlan (v w : Volume) (blocks : List Block) (changes : List Change) : Type 0 where
  pub mark : v.root.mark ≤ w.root.mark
  pub generation : w.root.generation ≡ v.root.generation + 1
  pub sectors : w.root.sectors ≡ v.root.sectors
  pub free : SectorsAre (IsFree v) blocks
  pub maps : (base : List Sector) → v.root.sectors ≤ length base → Reads base v → Maps (with_all base blocks) w
  pub pages : (base : List Sector) → v.root.sectors ≤ length base → Reads base v
      → pages_in (with_all base blocks) w.table ≡ pages_after (pages_in base v.table) changes
