-- Whatever a crash leaves holds what the store stands for.
use Rattle.std.specs.Prelude.{List}
use Rattle.std.proofs.Common.{sym, subst}
use Rattle.station.specs.Disk.{Disk, Sector, IsCrashImage}
use Rattle.station.proofs.Crash.{settled_image}
use Rattle.pages.specs.Pages.{map_now, committed_of}
use Rattle.pages.specs.declared.page_map.PageMap.{PageMap}
use Rattle.records.specs.Files.{Files}
use Rattle.volume_format.specs.Volume.{Holds}
use Rattle.alternate_keys.specs.Stands.{Represents}

pub held_law : (pages : PageMap) (disk : Disk) (image : List Sector) (files : Files) → Represents pages disk files → IsCrashImage disk image → Holds image files
held_law pages disk image files stands crash =
    subst (λ (l : List Sector). Holds l files) (sym (settled_image disk.present image (subst (λ (d : Disk). IsCrashImage d image) stands.agrees.committed.settled crash)))
    (map_now pages disk.present, (committed_of pages, stands.agrees.committed.reads, sym stands.still), stands.holds)
