-- Whatever a crash leaves holds what the store stands for.
use Rattle.std.specs.Prelude.{List}
use Rattle.std.proofs.Common.{sym, subst}
use Rattle.station.specs.Disk.{Disk, Sector, IsCrashImage}
use Rattle.station.proofs.Crash.{settled_image}
use Rattle.records.specs.Files.{Files}
use Rattle.half_store.specs.Half.{Holds}
use Rattle.half_store.specs.Stands.{Represents}
use Rattle.half_store.specs.declared.store.HalfStore.{HalfStore}

pub held_law : (store : HalfStore) (disk : Disk) (image : List Sector) (files : Files) → Represents store disk files
    → IsCrashImage disk image → Holds image files
held_law store disk image files stands crash = subst (λ (l : List Sector). Holds l files)
    (sym (settled_image disk.present image (subst (λ (d : Disk). IsCrashImage d image) stands.rests.settled crash)))
    (store.sectors, store.generation, stands.rests.holds)
