-- Which files the store holds, and why a change is refused.
use Rattle.std.specs.Prelude.{◌≡◌, ◌⊎◌, ◌<◌, Bool, ℕ, List, length, Ok}
use Rattle.station.specs.Disk.{Disk, Sector}
use Rattle.roots.specs.declared.pair.Roots.{Roots}
use Rattle.roots.specs.Reading.{roots_in}
use Rattle.records.specs.declared.fault.StoreFault.{StoreFault}
use Rattle.records.specs.declared.fault.StoreFault.TheVariants.{Device, Full, Damaged, Memory, Spent, Layout, Old}
use Rattle.records.specs.Files.{Files}
use Rattle.records.specs.Stores.{MakesLong}
use Rattle.half_store.specs.Spelled.{files_bytes}
use Rattle.file_bytes.specs.Stored.{files_of}
use Rattle.half_store.specs.Half.{known_families, Rests}
use Rattle.half_store.specs.Write.{IsFull}
use Rattle.half_store.specs.declared.store.HalfStore.{HalfStore}

-- the files in memory are those on the disk, at rest
pub record Represents (store : HalfStore) (disk : Disk) (files : Files) : Type 0 where
  pub rests : Rests store.sectors store.generation disk files
  pub memory : files_of store.files.items ≡ files

-- The volume in an image lacks room for these files: they don't fit a half of it, are more than 255, or no generation
-- is left.
pub record LacksRoom (image : List Sector) (files : Files) : Type 0 where
  pub roots : Roots
  pub reads : roots_in known_families image ≡ Ok roots
  pub short : IsFull roots.newest.sectors roots.newest.generation (length (files_bytes files)) ⊎ (255 < length files)

-- A change into these files may be refused for want of room, or since no half has a file with long records.
abbrev pub Lacks : StoreFault → List Sector → Bool → List ℕ → Files → Type 0
Lacks Device image is_new name after = ⊥
Lacks Full image is_new name after = LacksRoom image after
Lacks Damaged image is_new name after = ⊥
Lacks Memory image is_new name after = ⊥
Lacks Spent image is_new name after = ⊥
Lacks Layout image is_new name after = ⊥
Lacks Old image is_new name after = MakesLong is_new name after
