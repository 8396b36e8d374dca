-- How connectors are kept: as the store is that they stand over.
use Rattle.std.specs.Prelude.{◌≡◌, Bool, ℕ, List}
use Rattle.station.specs.Disk.{Disk, Sector}
use Rattle.records.specs.Files.{Files}
use Rattle.records.specs.declared.fault.StoreFault.{StoreFault}
use Rattle.records.specs.declared.keeps.Keeps.{Ghosts as Keepers}

-- no more is needed, no more is spent, no change is refused for more, and no file is held but the store's
pub record IsOver {S : Type 0} (s : Keepers S) {C : Type 0} (c : Keepers C) (store : S) (all : C) : Type 0 where
  pub needs : c.needs all ≡ s.needs store
  pub spent : c.is_spent all ≡ s.is_spent store
  pub stands : (disk : Disk) (files : Files) → c.stands all disk files → s.stands store disk files
  pub lacks : (fault : StoreFault) (image : List Sector) (is_new : Bool) (name : List ℕ) (before after : Files)
      → c.lacks fault image is_new name before after → s.lacks fault image is_new name before after
  pub holds : (image : List Sector) (files : Files) → c.holds image files → s.holds image files
  pub held : (image : List Sector) (files : Files) → s.holds image files → c.holds image files

-- one more connector, over the same store, which stands for the same files
pub record IsWider {C : Type 0} (c : Keepers C) (old new : C) : Type 0 where
  pub needs : c.needs new ≡ c.needs old
  pub spent : c.is_spent new ≡ c.is_spent old
  pub stands : (disk : Disk) (files : Files) → c.stands old disk files → c.stands new disk files
