-- The files in memory were written.
use Rattle.std.specs.Prelude.{◌≡◌, ◌⊎◌, ◌<◌, ℕ, length, Result, Err, OnOk}
use Rattle.station.specs.History.{Through}
use Rattle.station.specs.Blocks.{CrashLeaves}
use Rattle.station.specs.declared.device.Device.{Ghosts as Devices}
use Rattle.records.specs.declared.fault.StoreFault.{StoreFault}
use Rattle.records.specs.declared.fault.StoreFault.TheVariants.{Full}
use Rattle.records.specs.Files.{Files}
use Rattle.records.specs.Stores.{Either}
use Rattle.half_store.specs.Spelled.{files_bytes}
use Rattle.half_store.specs.Half.{Holds}
use Rattle.half_store.specs.Write.{IsFull}
use Rattle.half_store.specs.Stands.{Represents}
use Rattle.half_store.specs.declared.store.HalfStore.{HalfStore}

-- A store of so many sectors and this generation came from the files before to those after: it stands for these, at
-- each moment a crash leaves the ones or the others, and it is full only where they don't fit.
pub record CommitsFiles {D : Type 0} (d : Devices D) {T : Type 0} (result : Result T StoreFault) (n g : ℕ)
    (before after : Files) (old : D) (store : HalfStore) (new : D) : Type 0 where
  pub stands : OnOk result (Represents store (d.state new).disk after)
  pub moments : Through (d.history old) (d.history new) (d.state new)
      (CrashLeaves (d.state old).events (Either Holds before after))
  pub full : result ≡ Err Full → IsFull n g (length (files_bytes after)) ⊎ (255 < length after)
