-- What a call on a device keeps, said once.
use Rattle.std.specs.Prelude.{◌≡◌, ◌↔◌}
use Rattle.station.specs.State.{SameConsole}
use Rattle.station.specs.Failures.{Blames}
use Rattle.station.specs.declared.device.Device.{Ghosts as Devices}

module _ {D : Type 0} (device : Devices D) where
  -- A call that only reads. Where `blamed` holds, the device failed.
  pub record OnlyReads (blamed : Type 0) (old new : D) : Type 0 where
    pub honest : device.is_honest old ↔ device.is_honest new
    pub sectors : device.sectors new ≡ device.sectors old
    pub failures : Blames blamed (device.failures old) (device.failures new)
    pub state : device.is_honest old → device.state new ≡ device.state old
    pub history : device.is_honest old → device.history new ≡ device.history old

  -- A call that reads and writes, and tells nothing. Where `blamed` holds, the device failed.
  pub record OnlyWrites (blamed : Type 0) (old new : D) : Type 0 where
    pub honest : device.is_honest old ↔ device.is_honest new
    pub sectors : device.sectors new ≡ device.sectors old
    pub failures : Blames blamed (device.failures old) (device.failures new)
    pub console : device.is_honest old → SameConsole (device.state old) (device.state new)
