-- Why a command on a volume is refused, and the number that the product prints.
use Rattle.std.specs.Prelude.{ℕ, ⊤}
use Rattle.records.specs.declared.fault.StoreFault.{StoreFault}
use Rattle.records.specs.declared.fault.StoreFault.TheVariants as store
use Rattle.volume_commands.specs.declared.volume_error.VolumeError.{VolumeError}
use Rattle.volume_commands.specs.declared.volume_error.VolumeError.TheVariants.{Device, Output, Damaged, Memory}

abbrev pub number_of : VolumeError → ℕ
number_of Device = 80
number_of Output = 80
number_of Damaged = 82
number_of Memory = 83

-- Recovery reports `Device`, `Memory` and `Damaged` alone on an honest device.
abbrev pub error_of : StoreFault → VolumeError
error_of store.Device = Device
error_of store.Full = Damaged
error_of store.Damaged = Damaged
error_of store.Memory = Memory
error_of store.Spent = Damaged
error_of store.Layout = Damaged
error_of store.Old = Damaged

-- the writer failed, or memory ran out
abbrev pub IsWriteCause : VolumeError → Type 0
IsWriteCause Device = ⊥
IsWriteCause Output = ⊤
IsWriteCause Damaged = ⊥
IsWriteCause Memory = ⊤

-- the device failed, or memory ran out
abbrev pub IsReadFailure : VolumeError → Type 0
IsReadFailure Device = ⊤
IsReadFailure Output = ⊥
IsReadFailure Damaged = ⊥
IsReadFailure Memory = ⊤

-- the device, the volume or memory
abbrev pub IsReadError : VolumeError → Type 0
IsReadError Device = ⊤
IsReadError Output = ⊥
IsReadError Damaged = ⊤
IsReadError Memory = ⊤
