-- What is so after a run.
use Rattle.std.specs.Prelude.{◌≡◌, ℕ, List, Result, Ok, Err}
use Rattle.station.specs.Failures.{Blames}
use Rattle.data_image.specs.Faults as image
use Rattle.data_image.specs.declared.fault.ImageError.{ImageError}
use Rattle.data_image.specs.declared.fault.ImageError.TheVariants as in_image
use Rattle.machine.specs.declared.ended.Ended.{Ended as MachineEnded}
use Rattle.machine.specs.declared.ended.Ended.TheVariants as machine
use Rattle.machine.specs.declared.ended.Refusal.{Refusal as MachineRefusal}
use Rattle.machine.specs.declared.ended.Refusal.TheVariants as refused
use Rattle.records.specs.declared.fault.StoreFault.{StoreFault}
use Rattle.records.specs.declared.fault.StoreFault.TheVariants as store
use Rattle.code_image.specs.declared.code.Code.{Code}
use Rattle.code_image.specs.declared.verified.Verified.{Verified}
use Rattle.machine.specs.Ends as run
use Rattle.run_unit.specs.Images.{IsImage, RefusesImage}
use Rattle.compiler.specs.declared.fault.CompileError.{CompileError}
use Rattle.run_unit.specs.declared.ended.Refusal.{Refusal}
use Rattle.run_unit.specs.declared.ended.Refusal.TheVariants.{Image, Device, Full, Damaged, Memory, Old}
use Rattle.run_unit.specs.declared.ended.Ended.{Ended}
use Rattle.run_unit.specs.declared.ended.Ended.TheVariants.{Stopped, Budget, Faulted, Refused}

-- the number that the product prints (own choice)
abbrev pub number_of : Refusal → ℕ
number_of (Image fault) = image.number_of fault
number_of Device = run.number_of refused.Device
number_of Full = run.number_of refused.Full
number_of Damaged = run.number_of refused.Damaged
number_of Memory = run.number_of refused.Memory
number_of Old = run.number_of refused.Old

-- the refusal that an error becomes
abbrev pub from_image : ImageError → Refusal
from_image in_image.Memory = Memory
from_image (in_image.Refused fault) = Image fault

-- why a machine's run was given up
abbrev pub refusal_of : MachineRefusal → Refusal
refusal_of refused.Device = Device
refusal_of refused.Full = Full
refusal_of refused.Damaged = Damaged
refusal_of refused.Memory = Memory
refusal_of refused.Old = Old

-- Why a volume isn't opened. One that each store takes for the other's counts as damaged.
abbrev pub of_opening : StoreFault → Refusal
of_opening store.Device = Device
of_opening store.Memory = Memory
of_opening other = Damaged

-- how a machine's run ended
abbrev pub ended_of : MachineEnded → Ended
ended_of machine.Stopped = Stopped
ended_of machine.Budget = Budget
ended_of (machine.Faulted fault line) = Faulted fault line
ended_of (machine.Refused refusal) = Refused (refusal_of refusal)

-- A run is refused for the device only where the device counted a failure.
abbrev pub HasCause : Ended → ℕ → ℕ → Type 0
HasCause ended old new = Blames (ended ≡ Refused Device) old new

-- An image is refused by its number where that number says so.
abbrev pub IsCauseOf : Refusal → List ℕ → Type 0
IsCauseOf (Image fault) image = RefusesImage image fault
IsCauseOf Device image = ⊥
IsCauseOf Full image = ⊥
IsCauseOf Damaged image = ⊥
IsCauseOf Memory image = Unit {0}
IsCauseOf Old image = ⊥

-- an end that isn't for the image
abbrev pub IsRun : Ended → Type 0
IsRun (Refused (Image fault)) = ⊥
IsRun other = Unit {0}

-- The same of a run's end. Where bytes weren't refused before the run, they are an image.
abbrev pub ForImage : Ended → List ℕ → Type 0
ForImage Stopped image = IsImage image
ForImage Budget image = IsImage image
ForImage (Faulted fault line) image = IsImage image
ForImage (Refused (Image fault)) image = RefusesImage image fault
ForImage (Refused Device) image = IsImage image
ForImage (Refused Full) image = IsImage image
ForImage (Refused Damaged) image = IsImage image
ForImage (Refused Memory) image = Unit {0}
ForImage (Refused Old) image = IsImage image

-- this, where bytes are refused as an image
abbrev pub IfUnbegun : Ended → Type 0 → Type 0
IfUnbegun (Refused (Image fault)) fact = fact
IfUnbegun other fact = Unit {0}

-- an end that the run of an image may have
abbrev pub IsEndOfImage : Ended → Type 0
IsEndOfImage Stopped = Unit {0}
IsEndOfImage Budget = Unit {0}
IsEndOfImage (Faulted fault line) = Unit {0}
IsEndOfImage (Refused (Image fault)) = ⊥
IsEndOfImage (Refused Device) = Unit {0}
IsEndOfImage (Refused Full) = Unit {0}
IsEndOfImage (Refused Damaged) = Unit {0}
IsEndOfImage (Refused Memory) = Unit {0}
IsEndOfImage (Refused Old) = Unit {0}

-- What loading an image may answer where it is of that code.
abbrev pub IsLoaded : Code → Result Verified Refusal → Type 0
IsLoaded code (Ok verified) = verified ≡ code
IsLoaded code (Err Memory) = Unit {0}
IsLoaded code (Err other) = ⊥

-- the same of a call that may refuse its source text
abbrev pub ForSource : Result Ended CompileError → ℕ → ℕ → Type 0
ForSource (Ok ended) old new = HasCause ended old new
ForSource (Err fault) old new = new ≡ old
