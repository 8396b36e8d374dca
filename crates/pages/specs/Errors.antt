-- The numbers of the refusals, and what an error of the roots becomes.
use Rattle.std.specs.Prelude.{◌≡◌, ◌⊎◌, ℕ, List, Result, Ok, Err}
use Rattle.station.specs.Disk.{Sector}
use Rattle.roots.specs.declared.error.RootsError.{RootsError}
use Rattle.roots.specs.declared.error.RootsError.TheVariants as roots
use Rattle.roots.specs.declared.pair.RootsFault.{RootsFault}
use Rattle.roots.specs.declared.pair.RootsFault.TheVariants as fault
use Rattle.pages.specs.Layout.{IsForeign}
use Rattle.pages.specs.Image.{IsDamaged}
use Rattle.pages.specs.declared.error.PagesError.{PagesError}
use Rattle.pages.specs.declared.error.PagesError.TheVariants.{Device, Full, Damaged, Memory, Spent, ForeignMark}

abbrev pub number_of : PagesError → ℕ
number_of Device = 80
number_of Full = 81
number_of Damaged = 82
number_of Memory = 83
number_of Spent = 84
number_of ForeignMark = 86

abbrev pub of_fault : RootsFault → PagesError
of_fault fault.Damaged = Damaged
of_fault fault.ForeignMark = ForeignMark

abbrev pub of_roots : RootsError → PagesError
of_roots roots.Device = Device
of_roots (roots.Roots f) = of_fault f

-- an error of reading alone
abbrev pub IsReadError : {T : Type 0} → Result T PagesError → Type 0
IsReadError (Ok x) = Unit {0}
IsReadError (Err e) = (e ≡ Device) ⊎ (e ≡ Memory)

-- What an error of opening tells of the image: `Device` and `Memory` tell nothing of it, and `Full` and `Spent` don't come.
abbrev pub RefusesImage : List Sector → PagesError → Type 0
RefusesImage image Device = Unit {0}
RefusesImage image Full = ⊥
RefusesImage image Damaged = IsDamaged image
RefusesImage image Memory = Unit {0}
RefusesImage image Spent = ⊥
RefusesImage image ForeignMark = IsForeign image

-- an error of opening alone
abbrev pub IsOpenError : {T : Type 0} → Result T PagesError → Type 0
IsOpenError (Ok x) = Unit {0}
IsOpenError (Err e) = (e ≡ Device) ⊎ (e ≡ Damaged) ⊎ (e ≡ Memory) ⊎ (e ≡ ForeignMark)

-- this error, unless the device or memory failed
abbrev pub FailsWithError : {T : Type 0} → PagesError → Result T PagesError → Type 0
FailsWithError fault (Ok x) = ⊥
FailsWithError fault (Err e) = (e ≡ fault) ⊎ (e ≡ Device) ⊎ (e ≡ Memory)

-- an error of planning alone
abbrev pub IsPlanError : {T : Type 0} → Result T PagesError → Type 0
IsPlanError (Ok x) = Unit {0}
IsPlanError (Err e) = (e ≡ Full) ⊎ (e ≡ Memory)

-- an error of a commit of a volume
abbrev pub IsCommitError : {T : Type 0} → Result T PagesError → Type 0
IsCommitError (Ok x) = Unit {0}
IsCommitError (Err e) = (e ≡ Device) ⊎ (e ≡ Full) ⊎ (e ≡ Memory)

-- an error of an edit
abbrev pub IsEditRefusal : {T : Type 0} → Result T PagesError → Type 0
IsEditRefusal (Ok x) = Unit {0}
IsEditRefusal (Err e) = (e ≡ Memory) ⊎ (e ≡ Spent)

-- an error of an allocation
abbrev pub IsAllocateRefusal : {T : Type 0} → Result T PagesError → Type 0
IsAllocateRefusal (Ok x) = Unit {0}
IsAllocateRefusal (Err e) = (e ≡ Full) ⊎ (e ≡ Memory) ⊎ (e ≡ Spent)

-- an error of a commit
abbrev pub IsCommitRefusal : {T : Type 0} → Result T PagesError → Type 0
IsCommitRefusal (Ok x) = Unit {0}
IsCommitRefusal (Err e) = (e ≡ Device) ⊎ (e ≡ Full) ⊎ (e ≡ Memory) ⊎ (e ≡ Spent)
