-- What one line of a load does.
use Rattle.std.specs.Prelude.{◌≡◌, ◌⊎◌, ◌<◌, ℕ, List, Result, IfErr, OnOk, ⊤}
use Rattle.station.specs.Blocks.{CrashLeaves}
use Rattle.station.specs.Disk.{Sector}
use Rattle.station.specs.History.{Through}
use Rattle.station.specs.declared.device.Device.{Ghosts as Devices}
use Rattle.records.specs.declared.file_spec.FileSpec.{FileSpec}
use Rattle.records.specs.declared.file_spec.Organization.{Organization}
use Rattle.records.specs.declared.file_spec.Organization.TheVariants.{Sequential, Relative, Indexed}
use Rattle.records.specs.declared.keeps.Keeps.{Ghosts as Stores}
use Rattle.records.specs.Files.{File, Files}
use Rattle.records.specs.Stores.{Has}
use Rattle.records.specs.Calls.{Represents}
use Rattle.volume_copies.specs.Loaded.{IsNext, following_number, AddsLine}
use Rattle.volume_copies.specs.Loads.{IsLineEnd}
use Rattle.volume_copies.specs.declared.load_end.LoadEnd.{LoadEnd}
use Rattle.volume_copies.specs.declared.load_end.LoadEnd.TheVariants.{Refused}

-- a number that no row of a relative file has
abbrev pub IsPast : Organization → ℕ → Type 0
IsPast Sequential number = ⊥
IsPast Relative number = (number ≡ 0) ⊎ (999999999 < number)
IsPast (Indexed place) number = ⊥

-- an image holds the files before a line, or with it
abbrev pub WithOrWithout : (List Sector → Files → Type 0) → List ℕ → List ℕ → Files → List Sector → Type 0
WithOrWithout holds name line before image =
    (holds image before) ⊎ ((after : Files) × AddsLine name line before after × holds image after)

module _ {S : Type 0} (s : Stores S) {D : Type 0} (d : Devices D) where
  -- The store represents the files with the line, and the next row gets the number after this one.
  pub record IsAdded (spec : FileSpec) (number : ℕ) (line : List ℕ) (before : Files) (store : S) (device : D) : Type 0 where
    pub after : Files
    pub adds : AddsLine spec.name.items line before after
    pub stands : Represents s d store device after
    pub file : File
    pub has : Has after spec file
    pub next : IsNext (following_number spec.organization number) file

  -- after a line that is no row
  abbrev pub StaysUnless : LoadEnd → Files → S → D → Type 0
  StaysUnless (Refused fault) before store device = ⊤
  StaysUnless other before store device = Represents s d store device before

  pub record AddsOne (result : Result ⊤ LoadEnd) (spec : FileSpec) (number : ℕ) (line : List ℕ) (before : Files) (file : File)
      (device : D) (store : S) (device' : D) : Type 0 where
    pub moments : Through (d.history device) (d.history device') (d.state device')
        (CrashLeaves (d.state device).events (WithOrWithout s.holds spec.name.items line before))
    pub added : OnOk result (IsAdded spec number line before store device')
    pub why : IfErr result (λ end. IsLineEnd end file line)
    pub stays : IfErr result (λ end. StaysUnless end before store device')
