-- The words of the contract of file statements.
use Rattle.std.specs.Prelude.{◌≡◌, ◌≢◌, ◌⊎◌, true, false, ℕ, List, Result, Err, IsOk, IfOk, OnErr}
use Rattle.station.specs.declared.device.Device.{Ghosts as Devices}
use Rattle.records.specs.declared.fault.StoreFault.{StoreFault}
use Rattle.records.specs.declared.fault.StoreFault.TheVariants.{Full, Old}
use Rattle.records.specs.declared.keeps.Keeps.{Ghosts as Stores}
use Rattle.records.specs.declared.status.Status.{Status}
use Rattle.records.specs.declared.verb.Verb.{Verb}
use Rattle.records.specs.Files.{Files}
use Rattle.records.specs.Calls.{Represents, Changes, ChangesFiles, OnStoredFiles, IsIdleUnless, Rests}
use Rattle.records.specs.Connector.{Entry, Connector}
use Rattle.records.specs.FileStep.{file_step, entry_at, area, needs_no_store, makes_file, has_changed, can_change_files, IsStep, SameConnectors}

-- A verb on the i-th file of connectors, with record area and number.
module _ {S : Type 0} (s : Stores S) {D : Type 0} (d : Devices D) (entries : S → List Entry) (connectors : S → List Connector) where
  -- Status, connectors and area are those of its step. If the step needs no store, they are so for any files.
  abbrev pub ReturnsStep : S → D → ℕ → Verb → List ℕ → ℕ → Result Status StoreFault → S → List ℕ → ℕ → Type 0
  ReturnsStep old device i verb bytes number result new bytes' number' =
      (files : Files) → (Represents s d old device files) ⊎ (needs_no_store (entries old) (connectors old) i verb ≡ true) →
      IfOk result (λ status. IsStep (connectors old) i (file_step (entries old) files (connectors old) i verb (area bytes number)) status (connectors new) (area bytes' number'))

  -- The files become those of its step.
  abbrev pub ChangesByStep : S → D → ℕ → Verb → List ℕ → ℕ → Result Status StoreFault → S → D → Type 0
  ChangesByStep old device i verb bytes number result new device' =
      OnStoredFiles s d old device (λ files. ChangesFiles s d result (makes_file verb) (entry_at (entries old) i).name files (file_step (entries old) files (connectors old) i verb (area bytes number)).files old device new device')

  -- Room or a mark is lacked only if its step changes a file.
  abbrev pub LacksOnChange : S → D → ℕ → Verb → List ℕ → ℕ → Result Status StoreFault → Type 0
  LacksOnChange old device i verb bytes number result =
      OnStoredFiles s d old device (λ files. (result ≡ Err Full) ⊎ (result ≡ Err Old) → has_changed verb (file_step (entries old) files (connectors old) i verb (area bytes number)).status ≡ true)

module _ {S : Type 0} (s : Stores S) {D : Type 0} (d : Devices D) where
  -- What a verb does to a store and its device: a status that reports no change leaves the device unchanged, and a refusal leaves
  -- the files, or the store is spent.
  pub record CallsStore (verb : Verb) (result : Result Status StoreFault) (old : S) (device : D) (new : S) (device' : D) : Type 0 where
    pub changes : Changes s d result old device new device'
    pub idle : IsIdleUnless d (has_changed verb) result device device'
    pub rests : OnErr result (Rests s d old device new device')

-- Of connectors alone.
module _ {S : Type 0} (connectors : S → List Connector) where
  -- A verb whose step needs no store isn't refused.
  abbrev pub SureWithoutStore : (S → List Entry) → S → ℕ → Verb → Result Status StoreFault → Type 0
  SureWithoutStore entries old i verb result = needs_no_store (entries old) (connectors old) i verb ≡ true → IsOk result

  -- A refusal leaves connectors, record area and number.
  abbrev pub SameOnRefusal : S → List ℕ → ℕ → Result Status StoreFault → S → List ℕ → ℕ → Type 0
  SameOnRefusal old bytes number result new bytes' number' = OnErr result (SameConnectors (connectors old) (connectors new) (area bytes number) (area bytes' number'))

-- neither room nor a mark was lacked
abbrev pub LacksNothing : {T : Type 0} → Result T StoreFault → Type 0
LacksNothing result = (result ≢ Err Full) × (result ≢ Err Old)

-- Whatever the disk holds, nothing is lacked by a verb that cannot change files, and a mark only by one that makes the file.
pub record LacksByVerb (verb : Verb) (result : Result Status StoreFault) : Type 0 where
  pub never_full : can_change_files verb ≡ false → LacksNothing result
  pub old : result ≡ Err Old → makes_file verb ≡ true
