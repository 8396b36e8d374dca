-- What a verb does on its file, where no test of the connectors bars it.
use Rattle.std.specs.Prelude.{◌≡◌, ◌≢◌, ◌⊎◌, true, false, Result, Err, IfOk, OnOk, OnErr}
use Rattle.station.specs.declared.device.Device.{Ghosts as Devices}
use Rattle.records.specs.declared.fault.StoreFault.{StoreFault}
use Rattle.records.specs.declared.fault.StoreFault.TheVariants.{Full, Old}
use Rattle.records.specs.declared.keeps.Keeps.{Ghosts as Stores}
use Rattle.records.specs.declared.select.Select.{Select}
use Rattle.records.specs.declared.status.Status.{Status}
use Rattle.records.specs.declared.verb.Verb.{Verb}
use Rattle.records.specs.Files.{Files}
use Rattle.records.specs.Calls.{Represents, Changes, ChangesFiles, Rests}
use Rattle.records.specs.Connector.{Area, entry_of}
use Rattle.records.specs.Stores.{spec_of}
use Rattle.records.specs.Steps.{Step, step}
use Rattle.records.specs.FileStep.{makes_file, has_changed, can_change_files}
use Rattle.file_verbs.specs.declared.link.Link.{Link}
use Rattle.file_verbs.specs.Links.{IsLinked, Ends, connector_of}
use Rattle.file_verbs.specs.Connections.{entry, connector, name_of, OpenLinked}
use Rattle.file_verbs.specs.declared.linked.Linked.{Linked}

abbrev pub step_of : Verb → Files → Linked → Area → Step
step_of verb files one area = step (entry one) files (connector one) area verb

-- the step of a verb on a file with its connector
abbrev pub link_step : Verb → Files → Select → Link → Area → Step
link_step verb files select link area = step (entry_of select) files (connector_of (spec_of select.file) link) area verb

-- of a verb on a connector to a file that is there, or absent
module _ {S : Type 0} (s : Stores S) {D : Type 0} (d : Devices D) (verb : Verb) (result : Result Status StoreFault) (store : S) (device : D) where
  -- its status, and the connector and the area that it leaves, are those of the step
  abbrev pub MakesStep : Select → Link → Link → Area → Area → Type 0
  MakesStep select old new area left = (files : Files) → Represents s d store device files → IsLinked files select old → IfOk result (λ status. Ends (link_step verb files select old area) status (connector_of (spec_of select.file) new) left)

  -- it turns the files into those of the step
  abbrev pub TurnsByStep : S → D → Select → Link → Area → Type 0
  TurnsByStep store' device' select old area = (files : Files) → Represents s d store device files → IsLinked files select old → ChangesFiles s d result (makes_file verb) select.file.name.items files (link_step verb files select old area).files store device store' device'

  -- it is refused for want of room only where the step changes files
  abbrev pub IsFullByStep : Select → Link → Area → Type 0
  IsFullByStep select old area = (files : Files) → Represents s d store device files → IsLinked files select old → result ≡ Err Full → has_changed verb (link_step verb files select old area).status ≡ true

-- no one sees a difference
pub record IsSame (old new : Linked) (area left : Area) : Type 0 where
  pub connector_is : connector new ≡ connector old
  pub absent_is : new.link.is_absent ≡ old.link.is_absent
  pub area_is : left ≡ area

module _ {S : Type 0} (s : Stores S) {D : Type 0} (d : Devices D) where
  pub record Does (verb : Verb) (result : Result Status StoreFault) (store : S) (device : D) (store' : S) (device' : D) (old new : Linked) (area left : Area) : Type 0 where
    pub changes : Changes s d result store device store' device'
    pub select : new.select ≡ old.select
    pub step : (files : Files) → Represents s d store device files → OpenLinked files old → IfOk result (λ status. Ends (step_of verb files old area) status (connector new) left)
    pub linked : (files : Files) → Represents s d store device files → OpenLinked files old → OnOk result (OpenLinked (step_of verb files old area).files new)
    pub turns : (files : Files) → Represents s d store device files → OpenLinked files old → ChangesFiles s d result (makes_file verb) (name_of old) files (step_of verb files old area).files store device store' device'
    pub full : (files : Files) → Represents s d store device files → OpenLinked files old → (result ≡ Err Full) ⊎ (result ≡ Err Old) → has_changed verb (step_of verb files old area).status ≡ true
    pub never_full : can_change_files verb ≡ false → (result ≢ Err Full) × (result ≢ Err Old)
    pub mark : result ≡ Err Old → makes_file verb ≡ true
    pub idle : d.is_honest device → IfOk result (λ status. has_changed verb status ≡ false → d.state device' ≡ d.state device)
    pub same : OnErr result (IsSame old new area left)
    pub rests : OnErr result (Rests s d store device store' device')
