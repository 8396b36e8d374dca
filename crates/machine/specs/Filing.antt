-- What a file statement finds in a run, and what it leaves.
use Rattle.std.specs.Prelude.{◌≡◌, ◌≤◌, ◌<◌, ◌==◌, ◌%◌, ◌^◌, ℕ, true, false, if◌then◌else◌, IfSome, List, [], length, slice_index_or, Option, Some, None}
use Rattle.records.specs.declared.fault.StoreFault.{StoreFault}
use Rattle.records.specs.declared.fault.StoreFault.TheVariants as fault
use Rattle.records.specs.declared.keeps.Keeps.{Ghosts as Stores}
use Rattle.records.specs.declared.status.Status.{Status}
use Rattle.records.specs.Connector.{Entry, Connector}
use Rattle.records.specs.Steps.{Step}
use Rattle.records.specs.FileStep.{connectors_after}
use Rattle.source_tree.specs.Storage.{Storage}
use Rattle.source_tree.specs.References.{ItemPlace}
use Rattle.source_tree.specs.ProgramFiles.{FilePlaces, digits_in}
use Rattle.source_tree.specs.FileRules.{is_unsigned_integer, is_two_characters}
use Rattle.source_tree.specs.FileStatements.{number_stored, stored_by}
use Rattle.data_instructions.specs.declared.index.ItemIndex.{ItemIndex}
use Rattle.data_instructions.specs.declared.tables.DataTables.{DataTables}
use Rattle.data_machine.specs.FindsFirst.{IsAtFirst}
use Rattle.file_image.specs.declared.file.CodeFile.{CodeFile}
use Rattle.file_image.specs.Files.{entries_of}
use Rattle.code_image.specs.declared.code.Code.{Code}
use Rattle.machine.specs.declared.ended.Refusal.{Refusal}
use Rattle.machine.specs.declared.ended.Refusal.TheVariants.{Device, Full, Damaged, Memory, Old}

-- the store's fault for which a run is given up
abbrev pub store_fault : Refusal → StoreFault
store_fault Device = fault.Device
store_fault Full = fault.Full
store_fault Damaged = fault.Damaged
store_fault Memory = fault.Memory
store_fault Old = fault.Old

-- an unsigned integer stands there
pub record FindsNumber (tables : DataTables) (storage : Storage) (index : ItemIndex) : Type 0 where
  pub found : IsAtFirst tables storage index
  pub kind : is_unsigned_integer found.one.item.kind ≡ true

-- two characters stand there
pub record FindsStatus (tables : DataTables) (storage : Storage) (index : ItemIndex) : Type 0 where
  pub found : IsAtFirst tables storage index
  pub kind : is_two_characters found.one.item.kind found.one.item.length ≡ true

-- A file's record area and its items stand in these areas.
pub record FindsPlaces (tables : DataTables) (storage : Storage) (file : CodeFile) : Type 0 where
  pub area : file.area < length storage
  pub long : length (slice_index_or storage file.area []) ≡ file.record_length
  pub relative_key : IfSome file.relative_key (FindsNumber tables storage)
  pub status : IfSome file.status (FindsStatus tables storage)

-- The low digits of a number are stored where it changed.
abbrev pub with_low_number : Option ItemPlace → ℕ → ℕ → Storage → Storage
with_low_number None old new storage = storage
with_low_number (Some place) old new storage =
    if old == new then storage else number_stored place.item.kind place (new % 10 ^ digits_in place.item.kind) storage

-- Status, connectors and storage are what a step of a file leaves.
pub record Did (places : FilePlaces) (step : Step) (status : Status) (connectors after : List Connector) (storage left : Storage) : Type 0 where
  pub status_is : status ≡ step.status
  pub connectors_are : after ≡ connectors_after connectors places.number step
  pub storage_is : left ≡ stored_by places step storage

-- Connectors to the files of code, which need no more than so many sectors; no change was refused.
pub record Serves {F : Type 0} (keeps : Stores F) (entries : F → List Entry) (code : Code) (sectors : ℕ) (verbs : F) : Type 0 where
  pub needs : keeps.needs verbs ≤ sectors
  pub entries_are : entries verbs ≡ entries_of code.tables code.files
  pub whole : keeps.is_spent verbs ≡ false
