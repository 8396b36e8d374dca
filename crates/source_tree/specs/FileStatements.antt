-- One file statement: its step by the table of statuses (`records`), and what the program has of it. Its status is stored in the FILE
-- STATUS item, and then the program has received it, which is told.
use Rattle.std.specs.Prelude.{ℕ, ℤ, pos, ◌==◌, if◌then◌else◌, slice_set, slice_index_or, List, [], ◌∷◌, ◌++◌, Option, Some, None}
use Rattle.items.specs.declared.item.Kind.{Kind}
use Rattle.items.specs.declared.item.Kind.TheVariants as kind
use Rattle.items.specs.Items.{number_in}
use Rattle.items.specs.Values.{bytes_of}
use Rattle.station.specs.State.{Noted}
use Rattle.records.specs.declared.verb.Verb.{Verb}
use Rattle.records.specs.declared.status.Status.{Status}
use Rattle.records.specs.Files.{Files}
use Rattle.records.specs.Connector.{Entry, Connector, Area}
use Rattle.records.specs.Statuses as statuses
use Rattle.records.specs.Steps.{Step}
use Rattle.records.specs.FileStep.{file_step, connectors_after}
use Rattle.source_tree.specs.Storage.{Storage}
use Rattle.source_tree.specs.References.{ItemPlace, part_of, storage_with, whole_part}
use Rattle.source_tree.specs.ProgramFiles.{FilePlaces}
use Rattle.source_tree.specs.State.{State, Outcome}

-- ---- the area: the record area, and the number in the RELATIVE KEY item, 0 where its bytes are no number (own choice)

abbrev pub number_held : Option ℤ → ℕ
number_held (Some (pos n)) = n
number_held _ = 0

abbrev pub relative_number : Option ItemPlace → Storage → ℕ
relative_number None storage = 0
relative_number (Some place) storage = number_held (whole_part (number_in place.item.kind (part_of storage place)))

abbrev pub area_of : FilePlaces → Storage → Area
area_of file storage = record { bytes = slice_index_or storage file.area []; number = relative_number file.relative_key storage }

-- The number is stored back where it changed.
abbrev pub number_stored : Kind → ItemPlace → ℕ → Storage → Storage
number_stored (kind.Numeric numeric) place n storage = storage_with place (bytes_of numeric (record { coefficient = pos n; scale = 0 })) storage
number_stored _ place n storage = storage

abbrev pub with_number : Option ItemPlace → ℕ → ℕ → Storage → Storage
with_number None old new storage = storage
with_number (Some place) old new storage = if old == new then storage else number_stored place.item.kind place new storage

abbrev pub with_area : FilePlaces → ℕ → Area → Storage → Storage
with_area file old area storage = with_number file.relative_key old area.number (slice_set storage file.area area.bytes)

-- ---- its status

abbrev pub with_status : Option ItemPlace → Status → Storage → Storage
with_status None status storage = storage
with_status (Some place) status storage = storage_with place (statuses.bytes_of status) storage

-- what a step leaves in storage; above, this and `step_by` stay as they are named here
unfoldable pub stored_by : FilePlaces → Step → Storage → Storage
stored_by file step storage = with_status file.status step.status (with_area file (area_of file storage).number step.area storage)

-- the state once its status is received
abbrev pub state_after_status : FilePlaces → Step → State → State
state_after_status file step s = record s {
  storage = stored_by file step s.storage;
  files = step.files;
  connectors = connectors_after s.connectors file.number step;
  earlier = s.earlier ++ s.files ∷ [];
  events = s.events ++ Noted (record { file = file.number; status = statuses.bytes_of step.status }) ∷ [];
}

-- the step of a verb on a file, with what the connectors go by
unfoldable pub step_by : List Entry → FilePlaces → Verb → Files → List Connector → Storage → Step
step_by entries file verb volume connectors storage = file_step entries volume connectors file.number verb (area_of file storage)

abbrev pub step_on : List Entry → FilePlaces → Verb → State → Step
step_on entries file verb s = step_by entries file verb s.files s.connectors s.storage

abbrev pub going_on : FilePlaces → (Status → State → Outcome) → State → Step → Outcome
going_on file go s step = go step.status (state_after_status file step s)

-- a file statement, and what goes on with its status
abbrev pub file_statement : List Entry → FilePlaces → Verb → (Status → State → Outcome) → State → Outcome
file_statement entries file verb go s = going_on file go s (step_on entries file verb s)
