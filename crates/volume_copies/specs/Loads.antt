-- What `load` promises.
use Rattle.std.specs.Prelude.{◌≡◌, ◌≢◌, ◌⊎◌, ◌<◌, ℕ, ◌+◌, List, [], length, slice_index_or, None, Some, Ok, Err, ⊤}
use Rattle.station.specs.Blocks.{CrashLeaves}
use Rattle.station.specs.Disk.{Sector, IsCrashImage}
use Rattle.station.specs.History.{Through, EachImage}
use Rattle.station.specs.State.{State, state_after_sync}
use Rattle.records.specs.declared.answer.Outcome.TheVariants.{Taken}
use Rattle.records.specs.declared.fault.StoreFault.{StoreFault}
use Rattle.records.specs.declared.fault.StoreFault.TheVariants.{Damaged}
use Rattle.records.specs.declared.status.Status.{Status}
use Rattle.records.specs.declared.status.Status.TheVariants.{DuplicateKey, Boundary}
use Rattle.records.specs.Files.{File, Files, file_at}
use Rattle.file_recovery.specs.Recovered.{HoldsFiles, IsReadCause}
use Rattle.volume_copies.specs.Lines.{lines_of}
use Rattle.volume_copies.specs.Record.{record_of}
use Rattle.volume_copies.specs.Loaded.{next_number, file_change, AddsLines, HoldsLines}
use Rattle.volume_copies.specs.declared.load_end.LoadEnd.{LoadEnd}
use Rattle.volume_copies.specs.declared.load_end.LoadEnd.TheVariants.{Done, UnknownName, Malformed, Rejected, Refused}

-- why a row is refused
abbrev pub IsRejected : Status → File → List ℕ → Type 0
IsRejected DuplicateKey file bytes = (file_change bytes file).outcome ≡ Taken
IsRejected Boundary file bytes = 999999999 < next_number file
IsRejected other file bytes = ⊥

-- the record of a line is refused
pub record IsRowRefused (status : Status) (file : File) (line : List ℕ) : Type 0 where
  pub bytes : List ℕ
  pub reads : record_of file.spec.record_length line ≡ Ok bytes
  pub rejected : IsRejected status file bytes

-- why a line is no row of a file
abbrev pub IsLineEnd : LoadEnd → File → List ℕ → Type 0
IsLineEnd Done file line = ⊥
IsLineEnd UnknownName file line = ⊥
IsLineEnd (Malformed fault) file line = record_of file.spec.record_length line ≡ Err fault
IsLineEnd (Rejected status) file line = IsRowRefused status file line
IsLineEnd (Refused fault) file line = fault ≢ Damaged

-- why no more lines are rows
abbrev pub IsEnd : LoadEnd → List (List ℕ) → ℕ → File → Type 0
IsEnd Done lines rows file = rows ≡ length lines
IsEnd other lines rows file = (rows < length lines) × IsLineEnd other file (slice_index_or lines rows [])

-- Where nothing but a line was refused, whatever a crash leaves holds exactly these files.
abbrev pub IsDurable : (List Sector → Files → Type 0) → LoadEnd → State → Files → Type 0
IsDurable holds (Refused fault) state now = ⊤
IsDurable holds other state now = EachImage (λ image. holds image now) state

-- How a load ends: so many lines are rows, and the next one is none for this reason.
pub record EndsLoad (holds : List Sector → Files → Type 0) (name : List ℕ) (lines : List (List ℕ)) (before : Files) (rows : ℕ)
    (end : LoadEnd) (state : State) : Type 0 where
  pub now : Files
  pub adds : AddsLines name lines before rows now
  pub file : File
  pub there : file_at name now ≡ Some file
  pub why : IsEnd end lines rows file
  pub durable : IsDurable holds end state now

-- The lines of a text become rows of a file, one after the other. At each moment whatever a crash leaves holds the files with the first
-- lines: at most as many as are reported, and one more.
pub record LoadsLines (holds : List Sector → Files → Type 0) (name text : List ℕ) (before : Files) (rows : ℕ) (end : LoadEnd)
    (past : List State) (old : State) (later : List State) (new : State) : Type 0 where
  pub moments : Through past later new (CrashLeaves old.events (HoldsLines holds name (lines_of text) before (rows + 1)))
  pub ends : EndsLoad holds name (lines_of text) before rows end new

-- Until the volume is opened a crash leaves what was possible before, and then the files with the first lines.
pub record IsLoading (name text : List ℕ) (before : Files) (rows : ℕ) (old state : State) : Type 0 where
  pub events : state.events ≡ old.events
  pub images : EachImage
      (λ image. IsCrashImage old.disk image ⊎ HoldsLines HoldsFiles name (lines_of text) before (rows + 1) image) state

-- nothing was written, but what waited for a sync may have become durable
abbrev pub IsUnwritten : State → State → Type 0
IsUnwritten old new = (new ≡ old) ⊎ (new ≡ state_after_sync old)

-- How a load of a volume ends that has the file: it isn't opened, or some lines are rows.
pub data EndsOpened (name text : List ℕ) (files : Files) (rows : ℕ) (end : LoadEnd) (old new : State) : Type 0 where
  Unopened : (fault : StoreFault) → end ≡ Refused fault → IsReadCause fault → rows ≡ 0 → IsUnwritten old new
      → EndsOpened name text files rows end old new
  Opened : EndsLoad HoldsFiles name (lines_of text) files rows end new → EndsOpened name text files rows end old new

pub record LoadsOpened (name text : List ℕ) (files : Files) (rows : ℕ) (end : LoadEnd) (past : List State) (old : State)
    (later : List State) (new : State) : Type 0 where
  pub moments : Through past later new (IsLoading name text files rows old)
  pub ends : EndsOpened name text files rows end old new

-- no row without the file
pub record IsUnknown (rows : ℕ) (end : LoadEnd) (old new : State) : Type 0 where
  pub end_is : end ≡ UnknownName
  pub none : rows ≡ 0
  pub unwritten : IsUnwritten old new

-- How a load of a volume with these files ends.
pub record LoadsVolume (name text : List ℕ) (files : Files) (rows : ℕ) (end : LoadEnd) (past : List State) (old : State)
    (later : List State) (new : State) : Type 0 where
  pub moments : Through past later new (IsLoading name text files rows old)
  pub ends : EndsOpened name text files rows end old new ⊎ ((file_at name files ≡ None) × IsUnknown rows end old new)
