-- What a run has reported at a moment, and what a crash may leave of its files then.
use Rattle.std.specs.Prelude.{◌≡◌, ◌⊎◌, ℕ, ◌+◌, List, [], ◌∷◌, ◌++◌, drop, slice_index_or}
use Rattle.station.specs.declared.note.Note.{Note}
use Rattle.station.specs.Disk.{Sector}
use Rattle.station.specs.State.{State, Event, Noted}
use Rattle.station.specs.History.{EachImage}
use Rattle.records.specs.Files.{Files}
use Rattle.source_tree.specs.Told.{note_count}
use Rattle.source_tree.specs.Meaning.{Run}

-- Since these events, a beginning of a run's events was told.
pub record ShownPrefix (run : Run) (old now : List Event) : Type 0 where
  pub seen : List Event
  pub rest : List Event
  pub since : now ≡ old ++ seen
  pub begins : run.events ≡ seen ++ rest

-- the files after so many file statements of a run, those at the start for 0
abbrev pub files_at : Run → ℕ → Files
files_at run count = slice_index_or run.files count []

-- and after all of them
abbrev pub last_files : Run → Files
last_files run = files_at run (note_count run.events)

-- the next event is a status that is received
abbrev pub NoteComes : List Event → Type 0
NoteComes events = (note : Note) × (more : List Event) × (events ≡ Noted note ∷ more)

-- An image holds the files after as many file statements as statuses were received; or those after one more, and then its status is
-- received next.
abbrev pub HoldsSoFar : (List Sector → Files → Type 0) → Run → List Event → List Event → List Sector → Type 0
HoldsSoFar holds run seen rest image =
    holds image (files_at run (note_count seen)) ⊎ (holds image (files_at run (note_count seen + 1)) × NoteComes rest)

-- Of the console's lines the first were taken, or none.
pub record TakesLines (old now : State) : Type 0 where
  pub taken : ℕ
  pub lines : now.lines ≡ drop taken old.lines

-- A moment of a run that began in a state: of its events a beginning was told, and whatever a crash leaves holds the files of that
-- beginning. Of lines nothing is said while a file statement is under way. A run without file statements writes no sector.
pub record Moment (holds : List Sector → Files → Type 0) (run : Run) (old now : State) : Type 0 where
  pub told : ShownPrefix run old.events now.events
  pub files : EachImage (HoldsSoFar holds run told.seen told.rest) now
  pub console : TakesLines old now ⊎ NoteComes told.rest
  pub disk : note_count run.events ≡ 0 → now.disk ≡ old.disk
