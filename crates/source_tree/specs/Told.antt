-- What a run has reported: its events, and the files at the start and after each file statement. Neither is ever taken back, and
-- there is one note a file statement.
use Rattle.std.specs.Prelude.{◌≡◌, ℕ, suc, List, [], ◌∷◌, ◌++◌, length}
use Rattle.station.specs.State.{Event, Shown, Noted}
use Rattle.records.specs.Files.{Files}
use Rattle.source_tree.specs.State.{State, all_files}

abbrev pub note_count : List Event → ℕ
note_count [] = 0
note_count (Shown byte ∷ more) = note_count more
note_count (Noted note ∷ more) = suc (note_count more)

-- Events and files, and then more of both, or nothing.
pub record Further (events : List Event) (files : List Files) (more : List Event) (later : List Files) : Type 0 where
  pub told : List Event
  pub events_are : more ≡ events ++ told
  pub left : List Files
  pub files_are : later ≡ files ++ left
  pub one_each : length left ≡ note_count told

-- from one state to another
abbrev pub Onward : State → State → Type 0
Onward s t = Further s.events (all_files s) t.events (all_files t)
