-- What there is of a station at a moment, and what its calls do to that.
use Rattle.std.specs.Prelude.{◌≡◌, ℕ, List, [], ◌∷◌, ◌++◌, length, map, take, drop, slice_set, slice_get, slice_index_or, min, Option, option_map}
use Rattle.station.specs.Disk.{Disk, Sector, idle_disk}
use Rattle.station.specs.declared.note.Note.{Note}

-- a byte that was shown, or a status that a program received
pub data Event : Type 0 where
  Shown : ℕ → Event
  Noted : Note → Event

pub record State : Type 0 where
  -- the first of them first
  pub events : List Event
  -- the console lines that are still to be read
  pub lines : List (List ℕ)
  pub disk : Disk

-- after a write
abbrev pub wrote : State → ℕ → Sector → State
wrote s i b = record s { disk = record { present = slice_set s.disk.present i b; stable = s.disk.stable; written = s.disk.written ++ (i, b) ∷ [] } }

-- after a write that failed, where the sector keeps its value and a crash may yet leave the new one
abbrev pub state_after_failed_write : State → ℕ → Sector → State
state_after_failed_write s i b = record s { disk = record { present = s.disk.present; stable = s.disk.stable; written = s.disk.written ++ (i, b) ∷ [] } }

-- after a sync
abbrev pub state_after_sync : State → State
state_after_sync s = record s { disk = idle_disk s.disk.present }

abbrev pub state_after_note : State → Note → State
state_after_note s note = record s { events = s.events ++ Noted note ∷ [] }

abbrev pub took_line : State → State
took_line s = record s { lines = drop 1 s.lines }

-- the one state, if there is any of these
abbrev pub if_any : List (List ℕ) → State → List State
if_any [] s = []
if_any (line ∷ lines) s = s ∷ []

-- the state after a line was taken, where one was left
abbrev pub states_after_line : State → List State
states_after_line s = if_any s.lines (took_line s)

-- after these bytes were shown
abbrev pub state_after_show : State → List ℕ → State
state_after_show s bytes = record s { events = s.events ++ map Shown bytes }

-- each state while they are shown, one after each byte
abbrev pub states_while_showing : State → List ℕ → List State
states_while_showing s [] = []
states_while_showing s (byte ∷ bytes) = state_after_show s (byte ∷ []) ∷ states_while_showing (state_after_show s (byte ∷ [])) bytes

-- Nothing was told, and no line was taken.
pub record SameConsole (old new : State) : Type 0 where
  pub events : new.events ≡ old.events
  pub lines : new.lines ≡ old.lines

-- what was told first, and something after it or nothing
pub record Begins (first whole : List Event) : Type 0 where
  pub rest : List Event
  pub whole_is : whole ≡ first ++ rest

-- What a write that failed may have done.
pub data MayHaveWritten (old : State) (i : ℕ) (b : Sector) (new : State) : Type 0 where
  Nothing : new ≡ old → MayHaveWritten old i b new
  Kept : new ≡ state_after_failed_write old i b → MayHaveWritten old i b new
  Wrote : new ≡ wrote old i b → MayHaveWritten old i b new

-- a buffer after the front of a line was put in, as much as fits
abbrev pub overlaid : List ℕ → List ℕ → List ℕ
overlaid buffer line = take (length buffer) line ++ drop (length line) buffer

-- A line, as much as fits, is put at the front of a buffer. With no line left there is none, and nothing changes.
pub record TakesLine (old : State) (before : List ℕ) (taken : Option ℕ) (after : List ℕ) (new : State) : Type 0 where
  pub state : new ≡ took_line old
  pub count : taken ≡ option_map (λ line. min (length line) (length before)) (slice_get old.lines 0)
  pub bytes : after ≡ overlaid before (slice_index_or old.lines 0 [])

-- the bytes that were shown
abbrev pub bytes_of : List Event → List ℕ
bytes_of [] = []
bytes_of (Shown byte ∷ events) = byte ∷ bytes_of events
bytes_of (Noted note ∷ events) = bytes_of events

-- the statuses that were received
abbrev pub notes_of : List Event → List Note
notes_of [] = []
notes_of (Shown byte ∷ events) = notes_of events
notes_of (Noted note ∷ events) = note ∷ notes_of events
