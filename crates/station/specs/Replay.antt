-- A record of calls, played again.
use Rattle.std.specs.Prelude.{ℕ, List, [], ◌∷◌, ◌++◌, map, take, drop, Vec, Bool, true, false}
use Rattle.std.specs.declared.alloc.Global.{Global}
use Rattle.station.specs.Disk.{Sector, idle_disk}
use Rattle.station.specs.State.{State, state_after_show, states_while_showing, wrote, state_after_failed_write, state_after_note, took_line, state_after_sync}
use Rattle.station.specs.declared.note.Note.{Note}
use Rattle.station.specs.declared.call.Call.{Call}
use Rattle.station.specs.declared.call.Call.TheVariants.{Show, Hear, Take, Write, Keep, Sync}

-- a station that nobody has called, with these sectors and console lines
abbrev pub made_of : List Sector → List (Vec ℕ Global) → State
made_of sectors lines = record { events = []; lines = map (λ v. v.items) lines; disk = idle_disk sectors }

-- the state after one call
abbrev pub next : State → Call → State
next s (Show bytes) = state_after_show s bytes.items
next s (Hear note) = state_after_note s note
next s Take = took_line s
next s (Write i b) = wrote s i b.value
next s (Keep i b) = state_after_failed_write s i b.value
next s Sync = state_after_sync s

-- the states that it goes through
abbrev pub passes : State → Call → List State
passes s (Show bytes) = states_while_showing s bytes.items
passes s (Hear note) = state_after_note s note ∷ []
passes s Take = took_line s ∷ []
passes s (Write i b) = wrote s i b.value ∷ []
passes s (Keep i b) = state_after_failed_write s i b.value ∷ []
passes s Sync = state_after_sync s ∷ []

-- the state after these calls
abbrev pub state_after_calls : State → List Call → State
state_after_calls s [] = s
state_after_calls s (call ∷ calls) = state_after_calls (next s call) calls

-- each state that they went through
abbrev pub states_during_calls : State → List Call → List State
states_during_calls s [] = []
states_during_calls s (call ∷ calls) = passes s call ++ states_during_calls (next s call) calls

-- the states that they went through, from the i-th call on, and the one before that
abbrev pub since : State → List Call → ℕ → List State
since s calls i = state_after_calls s (take i calls) ∷ states_during_calls (state_after_calls s (take i calls)) (drop i calls)

abbrev pub is_write : Call → Bool
is_write (Show bytes) = false
is_write (Hear note) = false
is_write Take = false
is_write (Write at b) = true
is_write (Keep at b) = false
is_write Sync = false

abbrev pub is_take : Call → Bool
is_take (Show bytes) = false
is_take (Hear note) = false
is_take Take = true
is_take (Write at b) = false
is_take (Keep at b) = false
is_take Sync = false

abbrev pub is_of_console : Call → Bool
is_of_console (Show bytes) = true
is_of_console (Hear note) = true
is_of_console Take = true
is_of_console (Write at b) = false
is_of_console (Keep at b) = false
is_of_console Sync = false

-- the bytes that a call showed
abbrev pub shown_by : Call → List ℕ
shown_by (Show bytes) = bytes.items
shown_by (Hear note) = []
shown_by Take = []
shown_by (Write at b) = []
shown_by (Keep at b) = []
shown_by Sync = []

-- the status that it told of
abbrev pub heard_by : Call → List Note
heard_by (Show bytes) = []
heard_by (Hear note) = note ∷ []
heard_by Take = []
heard_by (Write at b) = []
heard_by (Keep at b) = []
heard_by Sync = []
