-- What a run has at a moment, and how a stretch of it ends.
use Rattle.std.specs.Prelude.{ℕ, zero, suc, List, [], ◌∷◌, ◌++◌, map, Ok, Err}
use Rattle.station.specs.State.{Event, Shown}
use Rattle.records.specs.Files.{Files}
use Rattle.records.specs.Connector.{Connector}
use Rattle.source_tree.specs.Storage.{Storage}
use Rattle.source_tree.specs.Evaluated.{Fault, Evaluation}

pub record State : Type 0 where
  -- how many statements may still begin (own choice)
  pub budget : ℕ
  -- the line of the statement that last used one of the budget; 0 before the first
  pub line : ℕ
  -- the day that the program is told
  pub day : List ℕ
  -- the console lines that are still to be read
  pub lines : List (List ℕ)
  -- the bytes of working storage and of record areas
  pub storage : Storage
  -- the files of the volume, and the connectors to those of the program, in the order of their SELECTs
  pub files : Files
  pub connectors : List Connector
  -- the files before each file statement so far, the first of them first
  pub earlier : List Files
  -- what was told so far, the first of it first
  pub events : List Event

-- the files at the start and after each file statement so far
abbrev pub all_files : State → List Files
all_files s = s.earlier ++ s.files ∷ []

-- How a run ends: by STOP RUN or after the last paragraph, with no budget left for the next statement, or because the statement
-- at a line did something wrong.
pub data End : Type 0 where
  Stopped : End
  Budget : End
  Faulted : Fault → ℕ → End

-- How a stretch of a run ends: what follows goes on, or the run is over.
pub data Outcome : Type 0 where
  Done : State → Outcome
  Over : End → State → Outcome

-- after these bytes were shown
abbrev pub state_after_output : List ℕ → State → State
state_after_output bytes s = record s { events = s.events ++ map Shown bytes }

-- goes on where a stretch is done
abbrev pub then_do : Outcome → (State → Outcome) → Outcome
then_do (Done s) go = go s
then_do (Over end s) go = Over end s

-- goes on with what was evaluated; a fault ends the run at the statement's line
abbrev pub with_value : {A : Type 0} → Evaluation A → State → (A → Outcome) → Outcome
with_value (Ok x) s go = go x
with_value (Err fault) s go = Over (Faulted fault s.line) s

-- A statement that only changes storage, or ends the run.
abbrev pub change_outcome : (Storage → Evaluation Storage) → State → Outcome
change_outcome change s = with_value (change s.storage) s (λ after. Done (record s { storage = after }))

-- one after the other, as long as each is done
abbrev pub in_turn : {A : Type 0} → (A → State → Outcome) → List A → State → Outcome
in_turn run [] s = Done s
in_turn run (one ∷ more) s = then_do (run one s) (in_turn run more)

abbrev pub spend_from : ℕ → ℕ → State → (State → Outcome) → Outcome
spend_from zero line s go = Over Budget s
spend_from (suc left) line s go = go (record s { budget = left; line = line })

-- One of the budget is used by what stands at this line. With none left the run is over before that has any effect.
abbrev pub spend : ℕ → State → (State → Outcome) → Outcome
spend line s go = spend_from s.budget line s go

-- what a stretch leaves
abbrev pub outcome_state : Outcome → State
outcome_state (Done s) = s
outcome_state (Over end s) = s

-- what was told up to there
abbrev pub outcome_events : Outcome → List Event
outcome_events (Done s) = s.events
outcome_events (Over end s) = s.events
