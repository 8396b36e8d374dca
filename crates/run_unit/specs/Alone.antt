-- Runs of programs without files: the volume is left alone.
use Rattle.std.specs.Prelude.{◌≡◌, List, ◌++◌}
use Rattle.station.specs.State.{State}
use Rattle.source_tree.specs.State.{End}
use Rattle.source_tree.specs.Meaning.{Run}
use Rattle.machine.specs.Prefix.{ShownPrefix, TakesLines}
use Rattle.run_unit.specs.declared.ended.Ended.{Ended}
use Rattle.run_unit.specs.Course.{EndsBy, TakesCourse}

-- A moment of a run that began in a state: of its events a beginning was told, of the console's lines the first were taken, and no sector
-- was written.
pub record Alone (run : Run) (old now : State) : Type 0 where
  pub told : ShownPrefix run old.events now.events
  pub console : TakesLines old now
  pub disk : now.disk ≡ old.disk

-- The run came to its own end.
pub record FinishedAlone (run : Run) (how : End) (old now : State) : Type 0 where
  pub end : run.end ≡ how
  pub told : now.events ≡ old.events ++ run.events
  pub lines : now.lines ≡ run.lines
  pub disk : now.disk ≡ old.disk

-- What is so after each end. A store has no part in it, and want of memory comes before anything was done.
abbrev pub EndsAlone : Run → State → Ended → State → Type 0
EndsAlone run old ended now = EndsBy (λ how. FinishedAlone run how old now) (λ fault. ⊥) (now ≡ old) old ended now

-- a run from a state to another, by this end
abbrev pub RunsAlone : Run → List State → State → Ended → List State → State → Type 0
RunsAlone run past old = TakesCourse (Alone run old) (EndsAlone run old) past old
