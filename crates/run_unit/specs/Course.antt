-- The course of a run, with files or without: each of its moments, and its end.
use Rattle.std.specs.Prelude.{List}
use Rattle.station.specs.State.{State}
use Rattle.station.specs.History.{Through}
use Rattle.records.specs.declared.fault.StoreFault.{StoreFault}
use Rattle.records.specs.declared.fault.StoreFault.TheVariants as store
use Rattle.source_tree.specs.State.{End}
use Rattle.source_tree.specs.State as end
use Rattle.data_instructions.specs.Faults.{fault_of}
use Rattle.machine.specs.Prefix.{TakesLines}
use Rattle.run_unit.specs.declared.ended.Refusal.TheVariants.{Image, Device, Full, Damaged, Memory, Old}
use Rattle.run_unit.specs.declared.ended.Ended.{Ended}
use Rattle.run_unit.specs.declared.ended.Ended.TheVariants.{Stopped, Budget, Faulted, Refused}

-- What is so after each end of a run from a state: this after an end of its own, and these where a volume lacked
-- what a change needs, room or a later mark, and where memory ran out. The image is never refused, and files that are there are never found
-- damaged. The device may fail at any moment.
abbrev pub EndsBy : (End → Type 0) → (StoreFault → Type 0) → Type 0 → State → Ended → State → Type 0
EndsBy finished lacking no_memory old Stopped now = finished end.Stopped
EndsBy finished lacking no_memory old Budget now = finished end.Budget
EndsBy finished lacking no_memory old (Faulted fault line) now = finished (end.Faulted (fault_of fault) line)
EndsBy finished lacking no_memory old (Refused (Image fault)) now = ⊥
EndsBy finished lacking no_memory old (Refused Device) now = TakesLines old now
EndsBy finished lacking no_memory old (Refused Full) now = lacking store.Full
EndsBy finished lacking no_memory old (Refused Damaged) now = ⊥
EndsBy finished lacking no_memory old (Refused Memory) now = no_memory
EndsBy finished lacking no_memory old (Refused Old) now = lacking store.Old

-- A run from a state to another, by this end: each moment is one of the run, the first one too, and its end is
-- one of the run's.
pub record TakesCourse (moment : State → Type 0) (ending : Ended → State → Type 0) (past : List State)
    (old : State) (ended : Ended) (later : List State) (new : State) : Type 0 where
  pub first : moment old
  pub moments : Through past later new moment
  pub ends : ending ended new
