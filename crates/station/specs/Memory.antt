-- What a station in memory shows of itself, and what its calls do to that.
use Rattle.std.specs.Prelude.{◌≡◌, ℕ, List, [], ◌∷◌, ◌++◌, Result, IsOk, IsErr}
use Rattle.station.specs.State.{State, state_after_show, states_while_showing, took_line, states_after_line}
use Rattle.station.specs.Journal.{journal_state, journal_history, journal_sectors}
use Rattle.station.specs.Plan.{fate_of, plan_after, saturated_successor, count_after_call}
use Rattle.station.specs.declared.memory.MemoryStation.{MemoryStation}
use Rattle.station.specs.declared.device.DeviceError.{DeviceError}
use Rattle.station.specs.declared.plan.Plan.{Plan}
use Rattle.station.specs.declared.plan.Fate.{Fate}
use Rattle.station.specs.declared.plan.Fate.TheVariants as fates

pub record Memory : Type 0 where
  -- how many sectors there are
  pub sectors : ℕ
  pub state : State
  -- each state since the last crash
  pub history : List State
  -- which of the coming calls fail
  pub plan : Plan
  -- how often a call has failed
  pub failures : ℕ
  -- how often the record of calls couldn't grow
  pub refused : ℕ
  pub reads : ℕ
  pub writes : ℕ
  pub syncs : ℕ

abbrev pub memory : MemoryStation → Memory
memory m = record {
  sectors = journal_sectors m.journal;
  state = journal_state m.journal;
  history = journal_history m.journal;
  plan = m.plan;
  failures = m.failures;
  refused = m.refused;
  reads = m.reads;
  writes = m.writes;
  syncs = m.syncs;
}

-- a call of each kind has begun: one of the plan is used up, and the call is counted
abbrev pub memory_after_call : Memory → Memory
memory_after_call m = record m { plan = plan_after m.plan }

abbrev pub memory_after_read : Memory → Memory
memory_after_read m = record m { plan = plan_after m.plan; reads = count_after_call (fate_of m.plan) m.reads }

abbrev pub memory_after_write : Memory → Memory
memory_after_write m = record m { plan = plan_after m.plan; writes = count_after_call (fate_of m.plan) m.writes }

abbrev pub memory_after_sync : Memory → Memory
memory_after_sync m = record m { plan = plan_after m.plan; syncs = count_after_call (fate_of m.plan) m.syncs }

-- it went to this state
abbrev pub with_state : Memory → State → Memory
with_state m s = record m { state = s; history = m.history ++ s ∷ [] }

-- it showed these bytes
abbrev pub memory_after_show : Memory → List ℕ → Memory
memory_after_show m bytes = record m { state = state_after_show m.state bytes; history = m.history ++ states_while_showing m.state bytes }

-- it took a line, if any was left
abbrev pub memory_after_line : Memory → Memory
memory_after_line m = record m { state = took_line m.state; history = m.history ++ states_after_line m.state }

-- it failed
abbrev pub memory_after_failure : Memory → Memory
memory_after_failure m = record m { failures = saturated_successor m.failures }

-- What a call answers, and how it leaves the station. By its fate it works, or fails and leaves `failed`, or does nothing.
-- Where the record couldn't grow it fails and does nothing too, which is counted.
pub data Follows {T : Type 0} (fate : Fate) (begun worked failed : Memory) (result : Result T DeviceError) (new : Memory) : Type 0 where
  Works : fate ≡ fates.Works → IsOk result → new ≡ worked → Follows fate begun worked failed result new
  Fails : fate ≡ fates.Fails → IsErr result → new ≡ memory_after_failure failed → Follows fate begun worked failed result new
  Stopped : fate ≡ fates.Stopped → IsErr result → new ≡ memory_after_failure begun → Follows fate begun worked failed result new
  Refused : IsErr result → new ≡ memory_after_failure (record begun { refused = saturated_successor begun.refused }) → Follows fate begun worked failed result new

-- What a call answers that takes no memory.
pub data Obeys {T : Type 0} (fate : Fate) (begun : Memory) (result : Result T DeviceError) (new : Memory) : Type 0 where
  Worked : fate ≡ fates.Works → IsOk result → new ≡ begun → Obeys fate begun result new
  Failed : fate ≡ fates.Fails → IsErr result → new ≡ memory_after_failure begun → Obeys fate begun result new
  Ended : fate ≡ fates.Stopped → IsErr result → new ≡ memory_after_failure begun → Obeys fate begun result new
