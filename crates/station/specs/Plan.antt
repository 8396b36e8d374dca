-- Which of the coming calls on a station in memory fail.
use Rattle.std.specs.Prelude.{ℕ, ◌+◌, ◌-◌, ◌^◌, min, nat_lt, cond}
use Rattle.station.specs.declared.plan.Plan.{Plan}
use Rattle.station.specs.declared.plan.Plan.TheVariants.{Works, FailsAt, StopsAt, Stopped}
use Rattle.station.specs.declared.plan.Fate.{Fate}
use Rattle.station.specs.declared.plan.Fate.TheVariants as fate

-- the fate of the next call
abbrev pub fate_of : Plan → Fate
fate_of Works = fate.Works
fate_of (FailsAt n) = cond (nat_lt 1 n) fate.Works fate.Fails
fate_of (StopsAt n) = cond (nat_lt 1 n) fate.Works fate.Fails
fate_of Stopped = fate.Stopped

-- the plan after it
abbrev pub plan_after : Plan → Plan
plan_after Works = Works
plan_after (FailsAt n) = cond (nat_lt 1 n) (FailsAt (n - 1)) Works
plan_after (StopsAt n) = cond (nat_lt 1 n) (StopsAt (n - 1)) Stopped
plan_after Stopped = Stopped

-- one more, in a `u64`
abbrev pub saturated_successor : ℕ → ℕ
saturated_successor n = min (n + 1) (2 ^ 64 - 1)

-- a counter after a call with this fate, which counts failed calls and none after a stop
abbrev pub count_after_call : Fate → ℕ → ℕ
count_after_call fate.Works n = saturated_successor n
count_after_call fate.Fails n = saturated_successor n
count_after_call fate.Stopped n = n
