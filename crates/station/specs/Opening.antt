-- Until a first sync has succeeded.
use Rattle.std.specs.Prelude.{◌≡◌}
use Rattle.station.specs.Disk.{IsCrashImage}
use Rattle.station.specs.State.{State}
use Rattle.station.specs.History.{EachImage}

-- nothing was told yet, and whatever a crash leaves was possible in `old`
pub record IsOpening (old state : State) : Type 0 where
  pub events : state.events ≡ old.events
  pub images : EachImage (IsCrashImage old.disk) state
