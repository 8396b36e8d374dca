-- Each state that a station has been in.
use Rattle.std.specs.Prelude.{◌≡◌, ℕ, List, [], ◌∷◌, ◌++◌, take, Bool, IsTrue}
use Rattle.std.specs.List.{AllByRecursion}
use Rattle.station.specs.Disk.{Sector, IsCrashImage}
use Rattle.station.specs.State.{State, state_after_show, states_while_showing}

-- The newest of the states is this one.
pub record EndsIn (history : List State) (state : State) : Type 0 where
  pub earlier : List State
  pub is : history ≡ earlier ++ state ∷ []

-- A call goes to another state, or does nothing at all.
pub data Moves (past : List State) (old : State) (later : List State) (new : State) : Type 0 where
  Stays : later ≡ past → new ≡ old → Moves past old later new
  Goes : later ≡ past ++ new ∷ [] → Moves past old later new

-- A call shows these bytes.
pub record Shows (past : List State) (old : State) (bytes : List ℕ) (later : List State) (new : State) : Type 0 where
  pub history : later ≡ past ++ states_while_showing old bytes
  pub state : new ≡ state_after_show old bytes

-- Each state between two histories of a station has P.
pub record Spans (past later : List State) (P : State → Type 0) : Type 0 where
  pub during : List State
  pub adds : later ≡ past ++ during
  pub each : AllByRecursion P during

-- Each state between two histories passes the test p.
abbrev pub SpansTrue : List State → List State → (State → Bool) → Type 0
SpansTrue past later p = Spans past later (λ s. IsTrue (p s))

-- Each state that calls passed through has P, and so has the one that they left.
pub record Through (past later : List State) (new : State) (P : State → Type 0) : Type 0 where
  pub spans : Spans past later P
  pub now : P new

-- whatever a crash leaves has P
abbrev pub EachImage : (List Sector → Type 0) → State → Type 0
EachImage P state = (image : List Sector) → IsCrashImage state.disk image → P image

-- some of these bytes were shown since
abbrev pub HasShownSome : State → List ℕ → State → Type 0
HasShownSome old bytes state = (n : ℕ) × (state ≡ state_after_show old (take n bytes))
