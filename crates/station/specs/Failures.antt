-- How a station counts its failures, in a `u64`.
use Rattle.std.specs.Prelude.{◌≤◌, ◌<◌, ◌⊎◌, ◌-◌, ◌^◌, ℕ, Result, IsErr}

-- The count never falls. Where the device is to blame, it rose, or stood at its last value.
pub record Blames (blamed : Type 0) (old new : ℕ) : Type 0 where
  pub no_fewer : old ≤ new
  pub failed : blamed → (old < new) ⊎ (2 ^ 64 - 1 ≤ new)

-- Each error of the call is the device's.
abbrev pub CountsFailure : {T E : Type 0} → Result T E → ℕ → ℕ → Type 0
CountsFailure result old new = Blames (IsErr result) old new
