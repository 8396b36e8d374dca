-- The failures of a volume that is being made.
use Rattle.std.specs.Prelude.{Bool, ◌-◌, ◌^◌, ℕ, if◌then◌else◌}

-- A refused write counts as no failure of the device: the count is at its maximum from then on.
abbrev pub refusals : Bool → ℕ
refusals refused = if refused then 2 ^ 64 - 1 else 0
