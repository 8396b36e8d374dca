-- Writes to adjacent sectors.
use Rattle.std.specs.Prelude.{◌≡◌, ◌⊎◌, ◌+◌, ◌*◌, ℕ, List, [], length}

-- A sector follows these bytes, which begin with the first sector; or there are none.
abbrev pub FollowsBytes : ℕ → List ℕ → ℕ → Type 0
FollowsBytes first bytes sector = (bytes ≡ []) ⊎ (sector * 4096 ≡ first * 4096 + length bytes)
