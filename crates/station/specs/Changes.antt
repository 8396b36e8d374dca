-- Words of the laws that the crates above build on.
use Rattle.std.specs.Prelude.{◌≡◌, ◌≢◌, ℕ, List, length}
use Rattle.station.specs.Disk.{Sector, sector_at, IsCrashImage}
use Rattle.station.specs.State.{State}

-- the same sectors, but perhaps for this one
pub record SameBut (i : ℕ) (before image : List Sector) : Type 0 where
  pub count : length image ≡ length before
  pub each : (j : ℕ) → j ≢ i → sector_at image j ≡ sector_at before j

-- each image that is possible now was so before, but perhaps for one sector
abbrev pub ChangesOnly : ℕ → State → State → Type 0
ChangesOnly i old new = (image : List Sector) → IsCrashImage new.disk image → (before : List Sector) × IsCrashImage old.disk before × SameBut i before image
