-- What a crash leaves while sector 0 is written.
use Rattle.std.specs.Prelude.{◌≡◌, ◌⊎◌, List}
use Rattle.station.specs.Disk.{Disk, Sector, IsCrashImage}
use Rattle.unfinished_volume.specs.Hidden.{IsRootHidden}

-- what was possible on a disk, or these sectors
abbrev pub PossibleOr : Disk → List Sector → List Sector → Type 0
PossibleOr disk sectors image = IsCrashImage disk image ⊎ (image ≡ sectors)

-- what was possible on a disk, or sectors of which the first is no root
abbrev pub PossibleOrHidden : Disk → List Sector → Type 0
PossibleOrHidden disk image = IsCrashImage disk image ⊎ IsRootHidden image
