-- The roots of an image, and what the errors mean.
use Rattle.std.specs.Prelude.{List, length, Option, Some, None, Result}
use Rattle.station.specs.Disk.{Sector, sector_at}
use Rattle.roots.specs.Root.{Family, root_in}
use Rattle.roots.specs.Pair.{newest_root}
use Rattle.roots.specs.declared.pair.Roots.{Roots}
use Rattle.roots.specs.declared.pair.RootsFault.{RootsFault}
use Rattle.roots.specs.declared.error.RootsError.{RootsError}
use Rattle.roots.specs.declared.error.RootsError.TheVariants as error

-- the roots in sectors 0 and 1, to a reader that knows these families of marks, of which the first is its own
abbrev pub roots_in : List Family → List Sector → Result Roots RootsFault
roots_in known image = newest_root (root_in known (length image) 0 (sector_at image 0))
    (root_in known (length image) 1 (sector_at image 1))

abbrev pub fault_of : RootsError → Option RootsFault
fault_of error.Device = None
fault_of (error.Roots fault) = Some fault
