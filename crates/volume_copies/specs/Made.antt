-- What becomes of a volume that is made with files.
use Rattle.std.specs.Prelude.{◌≢◌, ◌⊎◌, List, Result, Ok, Err, ⊤}
use Rattle.station.specs.Disk.{Sector}
use Rattle.records.specs.declared.fault.StoreFault.{StoreFault}
use Rattle.records.specs.declared.fault.StoreFault.TheVariants.{Device}
use Rattle.records.specs.Files.{Files}
use Rattle.volume_copies.specs.Copied.{IsNoVolume, HoldsSame}
use Rattle.volume_copies.specs.declared.copied.VolumeCopy.{VolumeCopy}
use Rattle.volume_copies.specs.declared.copied.VolumeCopy.TheVariants.{Done, Different}

-- an image is no volume, or holds the same files as these
abbrev pub IsNoneOrSame : Files → List Sector → Type 0
IsNoneOrSame files image = IsNoVolume image ⊎ HoldsSame files image

-- the device is no volume and did not fail
abbrev pub IsUnmade : Result VolumeCopy StoreFault → Type 0
IsUnmade (Ok Done) = ⊥
IsUnmade (Ok Different) = ⊤
IsUnmade (Err fault) = fault ≢ Device
