-- What holds of each image, whichever store wrote it.
use Rattle.std.specs.Prelude.{◌≡◌, List}
use Rattle.station.specs.Disk.{Sector}
use Rattle.records.specs.Files.{Files}
use Rattle.file_recovery.specs.Recovered.{HoldsFiles}

-- an image holds at most one list of files
abbrev pub OneFiles : Type 0
OneFiles = (image : List Sector) (files others : Files) → HoldsFiles image files → HoldsFiles image others → files ≡ others
