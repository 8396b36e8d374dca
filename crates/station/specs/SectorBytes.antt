-- The bytes of a sector that is to be written.
use Rattle.station.specs.Disk.{Sector}
use Rattle.station.specs.declared.sector_bytes.Place.{Place}
use Rattle.station.specs.declared.sector_bytes.Place.TheVariants.{Borrowed, Owned}

-- wherever they stand
abbrev pub bytes_at : Place → Sector
bytes_at (Borrowed bytes) = bytes.now
bytes_at (Owned bytes) = bytes.value
