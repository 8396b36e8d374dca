-- Sector 0 with an inverted first byte: what a volume that is being made has in place of its root (own choice).
use Rattle.std.specs.Prelude.{ℕ, zero, suc, ◌-◌, List, map, slice_set, slice_index_or}
use Rattle.station.specs.Disk.{Disk, Sector, sector_at}
use Rattle.station.specs.State.{State}

-- a sector with its first byte inverted
abbrev pub inverted_sector : Sector → Sector
inverted_sector bytes = slice_set bytes 0 (255 - slice_index_or bytes 0 0)

-- what is stored for the bytes of this sector
abbrev pub stored_for : ℕ → Sector → Sector
stored_for zero bytes = inverted_sector bytes
stored_for (suc other) bytes = bytes

-- the sectors, with sector 0 inverted
abbrev pub inverted_image : List Sector → List Sector
inverted_image image = slice_set image 0 (inverted_sector (sector_at image 0))

abbrev pub inverted_write : ℕ × Sector → ℕ × Sector
inverted_write write = (write.0, stored_for write.0 write.1)

abbrev pub inverted_disk : Disk → Disk
inverted_disk disk = record {
  present = inverted_image disk.present;
  stable = inverted_image disk.stable;
  written = map inverted_write disk.written;
}

-- What a volume that is being made shows of a device in this state.
abbrev pub inverted_state : State → State
inverted_state state = record state { disk = inverted_disk state.disk }
