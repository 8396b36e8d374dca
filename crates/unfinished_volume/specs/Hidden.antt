-- Devices on which no reader finds a root.
use Rattle.std.specs.Prelude.{◌≡◌, ◌≤◌, ◌<◌, ◌+◌, ◌&&◌, ◌==◌, Bool, true, not, ℕ, List, length, take, slice_index_or}
use Rattle.std.specs.Prelude.{Contains}
use Rattle.station.specs.Disk.{Disk, Sector, sector_at}
use Rattle.station.specs.State.{State}

-- the letter C, with which each mark begins
abbrev pub mark_letter : ℕ
mark_letter = 67

abbrev pub hides : ℕ → Bool
hides first = not (first == 0) && not (first == mark_letter)

-- neither zeros nor a root: the first byte is neither 0 nor that of a mark
abbrev pub hides_root : Sector → Bool
hides_root bytes = hides (slice_index_or bytes 0 0)

-- whatever a crash leaves in sector 0 is no root
abbrev pub HidesRoot : Disk → Type 0
HidesRoot disk = (hides_root (sector_at disk.stable 0) ≡ true)
    × ((bytes : Sector) → Contains disk.written (0, bytes) → hides_root bytes ≡ true)

-- sector 0 of an image is no root
abbrev pub IsRootHidden : List Sector → Type 0
IsRootHidden image = hides_root (sector_at image 0) ≡ true

-- A history begins with these states. The last of them hides the root, and so does each later state.
abbrev pub IsHiddenSince : List State → List State → Type 0
IsHiddenSince first history = (take (length first) history ≡ first) × (length first ≤ length history)
    × ((n : ℕ) (d : State) → length first ≤ n + 1 → n < length history → HidesRoot (slice_index_or history n d).disk)
