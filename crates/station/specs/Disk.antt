-- A disk of sectors: what a read gives, and what a crash may leave.
use Rattle.std.specs.Prelude.{◌≡◌, ◌⊎◌, ◌<◌, ℕ, List, [], length, slice_index_or, Contains}

-- the bytes of a sector
abbrev pub Sector : Type 0
Sector = List ℕ

pub record Disk : Type 0 where
  -- what a read of each sector gives
  pub present : List Sector
  -- what each sector held at the last successful sync
  pub stable : List Sector
  -- each write since, with its sector's number, the first of them first
  pub written : List (ℕ × Sector)

-- a disk on which nothing waits for a sync
abbrev pub idle_disk : List Sector → Disk
idle_disk sectors = record { present = sectors; stable = sectors; written = [] }

-- nothing waits on this disk
abbrev pub IsSettled : Disk → Type 0
IsSettled disk = disk ≡ idle_disk disk.present

abbrev pub sector_at : List Sector → ℕ → Sector
sector_at sectors i = slice_index_or sectors i []

-- What a crash may leave: in each sector its value at the last sync, or one that was written since.
pub record IsCrashImage (disk : Disk) (image : List Sector) : Type 0 where
  pub count : length image ≡ length disk.stable
  pub each : (i : ℕ) → i < length image → (sector_at image i ≡ sector_at disk.stable i) ⊎ Contains disk.written (i, sector_at image i)

-- All writes that wait for a sync are as Q says, on a disk that held `base` at the last one.
pub record OnlyWrote (base : List Sector) (Q : ℕ → Sector → Type 0) (disk : Disk) : Type 0 where
  pub stable : disk.stable ≡ base
  pub each : (i : ℕ) (bytes : Sector) → Contains disk.written (i, bytes) → Q i bytes
