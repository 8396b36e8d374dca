-- The two halves of a volume, of which the newest root names one (own choice).
use Rattle.std.specs.Prelude.{◌≡◌, ◌≤◌, ◌+◌, ◌-◌, ◌*◌, ◌/◌, ◌%◌, ◌==◌, true, ℕ, zero, suc, List, [], ◌∷◌, ◌++◌, length}
use Rattle.std.specs.Prelude.{take, drop, codes, Ok, Err}
use Rattle.std.specs.List.{AllByRecursion, list_all}
use Rattle.byteorder.specs.Endian.{big_number}
use Rattle.station.specs.Disk.{Disk, Sector, sector_at, IsSettled}
use Rattle.roots.specs.declared.root.Root.{Root}
use Rattle.roots.specs.declared.pair.Roots.{Roots}
use Rattle.roots.specs.declared.pair.RootsFault.TheVariants.{ForeignMark}
use Rattle.roots.specs.Root.{Family}
use Rattle.roots.specs.Pair.{EachRoot}
use Rattle.roots.specs.Reading.{roots_in}
use Rattle.records.specs.Files.{Files, NamedFile, AreFiles, AreShort}
use Rattle.half_store.specs.Spelled.{files_bytes}

-- the marks of a volume of halves, and those of the other format
abbrev pub known_families : List Family
known_families = (codes "COBHALF1" ∷ []) ∷ (codes "COBVOL01" ∷ codes "COBVOL02" ∷ []) ∷ []

-- the sectors of a half of a volume of n sectors
unfoldable pub half : ℕ → ℕ
half n = (n - 2) / 2

-- the first sector of the half of a generation
unfoldable pub start : ℕ → ℕ → ℕ
start n g = 2 + (g % 2) * half n

-- the bytes of so many sectors from one on
abbrev pub bytes_of_sectors : List Sector → ℕ → ℕ → List ℕ
bytes_of_sectors image from zero = []
bytes_of_sectors image from (suc k) = bytes_of_sectors image from k ++ sector_at image (from + k)

-- the sectors of so many bytes
unfoldable pub count : ℕ → ℕ
count bytes = (bytes + 4095) / 4096

-- how many bytes of its half a root names
abbrev pub named_length : Root → ℕ
named_length root = big_number 8 root.payload

abbrev pub named_bytes : List Sector → Root → List ℕ
named_bytes image root =
    take (named_length root) (bytes_of_sectors image (start root.sectors root.generation) (count (named_length root)))

-- a root names no more bytes than a half has, and its other bytes are zeros
pub record IsHalfRoot (root : Root) : Type 0 where
  pub fits : named_length root ≤ 4096 * half root.sectors
  pub zeros : list_all (λ byte. byte == 0) (drop 8 root.payload) ≡ true

-- no arrival is past the generation
abbrev pub AreEarly : ℕ → Files → Type 0
AreEarly g files = AllByRecursion (λ (one : NamedFile). one.file.next_arrival ≤ g) files

-- a half of generation g may hold these files
pub record AreHalfFiles (g : ℕ) (files : Files) : Type 0 where
  pub sound : AreFiles files
  pub early : AreEarly g files
  pub short : AreShort files

-- the volume of n sectors in an image is of generation g and holds these files
pub record HoldsAt (n g : ℕ) (image : List Sector) (files : Files) : Type 0 where
  pub roots : Roots
  pub reads : roots_in known_families image ≡ Ok roots
  pub halves : EachRoot IsHalfRoot roots
  pub generation : roots.newest.generation ≡ g
  pub sectors : roots.newest.sectors ≡ n
  pub bytes : named_bytes image roots.newest ≡ files_bytes files
  pub counted : named_length roots.newest ≡ length (files_bytes files)
  pub sound : AreFiles files
  pub early : AreEarly g files
  pub short : AreShort files

abbrev pub Holds : List Sector → Files → Type 0
Holds image files = (n : ℕ) × (g : ℕ) × HoldsAt n g image files

-- on a settled disk
pub record Rests (n g : ℕ) (disk : Disk) (files : Files) : Type 0 where
  pub settled : IsSettled disk
  pub holds : HoldsAt n g disk.present files

-- the newest root of an image has the other format's mark
abbrev pub IsForeign : List Sector → Type 0
IsForeign image = roots_in known_families image ≡ Err ForeignMark
