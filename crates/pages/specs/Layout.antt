-- What the sectors of a volume spell (own choice). Numbers are big-endian.
use Rattle.std.specs.Prelude.{◌≡◌, ◌&&◌, ℕ, ◌+◌, ◌/◌, ◌==◌, List, [], ◌∷◌, take, drop, replicate, codes, Option, Some}
use Rattle.std.specs.Prelude.{None, is_some, Result, Ok, Err, if◌then◌else◌}
use Rattle.std.specs.List.{flat_map, list_all}
use Rattle.byteorder.specs.Endian.{big_number, big_bytes}
use Rattle.station.specs.Disk.{Sector}
use Rattle.roots.specs.declared.root.Root.{Root}
use Rattle.roots.specs.declared.pair.Roots.{Roots}
use Rattle.roots.specs.declared.pair.RootsFault.{RootsFault}
use Rattle.roots.specs.declared.pair.RootsFault.TheVariants.{ForeignMark}
use Rattle.roots.specs.Root.{Family}
use Rattle.roots.specs.Reading.{roots_in}
use Rattle.pages.specs.declared.volume_mark.VolumeMark.{VolumeMark}
use Rattle.pages.specs.declared.volume_mark.VolumeMark.TheVariants.{First, Second}

-- the marks of a volume of pages, and those of the other format
abbrev pub known_families : List Family
known_families = (codes "COBVOL01" ∷ codes "COBVOL02" ∷ []) ∷ (codes "COBHALF1" ∷ []) ∷ []

-- the index of a mark among the marks of a volume of pages
abbrev pub version_of : VolumeMark → ℕ
version_of First = 0
version_of Second = 1

-- the numbers of four bytes
unfoldable pub words : List ℕ → List ℕ
words (a ∷ b ∷ c ∷ d ∷ more) = big_number 4 (a ∷ b ∷ c ∷ d ∷ []) ∷ words more
words _ = []

-- numbers as four bytes each
abbrev pub number_bytes : List ℕ → List ℕ
number_bytes numbers = flat_map (big_bytes 4) numbers

pub record VolumeRoot : Type 0 where
  -- 0 for the first mark of a volume of pages, 1 for the second
  pub mark : ℕ
  pub generation : ℕ
  pub sectors : ℕ
  -- the page of the catalog's root, 0 for none
  pub catalog : ℕ
  -- the sector of each map sector, 0 for a map of zeros
  pub maps : List ℕ

-- a volume has a map sector for each 1,024 sectors, the last of them begun
abbrev pub map_count : ℕ → ℕ
map_count sectors = (sectors + 1023) / 1024

-- the payload of a root: the catalog's page, the number of map sectors, these, and zeros
unfoldable pub root_spelled : Root → List ℕ → Option VolumeRoot
root_spelled root (catalog ∷ count ∷ rest) =
    if (count == map_count root.sectors) && list_all (λ word. word == 0) (drop count rest)
    then Some
    (record {
      mark = root.mark.version;
      generation = root.generation;
      sectors = root.sectors;
      catalog = catalog;
      maps = take count rest;
    })
    else None
root_spelled root _ = None

abbrev pub volume_root : Root → Option VolumeRoot
volume_root root = root_spelled root (words root.payload)

-- beside an older root, whose payload is sound too
abbrev pub beside : Option Root → Option VolumeRoot → Option VolumeRoot
beside None root = root
beside (Some older) root = if is_some (volume_root older) then root else None

abbrev pub root_of : Result Roots RootsFault → Option VolumeRoot
root_of (Ok roots) = beside roots.older (volume_root roots.newest)
root_of (Err fault) = None

-- the newest root of an image
abbrev pub newest : List Sector → Option VolumeRoot
newest image = root_of (roots_in known_families image)

-- the newest root of an image has the other format's mark
abbrev pub IsForeign : List Sector → Type 0
IsForeign image = roots_in known_families image ≡ Err ForeignMark

-- a map sector that is not used
unfoldable pub zeros : List ℕ
zeros = replicate 1024 0
