-- A root sector (own choice): a mark of 8 bytes, the generation in 8, the number of sectors in 4, and the payload.
-- Numbers are big-endian.
use Rattle.std.specs.Prelude.{Bool, ◌&&◌, ℕ, ◌<◌, ◌≤◌, ◌+◌, ◌%◌, ◌^◌, ◌==◌, nat_eq, nat_lt, nat_le, List, [], ◌++◌}
use Rattle.std.specs.Prelude.{length, take, drop, position, slice_index_or, Option, Some, None, is_some, if◌then◌else◌}
use Rattle.std.specs.List.{starts_with, list_all}
use Rattle.std.specs.Option.{option_map, option_and_then}
use Rattle.byteorder.specs.Endian.{big_number, big_bytes}
use Rattle.station.specs.Disk.{Sector}
use Rattle.roots.specs.declared.root.Mark.{Mark}
use Rattle.roots.specs.declared.root.Root.{Root}
use Rattle.roots.specs.declared.root.RootSector.{RootSector}
use Rattle.roots.specs.declared.root.RootSector.TheVariants.{Blank, Broken, Valid}

-- the marks of one format, in the order of their introduction
abbrev pub Family : Type 0
Family = List (List ℕ)

-- a mark of the reader's own family, which is the first
abbrev pub own_mark : ℕ → Mark
own_mark version = record { family = 0; version = version }

-- the index of the first mark of a family that the sector begins with
abbrev pub version_in : Family → Sector → Option ℕ
version_in family bytes = position (λ mark. starts_with nat_eq bytes mark) family

-- the index of the first known family with such a mark
abbrev pub family_in : List Family → Sector → Option ℕ
family_in known bytes = position (λ family. is_some (version_in family bytes)) known

abbrev pub mark_of_family : ℕ → Option ℕ → Option Mark
mark_of_family family version = option_map (λ n. record { family = family; version = n }) version

-- the mark that the sector begins with
abbrev pub mark_in : List Family → Sector → Option Mark
mark_in known bytes = option_and_then
    (λ family. mark_of_family family (version_in (slice_index_or known family []) bytes)) (family_in known bytes)

abbrev pub root_with : Sector → Mark → Root
root_with bytes mark = record {
  mark = mark;
  generation = big_number 8 (drop 8 bytes);
  sectors = big_number 4 (drop 16 bytes);
  payload = drop 20 bytes;
}

-- a generation below 2^63 and of the parity of the sector's number; from 1,024 to 921,600 sectors, which the device has
abbrev pub is_valid : ℕ → ℕ → Root → Bool
is_valid count number root =
    nat_lt root.generation (2 ^ 63) && (root.generation % 2 == number) && nat_le 1024 root.sectors
    && nat_le root.sectors 921600 && nat_le root.sectors count

-- within the bounds of a volume, on a device of so many sectors
pub record IsWithinVolume (count : ℕ) (root : Root) : Type 0 where
  pub generation : root.generation < 2 ^ 63
  pub least : 1024 ≤ root.sectors
  pub most : root.sectors ≤ 921600
  pub there : root.sectors ≤ count

-- where a sector is a root, that root is so
abbrev pub IfValid : RootSector → (Root → Type 0) → Type 0
IfValid Blank so = Unit {0}
IfValid Broken so = Unit {0}
IfValid (Valid root) so = so root

abbrev pub valid_at : ℕ → ℕ → Root → RootSector
valid_at count number root = if is_valid count number root then Valid root else Broken

abbrev pub root_with_mark : ℕ → ℕ → Sector → Option Mark → RootSector
root_with_mark count number bytes None = Broken
root_with_mark count number bytes (Some mark) = valid_at count number (root_with bytes mark)

abbrev pub is_blank : Sector → Bool
is_blank bytes = list_all (λ byte. byte == 0) bytes

-- what the root sector of this number is
abbrev pub root_in : List Family → ℕ → ℕ → Sector → RootSector
root_in known count number bytes =
    if is_blank bytes then Blank else root_with_mark count number bytes (mark_in known bytes)

-- a sector after these bytes were put there
abbrev pub put_at : ℕ → List ℕ → Sector → Sector
put_at at part bytes = take at bytes ++ part ++ drop (at + length part) bytes

-- the bytes of a root sector
abbrev pub root_bytes : List ℕ → Root → Sector
root_bytes mark root = mark ++ big_bytes 8 root.generation ++ big_bytes 4 root.sectors ++ root.payload
