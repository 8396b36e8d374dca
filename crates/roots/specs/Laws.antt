-- What the roots promise of the next one.
use Rattle.std.specs.Prelude.{◌≡◌, ◌<◌, ◌≤◌, ◌+◌, ◌%◌, true, false, ℕ, List, [], length, slice_set, slice_index_or}
use Rattle.std.specs.Prelude.{Some, Ok}
use Rattle.station.specs.Disk.{Sector, sector_at}
use Rattle.roots.specs.declared.root.Mark.{Mark}
use Rattle.roots.specs.declared.root.Root.{Root}
use Rattle.roots.specs.declared.root.RootSector.TheVariants.{Valid}
use Rattle.roots.specs.declared.pair.Roots.{Roots}
use Rattle.roots.specs.Root.{Family, mark_in, is_valid, is_blank, root_in, root_bytes, IsWithinVolume}
use Rattle.roots.specs.Pair.{EachRoot}
use Rattle.roots.specs.Reading.{roots_in}

-- a root of the next generation of the same volume, with the same mark or a later one of its family
pub record Follows (old new : Root) : Type 0 where
  pub generation : new.generation ≡ old.generation + 1
  pub sectors : new.sectors ≡ old.sectors
  pub family : new.mark.family ≡ old.mark.family
  pub version : old.mark.version ≤ new.mark.version

-- once it stands in the sector of its parity, it is the newest
abbrev pub NextIsNewest : Type 0
NextIsNewest = (known : List Family) (image : List Sector) (now : Roots) (next : Root) (bytes : Sector)
    → roots_in known image ≡ Ok now → Follows now.newest next
    → root_in known (length image) (next.generation % 2) bytes ≡ Valid next
    → roots_in known (slice_set image (next.generation % 2) bytes)
    ≡ Ok (record { newest = next; older = Some now.newest })

-- a root's bytes are read as that root
abbrev pub ReadsBack : Type 0
ReadsBack = (known : List Family) (count number : ℕ) (mark : List ℕ) (root : Root)
    → length mark ≡ 8 → is_blank (root_bytes mark root) ≡ false → mark_in known (root_bytes mark root) ≡ Some root.mark
    → is_valid count number root ≡ true
    → root_in known count number (root_bytes mark root) ≡ Valid root

-- a root is that of the sector of its parity
abbrev pub IsRootIn : List Family → List Sector → Root → Type 0
IsRootIn known image root =
    root_in known (length image) (root.generation % 2) (sector_at image (root.generation % 2)) ≡ Valid root

-- a mark of a known family
pub record IsKnown (known : List Family) (mark : Mark) : Type 0 where
  pub family : mark.family < length known
  pub version : mark.version < length (slice_index_or known mark.family [])

-- the roots of an image stand in it and are within the bounds, with known marks, and the newest has a mark of the first
-- family
pub record AreRootsOf (known : List Family) (image : List Sector) (roots : Roots) : Type 0 where
  pub there : EachRoot (IsRootIn known image) roots
  pub within : EachRoot (IsWithinVolume (length image)) roots
  pub known_marks : EachRoot (λ root. IsKnown known root.mark) roots
  pub own_family : roots.newest.mark.family ≡ 0

abbrev pub RootsStand : Type 0
RootsStand = (known : List Family) (image : List Sector) (roots : Roots) → roots_in known image ≡ Ok roots
    → AreRootsOf known image roots
