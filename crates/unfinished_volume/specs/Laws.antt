-- What a sector 0 that is no root means for a reader.
use Rattle.std.specs.Prelude.{◌≡◌, ℕ, List, slice_index_or, Err}
use Rattle.std.specs.List.{AllByRecursion}
use Rattle.station.specs.Disk.{Sector}
use Rattle.roots.specs.declared.pair.RootsFault.TheVariants.{Damaged}
use Rattle.roots.specs.Root.{Family}
use Rattle.roots.specs.Reading.{roots_in}
use Rattle.unfinished_volume.specs.Hidden.{mark_letter, IsRootHidden}

-- each mark of each family begins with that letter
abbrev pub HaveMarkLetter : List Family → Type 0
HaveMarkLetter known = AllByRecursion (λ (family : Family).
    AllByRecursion (λ (mark : List ℕ). slice_index_or mark 0 0 ≡ mark_letter) family) known

-- No reader of these families finds a root, whatever the other sectors are.
abbrev pub HiddenRootIsDamage : Type 0
HiddenRootIsDamage = (known : List Family) (image : List Sector) → HaveMarkLetter known → IsRootHidden image
    → roots_in known image ≡ Err Damaged
