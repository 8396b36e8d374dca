-- The root sector of a volume.
use Rattle.std.specs.Prelude.{◌≡◌, ◌≤◌, ◌-◌, ◌%◌, ℕ, zero, suc, List, ◌∷◌, ◌++◌, length, replicate, codes, Some}
use Rattle.station.specs.Disk.{Sector}
use Rattle.roots.specs.declared.root.Root.{Root}
use Rattle.roots.specs.declared.root.RootSector.TheVariants.{Valid}
use Rattle.roots.specs.Root.{own_mark, root_in}
use Rattle.pages.specs.Layout.{VolumeRoot, volume_root, known_families}

-- the numbers of a payload
abbrev pub payload_words : ℕ → List ℕ → List ℕ
payload_words catalog maps = catalog ∷ length maps ∷ maps ++ replicate (1017 - length maps) 0

-- the bytes of a mark of a volume of pages
abbrev pub own_bytes : ℕ → List ℕ
own_bytes zero = codes "COBVOL01"
own_bytes (suc n) = codes "COBVOL02"

-- the bytes are a root sector, on a device of any size that has the volume's sectors
pub record SpellsRoot (w : VolumeRoot) (bytes : Sector) : Type 0 where
  pub root : Root
  pub mark : root.mark ≡ own_mark w.mark
  pub generation : root.generation ≡ w.generation
  pub sectors : root.sectors ≡ w.sectors
  pub reads : volume_root root ≡ Some w
  pub valid : (count : ℕ) → w.sectors ≤ count → root_in known_families count (w.generation % 2) bytes ≡ Valid root
