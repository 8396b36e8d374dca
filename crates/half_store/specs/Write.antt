-- What is written, and why it may not be.
use Rattle.std.specs.Prelude.{◌≡◌, ◌⊎◌, ◌<◌, ◌≤◌, ◌+◌, ◌*◌, ◌%◌, ◌^◌, ◌==◌, true, ℕ, List, length, take, drop}
use Rattle.std.specs.List.{list_all}
use Rattle.station.specs.Disk.{Sector}
use Rattle.roots.specs.declared.root.Root.{Root}
use Rattle.roots.specs.declared.root.RootSector.TheVariants.{Valid}
use Rattle.roots.specs.Root.{own_mark, root_in}
use Rattle.records.specs.declared.fault.StoreFault.{StoreFault}
use Rattle.records.specs.declared.fault.StoreFault.TheVariants.{Device, Full, Memory}
use Rattle.half_store.specs.Half.{known_families, half, start, count, named_length}
use Rattle.half_store.specs.Blocks.{blocks_to}
use Rattle.station.specs.declared.blocks.Block.{Block}

-- the bytes are the root sector of a volume of n sectors and generation g that names so many bytes, on a device that
-- has them
pub record SpellsRoot (n g bytes : ℕ) (sector : Sector) : Type 0 where
  pub root : Root
  pub mark : root.mark ≡ own_mark 0
  pub generation : root.generation ≡ g
  pub sectors : root.sectors ≡ n
  pub counted : named_length root ≡ bytes
  pub zeros : list_all (λ byte. byte == 0) (drop 8 root.payload) ≡ true
  pub valid : (there : ℕ) → n ≤ there → root_in known_families there (g % 2) sector ≡ Valid root

-- the blocks and the root by which these bytes come to the half of the next generation
pub record IsDraft (n g : ℕ) (bytes : List ℕ) (planned : List Block) (sector : Sector) : Type 0 where
  pub fits : length bytes ≤ 4096 * half n
  pub long : List ℕ
  pub whole : take (length bytes) long ≡ bytes
  pub blocks : planned ≡ blocks_to (start n (g + 1)) long (count (length bytes))
  pub root : SpellsRoot n (g + 1) (length bytes) sector

-- they don't fit a half, or no generation is left
abbrev pub IsFull : ℕ → ℕ → ℕ → Type 0
IsFull n g bytes = (4096 * half n < bytes) ⊎ (2 ^ 63 ≤ g + 1)

-- the causes of a write that is refused
abbrev pub IsCause : StoreFault → Type 0
IsCause fault = (fault ≡ Device) ⊎ (fault ≡ Full) ⊎ (fault ≡ Memory)
