-- Sectors that are to be written, and a root that names them.
use Rattle.std.specs.Prelude.{◌≡◌, ℕ, List, [], ◌∷◌, ◌⊎◌, ◌<◌, length, slice_set, map, Contains}
use Rattle.std.specs.List.{All}
use Rattle.station.specs.Disk.{Sector, OnlyWrote, sector_at}
use Rattle.station.specs.State.{State, Event, wrote}
use Rattle.station.specs.History.{EachImage}
use Rattle.station.specs.declared.blocks.Block.{Block}

-- each block is for a sector that is as Q says
abbrev pub SectorsAre : (ℕ → Type 0) → List Block → Type 0
SectorsAre Q blocks = All (λ b. Q b.sector) blocks

-- after these writes
abbrev pub wrote_all : State → List Block → State
wrote_all s [] = s
wrote_all s (b ∷ blocks) = wrote_all (wrote s b.sector b.bytes) blocks

-- the sectors after them
abbrev pub with_all : List Sector → List Block → List Sector
with_all base [] = base
with_all base (b ∷ blocks) = with_all (slice_set base b.sector b.bytes) blocks

-- the sector is that of a block
abbrev pub IsAt : List Block → ℕ → Sector → Type 0
IsAt blocks i bytes = Contains (map (λ b. b.sector) blocks) i

-- nothing was told, and all that waits is writes to sectors of these blocks
pub record IsWriting (seen : List Event) (base : List Sector) (blocks : List Block) (state : State) : Type 0 where
  pub events : state.events ≡ seen
  pub only : OnlyWrote base (IsAt blocks) state.disk

-- all other sectors are the same
pub record SameOutside (base : List Sector) (blocks : List Block) (image : List Sector) : Type 0 where
  pub count : length image ≡ length base
  pub each : (i : ℕ) → i < length image → (sector_at image i ≡ sector_at base i) ⊎ Contains (map (λ b. b.sector) blocks) i

-- the sectors, or those with one replaced
abbrev pub WithOrWithout : List Sector → ℕ → Sector → List Sector → Type 0
WithOrWithout base i bytes image = (image ≡ base) ⊎ (image ≡ slice_set base i bytes)

-- the root and all sectors but those of the blocks are the old ones, or all are new
pub data OldOrNew (base : List Sector) (blocks : List Block) (root : ℕ) (bytes : Sector) (image : List Sector) : Type 0 where
  Old : SameOutside base blocks image → OldOrNew base blocks root bytes image
  New : image ≡ slice_set (with_all base blocks) root bytes → OldOrNew base blocks root bytes image

-- the events are these, and whatever a crash leaves has P
pub record CrashLeaves (seen : List Event) (P : List Sector → Type 0) (state : State) : Type 0 where
  pub events : state.events ≡ seen
  pub images : EachImage P state
