-- What a volume in an image is, except for its files.
use Rattle.std.specs.Prelude.{◌≡◌, ◌-◌, List, Ok}
use Rattle.station.specs.Disk.{Sector}
use Rattle.roots.specs.declared.root.Root.{Root}
use Rattle.roots.specs.declared.pair.Roots.{Roots}
use Rattle.roots.specs.Root.{Family}
use Rattle.roots.specs.Reading.{roots_in}
use Rattle.pages.specs.Layout.{known_families as page_families}
use Rattle.pages.specs.Image.{Volume, Reads}
use Rattle.pages.specs.Use.{free_count}
use Rattle.half_store.specs.Half.{known_families as half_families, half, count, named_length}
use Rattle.volume_commands.specs.declared.volume_state.Layout.{Layout}
use Rattle.volume_commands.specs.declared.volume_state.Layout.TheVariants.{Trees, Halves}
use Rattle.volume_commands.specs.declared.volume_state.VolumeState.{VolumeState}

-- the newest root of an image, to a reader whose own family of marks is the first of these
pub record IsNewest (known : List Family) (image : List Sector) (root : Root) : Type 0 where
  pub roots : Roots
  pub reads : roots_in known image ≡ Ok roots
  pub newest : roots.newest ≡ root

-- the mark, the generation and the sectors are those of the newest root
pub record HasRoot (known : List Family) (image : List Sector) (state : VolumeState) (root : Root) : Type 0 where
  pub is : IsNewest known image root
  pub version : state.version ≡ root.mark.version
  pub generation : state.generation ≡ root.generation
  pub sectors : state.sectors ≡ root.sectors

-- a volume of trees: free sectors are those that neither the root nor its maps name
pub record IsStateOfTrees (image : List Sector) (state : VolumeState) : Type 0 where
  pub root : Root
  pub has : HasRoot page_families image state root
  pub volume : Volume
  pub reads : Reads image volume
  pub free : state.free ≡ free_count volume

-- a volume of halves: free sectors are those of a half that the files leave
pub record IsStateOfHalves (image : List Sector) (state : VolumeState) : Type 0 where
  pub root : Root
  pub has : HasRoot half_families image state root
  pub free : state.free ≡ half root.sectors - count (named_length root)

abbrev pub IsStateAs : Layout → List Sector → VolumeState → Type 0
IsStateAs Trees image state = IsStateOfTrees image state
IsStateAs Halves image state = IsStateOfHalves image state

abbrev pub IsStateOf : List Sector → VolumeState → Type 0
IsStateOf image state = IsStateAs state.layout image state
