-- A file of the catalog, with its trees among those of others.
use Rattle.std.specs.Prelude.{◌≡◌, ◌<◌, ◌≤◌, ◌^◌, ◌++◌, ℕ, List, map, length, drop, slice_index_or, Option}
use Rattle.station.specs.Disk.{Sector}
use Rattle.station.specs.declared.device.Device.{Ghosts as Devices}
use Rattle.pages.specs.Pages.{Agrees}
use Rattle.pages.specs.declared.page_map.PageMap.{PageMap}
use Rattle.btree.specs.Calls.{pages_on}
use Rattle.btree.specs.Rooted.{RootedTree}
use Rattle.records.specs.declared.key.KeyOfReference.TheVariants.{Alternate}
use Rattle.records.specs.Spec.{Spec}
use Rattle.records.specs.Rows.{Row}
use Rattle.records.specs.Files.{File, NamedFile, IsNamed}
use Rattle.volume_format.specs.Catalog.{listing_bytes}
use Rattle.volume_format.specs.Trees.{layout_under}
use Rattle.volume_format.specs.Forest.{TreeLevels, IsForest}
use Rattle.volume_format.specs.Volume.{FileTrees, IsKept, IsIndex, trees_of, listing_of, no_tree}
use Rattle.alternate_keys.specs.Listed.{root_in}
use Rattle.alternate_keys.specs.Seen.{HasPairs}

-- the trees of a file stand between these others, and the catalog says this of it
pub record HasFileTrees (named : NamedFile) (generation : ℕ) (pages : List (Option Sector)) (left right : List TreeLevels) (listing : List ℕ) : Type 0 where
  pub kept : FileTrees
  pub named_is : kept.named ≡ named
  pub forest : IsForest pages (left ++ (trees_of kept ++ right))
  pub is : IsKept generation kept
  pub says : listing ≡ listing_bytes (listing_of kept)

-- and the file is of this spec, on a volume that isn't too large
pub record HasTrees (spec : Spec) (named : NamedFile) (generation : ℕ) (pages : List (Option Sector)) (left right : List TreeLevels) (listing : List ℕ) : Type 0 where
  pub placed : HasFileTrees named generation pages left right listing
  pub is_named : IsNamed named
  pub spec_is : named.file.spec ≡ spec
  pub few : generation < 2 ^ 63
  pub small : length pages ≤ 2 ^ 20

-- the tree of an alternate key, as the catalog says
abbrev pub listed_tree : Spec → ℕ → List ℕ → RootedTree
listed_tree spec i listing = record { layout = layout_under spec (Alternate i); root = root_in (Alternate i) listing }

-- the trees of the alternate keys have the pairs of these rows
abbrev pub HasAllPairs : Spec → List (Option Sector) → List Row → List ℕ → Type 0
HasAllPairs spec pages rows listing = (i : ℕ) → i < length spec.alternates → HasPairs spec (Alternate i) pages rows (listed_tree spec i listing)

-- the roots of trees, in their order
abbrev pub roots_of : List TreeLevels → List ℕ
roots_of trees = map (λ (tree : TreeLevels). tree.tree.root) trees

-- the trees of the alternate keys of a file stand between these others, and the catalog says their roots
pub record HasIndexes (file : File) (pages : List (Option Sector)) (left right trees : List TreeLevels) (listing : List ℕ) : Type 0 where
  pub forest : IsForest pages (left ++ (trees ++ right))
  pub count : length trees ≡ length file.spec.alternates
  pub indexes : (i : ℕ) → i < length file.spec.alternates → IsIndex file i (slice_index_or trees i no_tree)
  pub roots : (i : ℕ) → i < length file.spec.alternates → (slice_index_or trees i no_tree).tree.root ≡ root_in (Alternate i) listing

-- the first so many of them have become those of a file, with these roots
pub record HaveBecome (file : File) (pages : List (Option Sector)) (left right trees : List TreeLevels) (i : ℕ) (roots : List ℕ) : Type 0 where
  pub done : List TreeLevels
  pub count : length done ≡ i
  pub forest : IsForest pages (left ++ (done ++ (drop i trees ++ right)))
  pub indexes : (k : ℕ) → k < i → IsIndex file k (slice_index_or done k no_tree)
  pub roots_are : roots_of done ≡ roots

module _ {D : Type 0} (d : Devices D) where
  -- where the device is honest and agrees with the map of pages, of each file of this spec that has its trees there
  abbrev pub OnTrees : Spec → PageMap → D → List ℕ → (NamedFile → ℕ → List TreeLevels → List TreeLevels → Type 0) → Type 0
  OnTrees spec pages now listing claim =
      d.is_honest now → Agrees pages (d.state now).disk → (named : NamedFile) (generation : ℕ) (left right : List TreeLevels) → HasTrees spec named generation (pages_on d pages now) left right listing →
      claim named generation left right

  -- and of each that has the trees of its alternate keys there
  abbrev pub OnIndexes : Spec → PageMap → D → List ℕ → (File → List TreeLevels → List TreeLevels → List TreeLevels → Type 0) → Type 0
  OnIndexes spec pages now listing claim =
      d.is_honest now → Agrees pages (d.state now).disk → (held : File) (left right trees : List TreeLevels) → held.spec ≡ spec → HasIndexes held (pages_on d pages now) left right trees listing →
      claim held left right trees
