-- The trees of alternate keys that are found in a map of pages.
use Rattle.std.specs.Prelude.{◌≡◌, ◌<◌, ◌+◌, ◌*◌, ℕ, Bool, List, length, drop, Option, slice_index_or}
use Rattle.std.specs.List.{All}
use Rattle.byteorder.specs.Endian.{big_number}
use Rattle.station.specs.Disk.{Sector}
use Rattle.btree_check.specs.Walks.{CanMark, Marks}
use Rattle.records.specs.declared.key.KeyOfReference.TheVariants.{Alternate}
use Rattle.records.specs.Spec.{Spec}
use Rattle.records.specs.Rows.{Row}
use Rattle.volume_format.specs.Trees.{AreOf, layout_under}
use Rattle.volume_format.specs.Forest.{TreeLevels, IsTreeIn, pages_under, pages_within}
use Rattle.volume_format.specs.Volume.{no_tree}

-- the page of the root of an alternate key's tree, by a value of the catalog
abbrev pub root_at : List ℕ → ℕ → ℕ
root_at value i = big_number 4 (drop (47 + 4 * i) value)

-- a tree, which has no chains, is exactly the pairs of these rows under an alternate key
pub record HasIndex (spec : Spec) (rows : List Row) (i : ℕ) (tree : TreeLevels) : Type 0 where
  pub layout : tree.tree.layout ≡ layout_under spec (Alternate i)
  pub whole : tree.record_bytes ≡ 0
  pub pairs : AreOf spec (Alternate i) rows tree.entries

-- the trees of so many alternate keys are the pairs of a file's rows, and have the roots that a value of the catalog names
pub record AreIndexes (pages : List (Option Sector)) (spec : Spec) (rows : List Row) (value : List ℕ) (count : ℕ) (trees : List TreeLevels) : Type 0 where
  pub many : length trees ≡ count
  pub each : (i : ℕ) → i < count → HasIndex spec rows i (slice_index_or trees i no_tree)
  pub rooted : (i : ℕ) → i < count → (slice_index_or trees i no_tree).tree.root ≡ root_at value i
  pub grow : All (IsTreeIn pages) trees

-- there are such trees, and exactly their pages were marked; and none that can be marked
pub record FindsIndexes (pages : List (Option Sector)) (spec : Spec) (rows : List Row) (value : List ℕ) (count : ℕ) (old new : List Bool) : Type 0 where
  pub trees : List TreeLevels
  pub are : AreIndexes pages spec rows value count trees
  pub marks : Marks old (pages_within trees) new

abbrev pub NoIndexes : List (Option Sector) → Spec → List Row → List ℕ → ℕ → List Bool → Type 0
NoIndexes pages spec rows value count old = (trees : List TreeLevels) → AreIndexes pages spec rows value count trees → CanMark old (pages_within trees) → ⊥

-- the tree of one of them, and exactly its pages were marked; and none that can be marked
pub record FindsIndex (pages : List (Option Sector)) (spec : Spec) (rows : List Row) (value : List ℕ) (i : ℕ) (old new : List Bool) : Type 0 where
  pub tree : TreeLevels
  pub is : HasIndex spec rows i tree
  pub rooted : tree.tree.root ≡ root_at value i
  pub grows : IsTreeIn pages tree
  pub marks : Marks old (pages_under tree) new

abbrev pub NoIndex : List (Option Sector) → Spec → List Row → List ℕ → ℕ → List Bool → Type 0
NoIndex pages spec rows value i old = (tree : TreeLevels) → HasIndex spec rows i tree → tree.tree.root ≡ root_at value i → IsTreeIn pages tree → CanMark old (pages_under tree) → ⊥
