-- A file with its trees, and a catalog with its files, that are found in a map of pages.
use Rattle.std.specs.Prelude.{◌≡◌, ◌≤◌, ℕ, Bool, List, ◌∷◌, length, map, Option}
use Rattle.std.specs.List.{All, AllByRecursion, flat_map}
use Rattle.station.specs.Disk.{Sector}
use Rattle.pages.specs.Image.{Map}
use Rattle.btree.specs.Entries.{Entry, entries_of}
use Rattle.btree.specs.Tree.{TreeNode}
use Rattle.btree_check.specs.Walks.{CanMark, Marks}
use Rattle.records.specs.Files.{NamedFile, Files, IsNamed}
use Rattle.volume_format.specs.Catalog.{catalog_layout}
use Rattle.volume_format.specs.Forest.{IsTreeIn, pages_within}
use Rattle.volume_format.specs.Volume.{FileTrees, IsKept, trees_of, catalog_entry, catalog_tree}

-- a file with its trees, of which an entry of the catalog tells, on a volume with this mark
pub record IsCatalogFile (mark : ℕ) (pages : List (Option Sector)) (generation : ℕ) (entry : Entry) (kept : FileTrees) : Type 0 where
  pub is : IsKept generation kept
  pub named : IsNamed kept.named
  pub grow : All (IsTreeIn pages) (trees_of kept)
  pub listed : catalog_entry mark kept ≡ entry

-- it is there, and exactly its pages were marked; and there is none that can be marked
pub record FindsFile (mark : ℕ) (pages : List (Option Sector)) (generation : ℕ) (entry : Entry) (one : NamedFile) (old new : List Bool) : Type 0 where
  pub kept : FileTrees
  pub found : IsCatalogFile mark pages generation entry kept
  pub is : kept.named ≡ one
  pub marks : Marks old (pages_within (trees_of kept)) new

abbrev pub NoFile : ℕ → List (Option Sector) → ℕ → Entry → List Bool → Type 0
NoFile mark pages generation entry old = (kept : FileTrees) → IsCatalogFile mark pages generation entry kept → CanMark old (pages_within (trees_of kept)) → ⊥

-- a catalog and the files that it lists, with their trees
pub record IsCatalog (m : Map) (generation : ℕ) (catalog : List (List TreeNode)) (kept : List FileTrees) : Type 0 where
  pub grow : All (IsTreeIn m.pages) (catalog_tree m catalog ∷ flat_map trees_of kept)
  pub listed : entries_of (catalog_layout m.mark) catalog ≡ map (catalog_entry m.mark) kept
  pub each : All (IsKept generation) kept
  pub named : AllByRecursion IsNamed (map (λ (one : FileTrees). one.named) kept)
  pub few : length kept ≤ 255

-- there is one, of these files, and exactly its pages were marked; and none that can be marked
pub record FindsCatalog (m : Map) (generation : ℕ) (files : Files) (old new : List Bool) : Type 0 where
  pub catalog : List (List TreeNode)
  pub kept : List FileTrees
  pub is : IsCatalog m generation catalog kept
  pub are : map (λ (one : FileTrees). one.named) kept ≡ files
  pub marks : Marks old (pages_within (catalog_tree m catalog ∷ flat_map trees_of kept)) new

abbrev pub NoCatalog : Map → ℕ → List Bool → Type 0
NoCatalog m generation old = (catalog : List (List TreeNode)) (kept : List FileTrees) → IsCatalog m generation catalog kept → CanMark old (pages_within (catalog_tree m catalog ∷ flat_map trees_of kept)) → ⊥
