-- The files that entries of the catalog tell of, with their trees, in a map of pages.
use Rattle.std.specs.Prelude.{◌≡◌, ◌≤◌, ◌++◌, ℕ, Bool, List, [], ◌∷◌, length, map, Option}
use Rattle.std.specs.List.{AllByRecursion, flat_map}
use Rattle.station.specs.Disk.{Sector}
use Rattle.btree.specs.Entries.{Entry}
use Rattle.btree_check.specs.Walks.{CanMark, Marks}
use Rattle.records.specs.Files.{NamedFile, Files}
use Rattle.volume_format.specs.Forest.{pages_within}
use Rattle.volume_format.specs.Volume.{FileTrees, trees_of, catalog_entry}
use Rattle.file_recovery.specs.Kept.{IsCatalogFile, FindsFile}

-- a file with its trees for each entry, in their order
pub record AreFound (mark : ℕ) (pages : List (Option Sector)) (generation : ℕ) (entries : List Entry) (kept : List FileTrees) : Type 0 where
  pub listed : map (catalog_entry mark) kept ≡ entries
  pub each : AllByRecursion (λ (one : FileTrees). IsCatalogFile mark pages generation (catalog_entry mark one) one) kept

abbrev pub pages_of_files : List FileTrees → List ℕ
pages_of_files kept = pages_within (flat_map trees_of kept)

-- they are there, and exactly their pages were marked; and there are none, at most 255, that can be marked
pub record FindsFiles (mark : ℕ) (pages : List (Option Sector)) (generation : ℕ) (entries : List Entry) (files : Files) (old new : List Bool) : Type 0 where
  pub kept : List FileTrees
  pub found : AreFound mark pages generation entries kept
  pub are : map (λ (one : FileTrees). one.named) kept ≡ files
  pub marks : Marks old (pages_of_files kept) new

abbrev pub NoFiles : ℕ → List (Option Sector) → ℕ → List Entry → List Bool → Type 0
NoFiles mark pages generation entries old = (kept : List FileTrees) → AreFound mark pages generation entries kept → length kept ≤ 255 → CanMark old (pages_of_files kept) → ⊥

-- the file of that entry came after the others
pub record AddsFile (mark : ℕ) (pages : List (Option Sector)) (generation : ℕ) (entry : Entry) (files more : Files) (old new : List Bool) : Type 0 where
  pub one : NamedFile
  pub finds : FindsFile mark pages generation entry one old new
  pub added : more ≡ files ++ one ∷ []
