-- What files a map of pages holds.
use Rattle.std.specs.Prelude.{◌≡◌, ◌<◌, ◌≤◌, ℕ, List, [], ◌∷◌, map, length, slice_index_or}
use Rattle.std.specs.List.{All, flat_map}
use Rattle.station.specs.Disk.{Sector}
use Rattle.pages.specs.Image.{Map, IsImageOf as HoldsMap}
use Rattle.btree.specs.Tree.{TreeNode}
use Rattle.btree.specs.Entries.{Entry, entries_of}
use Rattle.records.specs.declared.key.KeyOfReference.TheVariants.{Prime, Alternate}
use Rattle.records.specs.Files.{File, NamedFile, Files, AreFiles, AreShort}
use Rattle.volume_format.specs.Catalog.{Listing, listing_bytes, catalog_value, catalog_layout}
use Rattle.file_bytes.specs.Description.{padded_name}
use Rattle.volume_format.specs.Trees.{entry_under, layout_under, AreOf}
use Rattle.volume_format.specs.Chained.{chained_bytes}
use Rattle.volume_format.specs.Forest.{TreeLevels, tree_levels, IsForest}

abbrev pub no_tree : TreeLevels
no_tree = tree_levels (record { layout = catalog_layout 0; root = 0 }) []

-- a file of the volume, with its trees
pub record FileTrees : Type 0 where
  pub named : NamedFile
  pub prime : TreeLevels
  -- in order of the alternate keys
  pub alternates : List TreeLevels

abbrev pub trees_of : FileTrees → List TreeLevels
trees_of kept = kept.prime ∷ kept.alternates

abbrev pub listing_of : FileTrees → Listing
listing_of kept = record {
  spec = kept.named.file.spec;
  prime = kept.prime.tree.root;
  alternates = map (λ (tree : TreeLevels). tree.tree.root) kept.alternates;
  next_arrival = kept.named.file.next_arrival;
}

-- its entry in the catalog of a volume with this mark
abbrev pub catalog_entry : ℕ → FileTrees → Entry
catalog_entry mark kept =
    record {
      key = padded_name kept.named.name;
      value = catalog_value mark (listing_bytes (listing_of kept)) (length kept.named.file.rows);
    }

-- the tree of an alternate key has exactly the pairs of the rows
pub record IsIndex (file : File) (i : ℕ) (tree : TreeLevels) : Type 0 where
  pub layout : tree.tree.layout ≡ layout_under file.spec (Alternate i)
  pub whole : tree.record_bytes ≡ 0
  pub pairs : AreOf file.spec (Alternate i) file.rows tree.entries

-- the trees of the file are its rows and its pairs
pub record IsKept (generation : ℕ) (kept : FileTrees) : Type 0 where
  pub layout : kept.prime.tree.layout ≡ layout_under kept.named.file.spec Prime
  pub form : kept.prime.record_bytes ≡ chained_bytes kept.named.file.spec
  pub rows : kept.prime.entries ≡ map (entry_under kept.named.file.spec Prime) kept.named.file.rows
  pub count : length kept.alternates ≡ length kept.named.file.spec.alternates
  pub indexes : (i : ℕ) → i < length kept.named.file.spec.alternates
      → IsIndex kept.named.file i (slice_index_or kept.alternates i no_tree)
  pub arrivals : kept.named.file.next_arrival ≤ generation

-- the tree of the catalog
abbrev pub catalog_tree : Map → List (List TreeNode) → TreeLevels
catalog_tree m levels = tree_levels (record { layout = catalog_layout m.mark; root = m.catalog }) levels

-- The pages are a catalog, and the trees of the files that it lists.
pub record HasCatalog (m : Map) (kept : List FileTrees) : Type 0 where
  pub catalog : List (List TreeNode)
  pub forest : IsForest m.pages (catalog_tree m catalog ∷ flat_map trees_of kept)
  pub listed : entries_of (catalog_layout m.mark) catalog ≡ map (catalog_entry m.mark) kept
  pub each : All (IsKept m.generation) kept

pub record MapHolds (m : Map) (files : Files) : Type 0 where
  pub kept : List FileTrees
  pub keeps : HasCatalog m kept
  pub named : map (λ (one : FileTrees). one.named) kept ≡ files
  pub are : AreFiles files
  pub short : m.mark ≡ 0 → AreShort files

-- the image holds these files
abbrev pub Holds : List Sector → Files → Type 0
Holds image files = (m : Map) × HoldsMap image m × MapHolds m files
