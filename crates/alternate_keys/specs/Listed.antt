-- A file among those that a map keeps.
use Rattle.std.specs.Prelude.{◌≡◌, ◌+◌, ◌*◌, ℕ, List, drop, Option, Some, None}
use Rattle.std.specs.List.{All}
use Rattle.byteorder.specs.Endian.{big_number}
use Rattle.pages.specs.Image.{Map}
use Rattle.btree.specs.Rooted.{RootedTree}
use Rattle.btree.specs.Entries.{Entry}
use Rattle.records.specs.declared.key.KeyOfReference.{KeyOfReference}
use Rattle.records.specs.declared.key.KeyOfReference.TheVariants.{Prime, Alternate}
use Rattle.records.specs.Files.{File, IsNamed}
use Rattle.volume_format.specs.Catalog.{catalog_layout}
use Rattle.volume_format.specs.Forest.{IsTreeIn}
use Rattle.volume_format.specs.Volume.{FileTrees, IsKept, trees_of, catalog_entry}

-- this file was found, with its trees
pub record IsFoundFile (m : Map) (found : Option File) (kept : FileTrees) : Type 0 where
  pub there : found ≡ Some kept.named.file
  pub is : IsKept m.generation kept
  pub named : IsNamed kept.named
  pub grow : All (IsTreeIn m.pages) (trees_of kept)

-- what the catalog says of a name under which this file was found, or none
abbrev pub IsListed : Map → Option File → Option Entry → Type 0
IsListed m found None = found ≡ None
IsListed m found (Some entry) = (kept : FileTrees) × IsFoundFile m found kept × (entry ≡ catalog_entry m.mark kept)

-- the page of the root of a key's tree, by a value of the catalog
abbrev pub root_in : KeyOfReference → List ℕ → ℕ
root_in Prime value = big_number 4 (drop 43 value)
root_in (Alternate i) value = big_number 4 (drop (47 + 4 * i) value)

-- the tree of the catalog, on a volume with this mark
abbrev pub catalog_at : ℕ → ℕ → RootedTree
catalog_at mark root = record { layout = catalog_layout mark; root = root }
