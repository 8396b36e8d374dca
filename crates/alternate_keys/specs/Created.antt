-- What making a file does to pages.
use Rattle.std.specs.Prelude.{◌≡◌, ◌<◌, ◌++◌, true, false, ℕ, zero, suc, List, [], ◌∷◌, length, slice_index_or}
use Rattle.std.specs.Prelude.{Result, Err, OnOk, IfErr}
use Rattle.station.specs.Calls.{OnlyReads}
use Rattle.station.specs.declared.device.Device.{Ghosts as Devices}
use Rattle.pages.specs.Pages.{map_now, is_spent, mark_of, committed_of, changed_pages_of, next_generation}
use Rattle.pages.specs.Pages.{Agrees, SameCommitted, IsFull}
use Rattle.pages.specs.declared.page_map.PageMap.{PageMap}
use Rattle.btree.specs.Calls.{pages_on}
use Rattle.btree.specs.Rooted.{RootedTree}
use Rattle.btree.specs.Tree.{TreeNode}
use Rattle.records.specs.declared.fault.StoreFault.{StoreFault}
use Rattle.records.specs.declared.fault.StoreFault.TheVariants.{Device, Full, Damaged, Spent}
use Rattle.records.specs.declared.file_spec.FileSpec.{FileSpec}
use Rattle.records.specs.declared.key.KeyOfReference.{KeyOfReference}
use Rattle.records.specs.declared.key.KeyOfReference.TheVariants.{Prime, Alternate}
use Rattle.records.specs.Spec.{Spec, is_spec, is_long}
use Rattle.records.specs.Files.{Files, NamedFile, empty_file, with_file}
use Rattle.records.specs.Stores.{spec_of, IsKey}
use Rattle.volume_format.specs.Catalog.{Listing, listing_bytes}
use Rattle.volume_format.specs.Trees.{layout_under}
use Rattle.volume_format.specs.Chained.{chained_bytes}
use Rattle.volume_format.specs.Forest.{TreeLevels, IsForest, tree_levels}
use Rattle.volume_format.specs.Volume.{FileTrees, MapHolds, listing_of, no_tree}
use Rattle.alternate_keys.specs.Faults.{IsWriteFault}
use Rattle.alternate_keys.specs.Listed.{root_in}
use Rattle.alternate_keys.specs.Placed.{HasTrees}
use Rattle.alternate_keys.specs.Stands.{LacksSpace}

-- the bytes of each record that is in a chain, in the tree of a key; 0 if its entries have their records themselves
abbrev pub chained_under : Spec → KeyOfReference → ℕ
chained_under spec Prime = chained_bytes spec
chained_under spec (Alternate i) = 0

-- the tree of a key without entries
abbrev pub empty_tree : Spec → KeyOfReference → TreeLevels
empty_tree spec key = record {
  tree = record { layout = layout_under spec key; root = 0 };
  levels = [];
  record_bytes = chained_under spec key;
  chains = [];
  entries = [];
}

-- those of so many alternate keys, from one on
abbrev pub empty_trees : Spec → ℕ → ℕ → List TreeLevels
empty_trees spec i zero = []
empty_trees spec i (suc n) = empty_tree spec (Alternate i) ∷ empty_trees spec (suc i) n

-- a file without rows
abbrev pub empty_file_trees : List ℕ → Spec → FileTrees
empty_file_trees name spec = record { named = record { name = name; file = empty_file spec }; prime = empty_tree spec Prime; alternates = empty_trees spec 0 (length spec.alternates) }

-- its trees of alternate keys, as a value of the catalog says them
pub record HasStored (value : List ℕ) (kept : FileTrees) : Type 0 where
  pub good : is_spec kept.named.file.spec ≡ true
  pub says : value ≡ listing_bytes (listing_of kept)
  pub count : length kept.alternates ≡ length kept.named.file.spec.alternates
  pub whole : (i : ℕ) → i < length kept.named.file.spec.alternates
      → (slice_index_or kept.alternates i no_tree).record_bytes ≡ 0
  pub trees : (i : ℕ) → i < length kept.named.file.spec.alternates → (slice_index_or kept.alternates i no_tree).tree ≡ record { layout = layout_under kept.named.file.spec (Alternate i); root = root_in (Alternate i) value }

-- the files with this one, without rows
abbrev pub with_empty : FileSpec → Files → Files
with_empty file files = with_file file.name.items (empty_file (spec_of file)) files

module _ {D : Type 0} (d : Devices D) where
  -- where the device is honest and agrees with the map of pages, of each forest in which the tree stands
  abbrev pub OnForest : RootedTree → PageMap → D → (List TreeLevels → List TreeLevels → Type 0) → Type 0
  OnForest tree pages now claim =
      d.is_honest now → Agrees pages (d.state now).disk → (left right : List TreeLevels) (levels : List (List TreeNode)) → IsForest (pages_on d pages now) (left ++ tree_levels tree levels ∷ right) → claim left right

  -- of each in which the tree of a key stands, as a value of the catalog says
  abbrev pub OnStored : List ℕ → KeyOfReference → PageMap → D → (List TreeLevels → List TreeLevels → Type 0) → Type 0
  OnStored value key pages now claim =
      d.is_honest now → Agrees pages (d.state now).disk → (l : Listing) (tree : TreeLevels) (left right : List TreeLevels) → is_spec l.spec ≡ true → value ≡ listing_bytes l → IsKey l.spec key →
      tree.tree ≡ record { layout = layout_under l.spec key; root = root_in key value }
      → tree.record_bytes ≡ chained_under l.spec key → IsForest (pages_on d pages now) (left ++ tree ∷ right) → claim left right

  -- of each file of which the trees of alternate keys stand there
  abbrev pub OnAlternates : PageMap → D → List ℕ → (List TreeLevels → List TreeLevels → Type 0) → Type 0
  OnAlternates pages now value claim =
      d.is_honest now → Agrees pages (d.state now).disk → (kept : FileTrees) (left right : List TreeLevels) → HasStored value kept → IsForest (pages_on d pages now) (left ++ (kept.alternates ++ right)) → claim left right

  -- of each file that has its trees there
  abbrev pub OnListed : PageMap → D → List ℕ → (List TreeLevels → List TreeLevels → Type 0) → Type 0
  OnListed pages now listing claim =
      d.is_honest now → Agrees pages (d.state now).disk → (spec : Spec) (named : NamedFile) (generation : ℕ) (left right : List TreeLevels) → HasTrees spec named generation (pages_on d pages now) left right listing → claim left right

  -- of the files there
  abbrev pub OnFiles : (pages : PageMap) (now : D) → ((files : Files) → MapHolds (map_now pages (d.state now).disk.present) files → Type 0) → Type 0
  OnFiles pages now claim = d.is_honest now → Agrees pages (d.state now).disk → (files : Files) → (holds : MapHolds (map_now pages (d.state now).disk.present) files) → claim files holds

  -- A call that changes pages and the root of the catalog, and leaves what is committed.
  pub record Prepares (blamed : Type 0) (old : PageMap) (device : D) (new : PageMap) (device' : D) : Type 0 where
    pub only : OnlyReads d blamed device device'
    pub committed : SameCommitted old new
    pub agrees : d.is_honest device → Agrees old (d.state device).disk → Agrees new (d.state device').disk

  -- What a call returns that makes a file without rows in the pages, and what the map of pages holds then.
  pub record PreparesFile {T : Type 0} (file : FileSpec) (old : PageMap) (now : D) (new : PageMap) (now' : D)
      (result : Result T StoreFault) : Type 0 where
    pub prepares : Prepares (result ≡ Err Device) old now new now'
    pub will : (mark_of old ≡ 0 → is_long (spec_of file) ≡ false) → OnFiles old now (λ files holds.
        OnOk result (MapHolds (next_generation (map_now new (d.state now).disk.present)) (with_empty file files)))
    pub full : OnFiles old now (λ files holds. changed_pages_of old ≡ [] → OnOk result (IsFull new
        → LacksSpace (committed_of old) true file.name.items (with_empty file files)))
    pub room : OnFiles old now (λ files holds. changed_pages_of old ≡ [] → result ≡ Err Full
        → LacksSpace (committed_of old) true file.name.items (with_empty file files))
    pub damaged : OnFiles old now (λ files holds. result ≡ Err Damaged → ⊥)
    pub spent : result ≡ Err Spent → is_spent old ≡ true
    pub cause : IfErr result IsWriteFault
