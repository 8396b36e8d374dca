-- The entries of the catalog, one after the other.
use Rattle.std.proofs.Common.{◌≡◌, ◌≤◌, ◌+◌, ℕ, suc, List, length, refl, ap, sym, subst, ◌∙◌, arith}
use Rattle.std.specs.Prelude.{map, Option, Some}
use Rattle.std.proofs.lemmas.List.{length-map}
use Rattle.station.specs.Disk.{Sector}
use Rattle.pages.specs.Image.{Map}
use Rattle.btree_pages.specs.Keys.{Ascend}
use Rattle.btree_pages.specs.declared.row_layout.RowLayout.{RowLayout}
use Rattle.btree.specs.Entries.{Entry, entries_of, first_entry, first_entry_after}
use Rattle.btree.specs.Laws.{keys_listed}
use Rattle.btree.specs.Rooted.{RootedTree}
use Rattle.btree.specs.Tree.{IsTreeOrEmpty}
use Rattle.btree.proofs.Ascending.{entry_at, first_at, next_at, some_at}
use Rattle.btree.proofs.There.{tree_ascends}
use Rattle.records.specs.Files.{Files}
use Rattle.volume_format.specs.Catalog.{catalog_layout}
use Rattle.volume_format.specs.Volume.{FileTrees, MapHolds, catalog_entry}
use Rattle.alternate_keys.proofs.Catalogs.{catalog_holds}

module _ (m : Map) (files : Files) (holds : MapHolds m files) {mark : ℕ} (marked : m.mark ≡ mark) (tree : RootedTree)
    (layout : tree.layout ≡ catalog_layout mark) (root : tree.root ≡ m.catalog) where
  abbrev pub all_listed : List Entry
  all_listed = map (catalog_entry mark) holds.kept

  pub catalog_there : (pages : List (Option Sector)) → pages ≡ m.pages
      → IsTreeOrEmpty tree.layout pages tree.root holds.keeps.catalog
  catalog_there pages same =
      subst (λ (p : List (Option Sector)). IsTreeOrEmpty tree.layout p tree.root holds.keeps.catalog) (sym same)
      (catalog_holds m files holds tree (layout ∙ ap catalog_layout (sym marked)) root)

  entries_are : entries_of tree.layout holds.keeps.catalog ≡ all_listed
  entries_are = ap (λ (l : RowLayout). entries_of l holds.keeps.catalog) (layout ∙ ap catalog_layout (sym marked))
      ∙ holds.keeps.listed ∙ ap (λ (n : ℕ). map (catalog_entry n) holds.kept) marked

  pub first_listed : (next : Option Entry) → (IsTreeOrEmpty tree.layout m.pages tree.root holds.keeps.catalog
      → next ≡ first_entry (entries_of tree.layout holds.keeps.catalog)) → next ≡ entry_at 0 all_listed
  first_listed next is = is (catalog_there m.pages refl) ∙ ap first_entry entries_are ∙ first_at all_listed

  pub next_listed : (n : ℕ) (e : Entry) (next : Option Entry) → entry_at n all_listed ≡ Some e
      → next ≡ first_entry_after (entries_of tree.layout holds.keeps.catalog) e.key
      → next ≡ entry_at (n + 1) all_listed
  next_listed n e next at is =
      let ascend = subst (λ (es : List Entry). Ascend (keys_listed es)) entries_are
      (tree_ascends tree.layout m.pages tree.root holds.keeps.catalog (catalog_there m.pages refl)) in
      is ∙ ap (λ (es : List Entry). first_entry_after es e.key) entries_are ∙ next_at all_listed n e ascend at
      ∙ ap (λ (k : ℕ). entry_at k all_listed) (let more : suc n ≡ n + 1 = omega arith in more)

-- there are more files than the place of an entry
pub more_listed : (mark : ℕ) (kept : List FileTrees) (n : ℕ) (e : Entry)
    → entry_at n (map (catalog_entry mark) kept) ≡ Some e → n + 1 ≤ length kept
more_listed mark kept n e is =
    omega (arith, some_at (map (catalog_entry mark) kept) n e is, length-map kept (catalog_entry mark))
