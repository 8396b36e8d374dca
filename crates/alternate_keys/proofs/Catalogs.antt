-- What the catalog says of a name.
use Rattle.std.proofs.Common.{◌≡◌, ℕ, Bool, true, false, List, [], ◌∷◌, refl, sym, ap, subst, ◌∙◌}
use Rattle.std.specs.Prelude.{map, Option, Some, if◌then◌else◌}
use Rattle.std.specs.List.{All, AllByRecursion, flat_map}
use Rattle.std.specs.Ordering.{is_eq}
use Rattle.std.proofs.lemmas.List.Elements.{All-head, All-tail}
use Rattle.pages.specs.Image.{Map}
use Rattle.btree_pages.specs.declared.row_layout.RowLayout.{RowLayout}
use Rattle.btree.specs.Tree.{IsTreeOrEmpty as HoldsTree}
use Rattle.btree.specs.Rooted.{RootedTree}
use Rattle.btree.specs.Entries.{Entry, entries_of, entry_with}
use Rattle.records.specs.Spec.{is_name}
use Rattle.records.specs.Rows.{same_bytes}
use Rattle.records.specs.Files.{File, Files, IsNamed, file_at}
use Rattle.file_bytes.specs.Description.{padded_name}
use Rattle.volume_format.specs.Catalog.{catalog_layout}
use Rattle.volume_format.specs.Forest.{IsTreeIn}
use Rattle.volume_format.specs.Volume.{FileTrees, IsKept, MapHolds, trees_of, catalog_entry}
use Rattle.volume_format.proofs.Forests.{all_left, all_right}
use Rattle.volume_format.proofs.Names.{names_in_order}
use Rattle.alternate_keys.specs.Listed.{IsListed}

by_test : (b : Bool) (m : Map) (one : FileTrees) (found : Option File) (entry : Option Entry) → IsKept m.generation one
    → IsNamed one.named → All (IsTreeIn m.pages) (trees_of one) → IsListed m found entry →
    IsListed m (if b then Some one.named.file else found) (if b then Some (catalog_entry m.mark one) else entry)
by_test true m one found entry is named grow rest =
    (one, record { there = refl; is = is; named = named; grow = grow }, refl)
by_test false m one found entry is named grow rest = rest

among : (m : Map) (name : List ℕ) (kept : List FileTrees)
    → is_name name ≡ true → All (IsKept m.generation) kept → All (IsTreeIn m.pages) (flat_map trees_of kept)
    → AllByRecursion IsNamed (map (λ (one : FileTrees). one.named) kept) →
    IsListed m (file_at name (map (λ (one : FileTrees). one.named) kept))
    (entry_with (map (catalog_entry m.mark) kept) (padded_name name))
among m name [] is kept grow named = refl
among m name (one ∷ more) is kept grow named =
    let rest = among m name more is (All-tail (IsKept m.generation) one more kept)
    (all_right (IsTreeIn m.pages) (trees_of one) (flat_map trees_of more) grow) named.1 in
    let found : Option File = file_at name (map (λ (k : FileTrees). k.named) more) in
    let entry : Option Entry = entry_with (map (catalog_entry m.mark) more) (padded_name name) in
    let test = ap is_eq (names_in_order one.named.name name named.0.name is) in
    subst (λ (b : Bool). IsListed m (if same_bytes one.named.name name then Some one.named.file else found)
    (if b then Some (catalog_entry m.mark one) else entry)) (sym test)
    (by_test (same_bytes one.named.name name) m one found entry (All-head (IsKept m.generation) one more kept) named.0
    (all_left (IsTreeIn m.pages) (trees_of one) (flat_map trees_of more) grow) rest)

pub listed : (m : Map) (files : Files) (name : List ℕ) (entry : Option Entry) → is_name name ≡ true
    → (holds : MapHolds m files)
    → entry ≡ entry_with (entries_of (catalog_layout m.mark) holds.keeps.catalog) (padded_name name)
    →
    IsListed m (file_at name files) entry
listed m files name entry is holds entry_is =
    let P : Files → Type 0 = λ l. AllByRecursion IsNamed l in
    let there = among m name holds.kept is holds.keeps.each (All-tail (IsTreeIn m.pages) _ _ holds.keeps.forest.grow)
    (subst P (sym holds.named) holds.are.each) in
    let whole :
    IsListed m (file_at name files) (entry_with (map (catalog_entry m.mark) holds.kept) (padded_name name)) =
    subst
    (λ (l : Files). IsListed m (file_at name l) (entry_with (map (catalog_entry m.mark) holds.kept) (padded_name name)))
    holds.named there in
    subst (IsListed m (file_at name files))
    (sym (entry_is ∙ ap (λ (es : List Entry). entry_with es (padded_name name)) holds.keeps.listed)) whole

-- the tree that is looked into is that of the catalog
pub catalog_holds : (m : Map) (files : Files) (holds : MapHolds m files) (tree : RootedTree)
    → tree.layout ≡ catalog_layout m.mark → tree.root ≡ m.catalog
    → HoldsTree tree.layout m.pages tree.root holds.keeps.catalog
catalog_holds m files holds tree layout root =
    let own : HoldsTree (catalog_layout m.mark) m.pages m.catalog holds.keeps.catalog =
    (All-head (IsTreeIn m.pages) _ _ holds.keeps.forest.grow).stands in
    subst (λ (l : RowLayout). HoldsTree l m.pages tree.root holds.keeps.catalog) (sym layout)
    (subst (λ (r : ℕ). HoldsTree (catalog_layout m.mark) m.pages r holds.keeps.catalog) (sym root) own)
