-- An entry of a tree is the one of its key.
use Rattle.std.proofs.Common.{◌≡◌, ◌⊎◌, ⊎_elim, inl, inr, ℕ, zero, suc, List, [], ◌∷◌, refl, sym, ap, subst, ◌∙◌, arith}
use Rattle.std.specs.Prelude.{map, Contains, Option, Some, if◌then◌else◌}
use Rattle.std.specs.List.{AllByRecursion}
use Rattle.std.specs.List.Sorted.{IsStrictlySortedBy}
use Rattle.std.specs.Ordering.{is_eq}
use Rattle.std.specs.declared.cmp.Ordering.{Ordering}
use Rattle.std.specs.declared.cmp.Ordering.TheVariants.{Less}
use Rattle.std.proofs.lemmas.Cmp.{nat_list_cmp_total, tied_itself}
use Rattle.station.specs.Disk.{Sector}
use Rattle.btree_pages.specs.declared.row_layout.RowLayout.{RowLayout}
use Rattle.btree_pages.specs.Keys.{key_cmp, key_of, keys_of, Ascend, Precedes}
use Rattle.btree.specs.Tree.{TreeNode, IsTreeOrEmpty, rows_in_order}
use Rattle.btree.specs.Entries.{Entry, entry_of, entries_of, entry_with}
use Rattle.btree.specs.Laws.{keys_listed}
use Rattle.btree.proofs.Runs.{in_none}

in_cons : {X : Type 0} (x : X) (xs : List X) (y : X) → Contains (x ∷ xs) y → (y ≡ x) ⊎ Contains xs y
in_cons x xs y (zero, lt, is) = inl (sym is)
in_cons x xs y (suc k, lt, is) = inr (k, omega (arith, lt), is)

behind_first : (e : Entry) (more : List Entry) (x : Entry)
    → AllByRecursion (λ y. key_cmp e.key y ≡ Less) (keys_listed more) → Contains more x → Precedes e.key x.key
behind_first e [] x all has = absurd (in_none x has)
behind_first e (a ∷ more) x all has =
    ⊎_elim (λ same. subst (λ (y : Entry). Precedes e.key y.key) (sym same) all.0)
    (λ later. behind_first e more x all.1 later) (in_cons a more x has)

-- the keys of a tree's entries ascend
keys_are : (layout : RowLayout) (rows : List (List ℕ)) → keys_listed (map (entry_of layout) rows) ≡ keys_of layout rows
keys_are layout [] = refl
keys_are layout (row ∷ rows) = ap (λ ks. key_of layout row ∷ ks) (keys_are layout rows)

holds_ascend : (layout : RowLayout) (pages : List (Option Sector)) (root : ℕ) (levels : List (List TreeNode))
    → IsTreeOrEmpty layout pages root levels → Ascend (keys_of layout (rows_in_order levels))
unfolding IsStrictlySortedBy
holds_ascend layout pages root levels (inl none) =
    subst (λ (l : List (List TreeNode)). Ascend (keys_of layout (rows_in_order l))) (sym none.1) tt
holds_ascend layout pages root levels (inr tree) = tree.1.ascend

pub tree_ascends : (layout : RowLayout) (pages : List (Option Sector)) (root : ℕ) (levels : List (List TreeNode))
    → IsTreeOrEmpty layout pages root levels → Ascend (keys_listed (entries_of layout levels))
tree_ascends layout pages root levels holds =
    subst Ascend (sym (keys_are layout (rows_in_order levels))) (holds_ascend layout pages root levels holds)

-- an entry of an ascending list is the one of its key
found_later : (a e : Entry) (more : List Entry) (o : Ordering) → o ≡ Less → entry_with more e.key ≡ Some e
    → (if is_eq o then Some a else entry_with more e.key) ≡ Some e
found_later a e more o is rest = ap (λ (x : Ordering). if is_eq x then Some a else entry_with more e.key) is ∙ rest

pub entry_there : (entries : List Entry) (e : Entry) → Ascend (keys_listed entries) → Contains entries e
    → entry_with entries e.key ≡ Some e
unfolding IsStrictlySortedBy
entry_there [] e up has = absurd (in_none e has)
entry_there (a ∷ more) e up has =
    ⊎_elim
    (λ same. subst (λ (x : Entry). entry_with (a ∷ more) x.key ≡ Some x) (sym same) (ap
    (λ (o : Ordering). if is_eq o then Some a else entry_with more a.key) (tied_itself nat_list_cmp_total a.key)))
    (λ later.
    found_later a e more (key_cmp a.key e.key) (behind_first a more e up.0 later) (entry_there more e up.1 later))
    (in_cons a more e has)
