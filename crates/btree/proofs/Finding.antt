-- What a search of a tree by its root tells of the tree.
use Rattle.std.proofs.Common.{◌≡◌, Bool, true, false, ℕ, List, refl, sym, ap, subst, ◌∙◌}
use Rattle.std.specs.Prelude.{Option, Result, IfOk, IfSome}
use Rattle.station.specs.Disk.{Sector}
use Rattle.pages.specs.declared.error.PagesError.{PagesError}
use Rattle.btree_pages.specs.declared.row_layout.RowLayout.{RowLayout}
use Rattle.btree.specs.declared.sought.SearchEnd.{SearchEnd}
use Rattle.btree.specs.declared.sought.Sought.{Sought}
use Rattle.btree.specs.declared.sought.Sought.TheVariants.{With}
use Rattle.btree.specs.Entries.{Entry, entries_of, entry_with}
use Rattle.btree.specs.Places.{HasLeaf, if_found}
use Rattle.btree.specs.Rooted.{RootedTree}
use Rattle.btree.specs.Sought.{FindsEntry, sought_in}
use Rattle.btree.specs.Tree.{TreeNode, IsTree, IsTreeOrEmpty}

-- a tree by its view is one by its fields
pub tree_inside : (tree : RootedTree) (layout : RowLayout) (root : ℕ) (pages : List (Option Sector))
    (levels : List (List TreeNode)) → record { layout = layout; root = root } ≡ tree
    → IsTree tree.layout pages tree.root levels → IsTree layout pages root levels
tree_inside tree layout root pages levels is holds =
    subst (λ (t : RootedTree). IsTree t.layout pages t.root levels) (sym is) holds

finds_with : (entries : List Entry) (key : List ℕ) (entry : Entry) (found : Bool)
    → FindsEntry entries key With entry found → if_found found entry ≡ entry_with entries key
finds_with entries key entry true finds = finds
finds_with entries key entry false finds = finds refl

-- the search for an entry finds it, or there is none
pub found_with : (tree : RootedTree) (layout : RowLayout) (root : ℕ) (levels : List (List TreeNode))
    (key sought : List ℕ) (entry : Entry) (found : Bool) → record { layout = layout; root = root } ≡ tree → key ≡ sought
    → FindsEntry (entries_of layout levels) key With entry found
    → if_found found entry ≡ entry_with (entries_of tree.layout levels) sought
found_with tree layout root levels key sought entry found is same finds =
    finds_with (entries_of layout levels) key entry found finds
    ∙ ap (λ (t : RootedTree). entry_with (entries_of t.layout levels) key) is
    ∙ ap (entry_with (entries_of tree.layout levels)) same

-- What a search answers of each tree under a root, and that there is none.
abbrev pub FoundBy : RootedTree → List ℕ → Sought → Option Entry → List (Option Sector) → Type 0
FoundBy tree key sought found pages = (levels : List (List TreeNode)) → IsTreeOrEmpty tree.layout pages tree.root levels
    → found ≡ sought_in sought (entries_of tree.layout levels) key

abbrev pub NoTreeUnder : RootedTree → Type 0 → List (Option Sector) → Type 0
NoTreeUnder tree told pages =
    told → (levels : List (List TreeNode)) → IsTreeOrEmpty tree.layout pages tree.root levels → ⊥

-- In each tree under a root, the entry that a search found is in the leaf where it ended.
abbrev pub LeavesIn : RootedTree → Result SearchEnd PagesError → List (Option Sector) → Type 0
LeavesIn tree result pages = (levels : List (List TreeNode)) → IsTree tree.layout pages tree.root levels
    → IfOk result (λ end. end.found ≡ true → HasLeaf levels end.leaf)

-- An entry that is given back if it was found is as it was found.
pub lengths_if : (P : Entry → Type 0) (entry : Entry) (found : Bool) → (found ≡ true → P entry)
    → IfSome (if_found found entry) P
lengths_if P entry true has = has refl
lengths_if P entry false has = tt
