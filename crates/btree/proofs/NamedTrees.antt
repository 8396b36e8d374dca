-- The tree under a root, when its layout and its root have other names.
use Rattle.std.proofs.Common.{◌≡◌, ℕ, List, sym, subst}
use Rattle.std.specs.Prelude.{Option}
use Rattle.station.specs.Disk.{Sector}
use Rattle.btree_pages.specs.declared.row_layout.RowLayout.{RowLayout}
use Rattle.btree.specs.Tree.{TreeNode, IsTree, IsTreeOrEmpty}
use Rattle.btree.proofs.Frames.{holds_tree}

pub same_holds : (layout other : RowLayout) (root number : ℕ) (pages : List (Option Sector))
    (levels : List (List TreeNode)) → other ≡ layout → number ≡ root → IsTreeOrEmpty layout pages root levels
    → IsTreeOrEmpty other pages number levels
same_holds layout other root number pages levels same is holds =
    subst (λ (f : RowLayout). IsTreeOrEmpty f pages number levels) (sym same)
    (subst (λ (r : ℕ). IsTreeOrEmpty layout pages r levels) (sym is) holds)

pub named_tree : (layout other : RowLayout) (root number : ℕ) (pages : List (Option Sector))
    (levels : List (List TreeNode)) → other ≡ layout → number ≡ root → (number ≡ 0 → ⊥)
    → IsTreeOrEmpty layout pages root levels → IsTree other pages number levels
named_tree layout other root number pages levels same is some holds =
    holds_tree other pages number levels (same_holds layout other root number pages levels same is holds) some
