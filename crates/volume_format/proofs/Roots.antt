-- The page of a root is spelled in four bytes.
use Rattle.std.proofs.Common.{◌≤◌, ◌<◌, ◌^◌, ℕ, inl, inr, List, [], ◌∷◌, length, subst, arith}
use Rattle.std.specs.Prelude.{Option}
use Rattle.std.specs.List.{All}
use Rattle.station.specs.Disk.{Sector}
use Rattle.btree_pages.specs.declared.row_layout.RowLayout.{RowLayout}
use Rattle.btree.specs.Tree.{TreeNode, HasTop, IsTreeOrEmpty, pages_of}
use Rattle.volume_format.specs.Forest.{TreeLevels, IsTreeIn}

top_low : (pages : List (Option Sector)) (root : ℕ) (levels : List (List TreeNode)) → HasTop root levels
    → All (λ page. (0 < page) × (page < length pages)) (pages_of levels) → root < length pages
top_low pages root [] top low = absurd top
top_low pages root (level ∷ more) top low =
    let P : List TreeNode → Type 0 = λ l. All (λ page. (0 < page) × (page < length pages)) (pages_of (l ∷ more)) in
    let there : P (top.0 ∷ []) = subst P top.1 low in
    subst (λ (n : ℕ). n < length pages) top.2 (there 0 0 (omega arith)).1

stands_small : (layout : RowLayout) (pages : List (Option Sector)) (root : ℕ) (levels : List (List TreeNode))
    → length pages ≤ 2 ^ 20 → IsTreeOrEmpty layout pages root levels → root < 2 ^ 32
stands_small layout pages root levels small (inl none) = let zero_root = none.0 in omega (arith, zero_root)
stands_small layout pages root levels small (inr is) =
    let low = top_low pages root levels is.1.top is.1.numbers in omega (arith, low, small)

pub root_small : (pages : List (Option Sector)) (tree : TreeLevels) → length pages ≤ 2 ^ 20 → IsTreeIn pages tree
    → tree.tree.root < 2 ^ 32
root_small pages tree small grows =
    stands_small tree.tree.layout pages tree.tree.root tree.levels small grows.stands
