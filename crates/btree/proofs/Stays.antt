-- A change of one tree leaves the others.
use Rattle.std.proofs.Common.{◌≡◌, ◌<◌, inl, inr, ⊎_elim, ℕ, List, [], ◌∷◌, ◌++◌, length, sym, ap, subst, ◌∙◌}
use Rattle.std.specs.Prelude.{◌↔◌, map, Contains, Option, None, Some, slice_index_or}
use Rattle.std.specs.List.{All}
use Rattle.std.proofs.lemmas.List.Elements.{All-head, All-tail, All-cons, All-nil, Contains-append_left}
use Rattle.std.proofs.lemmas.List.Elements.{Contains-append_right, Contains-append_cases}
use Rattle.station.specs.Disk.{Sector}
use Rattle.btree_pages.specs.declared.row_layout.RowLayout.{RowLayout}
use Rattle.btree_pages.specs.declared.row_layout.Kind.{Kind}
use Rattle.btree_pages.specs.declared.row_layout.Kind.TheVariants.{Leaf, Inner}
use Rattle.btree.specs.Tree.{TreeNode, IsOnPage, AreJoinedLevels, IsTreeOrEmpty, pages_of, node_on, node_of}
use Rattle.btree.specs.Moves.{Moves, Once}
use Rattle.btree.specs.Laws.{Apart}
use Rattle.btree.proofs.Runs.{in_head, in_tail, in_cases, in_none, once_from_pairs, once_left, once_right, once_apart}

-- the pages of some numbers are the same
abbrev pub Same : List (Option Sector) → List (Option Sector) → List ℕ → Type 0
Same before after numbers =
    (page : ℕ) → Contains numbers page → slice_index_or after page None ≡ slice_index_or before page None

abbrev numbers : List TreeNode → List ℕ
numbers nodes = map (λ (node : TreeNode). node.page) nodes

stand_still : (layout : RowLayout) (before after : List (Option Sector)) (kind : Kind) (tree_node : TreeNode)
    → slice_index_or after tree_node.page None ≡ slice_index_or before tree_node.page None
    → IsOnPage layout before kind tree_node → IsOnPage layout after kind tree_node
stand_still layout before after kind tree_node same stands =
    record { node = ap (node_on layout) same ∙ stands.node; lengths = stands.lengths; enough = stands.enough }

level_still : (layout : RowLayout) (before after : List (Option Sector)) (kind : Kind) (level : List TreeNode)
    → Same before after (numbers level) → All (IsOnPage layout before kind) level
    → All (IsOnPage layout after kind) level
level_still layout before after kind [] same stand = All-nil (IsOnPage layout after kind)
level_still layout before after kind (node ∷ level) same stand =
    All-cons (IsOnPage layout after kind) node level
    (stand_still layout before after kind node (same node.page (in_head node.page (numbers level)))
    (All-head (IsOnPage layout before kind) node level stand))
    (level_still layout before after kind level (λ page has. same page (in_tail node.page (numbers level) page has))
    (All-tail (IsOnPage layout before kind) node level stand))

joined_still : (layout : RowLayout) (before after : List (Option Sector)) (levels : List (List TreeNode))
    → Same before after (pages_of levels) → AreJoinedLevels layout before levels → AreJoinedLevels layout after levels
joined_still layout before after [] same joined = joined
joined_still layout before after (leaves ∷ []) same joined = level_still layout before after Leaf leaves
    (λ page has. same page (Contains-append_left (numbers leaves) [] page has)) joined
joined_still layout before after (upper ∷ lower ∷ more) same joined = (
  level_still layout before after Inner upper
      (λ page has. same page (Contains-append_left (numbers upper) (pages_of (lower ∷ more)) page has)) joined.0,
  joined.1,
  joined_still layout before after (lower ∷ more)
      (λ page has. same page (Contains-append_right (numbers upper) (pages_of (lower ∷ more)) page has)) joined.2,
)

holds_still : (layout : RowLayout) (before after : List (Option Sector)) (root : ℕ) (levels : List (List TreeNode))
    → length after ≡ length before → Same before after (pages_of levels) → IsTreeOrEmpty layout before root levels
    → IsTreeOrEmpty layout after root levels
holds_still layout before after root levels count same (inl none) = inl none
holds_still layout before after root levels count same (inr tree) =
    let P : ℕ → Type 0 = λ n. All (λ page. (0 < page) × (page < n)) (pages_of levels) in
    inr (
      tree.0,
      record {
        top = tree.1.top;
        joined = joined_still layout before after levels same tree.1.joined;
        ascend = tree.1.ascend;
        once = tree.1.once;
        numbers = subst P (sym count) tree.1.numbers;
      },
    )

-- the pages of a tree are in the map
level_there : (layout : RowLayout) (pages : List (Option Sector)) (kind : Kind) (level : List TreeNode) (page : ℕ)
    → All (IsOnPage layout pages kind) level → Contains (numbers level) page → slice_index_or pages page None ≡ None → ⊥
level_there layout pages kind [] page stand has none = in_none page has
level_there layout pages kind (tree_node ∷ level) page stand has none =
    ⊎_elim
    (λ same.
    let here : slice_index_or pages tree_node.page None ≡ None =
    subst (λ (n : ℕ). slice_index_or pages n None ≡ None) same none in
    let node = (All-head (IsOnPage layout pages kind) tree_node level stand).node in
    let clash : None ≡ Some (node_of layout kind tree_node.rows) = sym (ap (node_on layout) here) ∙ node in
    cc)
    (λ more. level_there layout pages kind level page (All-tail (IsOnPage layout pages kind) tree_node level stand) more
    none)
    (in_cases tree_node.page (numbers level) page has)

joined_there : (layout : RowLayout) (pages : List (Option Sector)) (levels : List (List TreeNode)) (page : ℕ)
    → AreJoinedLevels layout pages levels → Contains (pages_of levels) page → slice_index_or pages page None ≡ None → ⊥
joined_there layout pages [] page joined has none = absurd joined
joined_there layout pages (leaves ∷ []) page joined has none =
    ⊎_elim (λ here. level_there layout pages Leaf leaves page joined here none) (λ more. in_none page more)
    (Contains-append_cases (numbers leaves) [] page has)
joined_there layout pages (upper ∷ lower ∷ more) page joined has none =
    ⊎_elim (λ here. level_there layout pages Inner upper page joined.0 here none)
    (λ below. joined_there layout pages (lower ∷ more) page joined.2 below none)
    (Contains-append_cases (numbers upper) (pages_of (lower ∷ more)) page has)

pub holds_there : (layout : RowLayout) (pages : List (Option Sector)) (root : ℕ) (levels : List (List TreeNode))
    (page : ℕ) → IsTreeOrEmpty layout pages root levels → Contains (pages_of levels) page
    → slice_index_or pages page None ≡ None → ⊥
holds_there layout pages root levels page (inl none) has =
    λ free. in_none page (subst (λ (l : List (List TreeNode)). Contains (pages_of l) page) none.1 has)
holds_there layout pages root levels page (inr tree) has = joined_there layout pages levels page tree.1.joined has

pub tree_stays : (layout : RowLayout) (before after : List (Option Sector)) (old new : List ℕ) (root : ℕ)
    (levels : List (List TreeNode)) →
    Moves before old after new → IsTreeOrEmpty layout before root levels → Apart (pages_of levels) old
    → IsTreeOrEmpty layout after root levels × Apart (pages_of levels) new
tree_stays layout before after old new root levels moves holds apart =
    let out : (page : ℕ) → Contains (pages_of levels) page → Contains new page → ⊥ =
    λ page has joins. ⊎_elim (apart page has) (λ free. holds_there layout before root levels page holds has free.1)
    (moves.joins page joins) in (
      holds_still layout before after root levels moves.count
          (λ page has. moves.others page (apart page has) (out page has)) holds,
      out,
    )

-- no page stands in a tree twice
pub pages_once : (layout : RowLayout) (pages : List (Option Sector)) (root : ℕ) (levels : List (List TreeNode))
    → IsTreeOrEmpty layout pages root levels → Once (pages_of levels)
pages_once layout pages root levels (inl none) = subst (λ (l : List (List TreeNode)). Once (pages_of l)) (sym none.1) tt
pages_once layout pages root levels (inr tree) = once_from_pairs (pages_of levels) tree.1.once

once_append : (a b : List ℕ) → Once a → Once b → Apart a b → Once (a ++ b)
once_append [] b left right apart = right
once_append (x ∷ a) b left right apart = (
  (λ has. ⊎_elim left.0 (apart x (in_head x a)) (Contains-append_cases a b x has)),
  once_append a b left.1 right (λ y one two. apart y (in_tail x a y one) two),
)

pub once_in_parts : (a b : List ℕ) → Once (a ++ b) ↔ (Once a × Once b × Apart a b)
once_in_parts a b = (
  (λ once. (once_left a b once, once_right a b once, once_apart a b once)),
  (λ nodes. once_append a b nodes.0 nodes.1 nodes.2),
)
