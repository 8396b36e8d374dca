-- The root after a change, and the tree with one entry more.
use Rattle.std.proofs.Common.{◌≡◌, ◌<◌, ℕ, List, [], ◌∷◌, ◌++◌, length, map, take, drop, refl, sym, ◌∙◌, ap, subst}
use Rattle.std.proofs.Common.{arith, append_assoc}
use Rattle.std.specs.Prelude.{Option, Some, None}
use Rattle.std.specs.List.{All, insert}
use Rattle.std.proofs.lemmas.List.{append-nil, take-append-drop, take_at, drop_at}
use Rattle.std.proofs.lemmas.List.Elements.{All-append, All-weaker}
use Rattle.station.specs.Disk.{Sector}
use Rattle.btree_pages.specs.declared.row_layout.RowLayout.{RowLayout}
use Rattle.btree_pages.specs.declared.row_layout.Kind.TheVariants.{Leaf, Inner}
use Rattle.btree_pages.specs.Keys.{key_of, rest_of, Precedes, AllBelow, AllAbove}
use Rattle.btree.specs.declared.split_result.SplitResult.{SplitResult}
use Rattle.btree.specs.declared.split_result.Right.{Right}
use Rattle.btree.specs.Tree.{TreeNode, row_of, rows_of, pages_of, leaves_of, rows_in_order, HasTop, IsTree}
use Rattle.btree.specs.Path.{LevelZipper, level_of, PathStep, IsSide, IsPathOf, lowest}
use Rattle.btree.specs.Entries.{entry_of, entries_of, with_new_entry}
use Rattle.btree.specs.Moves.{ReplacesNodes}
use Rattle.btree.specs.Propagates.{node_with, rights_of, SplitUpdate}
use Rattle.btree.specs.Changes.{AreDisjointLevels, PropagatesBy, BecomesTree, IsRootAfter, GainsEntry}
use Rattle.btree.proofs.Order.{Up}
use Rattle.btree.proofs.Runs.{once_from_pairs}
use Rattle.btree.proofs.Splices.{rows_append}
use Rattle.btree.proofs.Propagating.{propagates_leaf, node_stands, some_row}
use Rattle.btree.proofs.Upward.{standing_leaves}
use Rattle.btree.proofs.Entered.{entry_comes, up_comes, left_below}
use Rattle.btree.proofs.NewRoots.{new_root, is_alone, top_propagates, tree_after}

-- what is told of the root is that it is the same
pub settle_same : (layout : RowLayout) (root : ℕ) (before : List (Option Sector))
    → IsRootAfter layout root None before before root
settle_same layout root before = λ one levels spot more ordered is top once propagates.
    let alone = is_alone root spot more (subst (λ (l : List (List TreeNode)). HasTop root l) is top) in
    let propagated = top_propagates layout one before root levels spot ordered None alone propagates in
    record {
      levels = propagates.run ∷ propagates.more;
      became = propagated.became;
      top = (propagates.tells.node, propagates.tells.alone, propagates.tells.page ∙ alone.page);
      rows = propagated.rows;
    }

-- that it has another least key
pub settle_one : (layout : RowLayout) (root : ℕ) (before : List (Option Sector)) (split : SplitResult)
    → split.right ≡ None → IsRootAfter layout root (Some split) before before root
settle_one layout root before split none = λ one levels spot more ordered is top once propagates.
    let alone = is_alone root spot more (subst (λ (l : List (List TreeNode)). HasTop root l) is top) in
    let propagated = top_propagates layout one before root levels spot ordered (Some split) alone propagates in
    record {
      levels = propagates.run ∷ propagates.more;
      became = propagated.became;
      top = (
        node_with split.page split.left.rows,
        propagates.tells.0 ∙ ap (λ r. node_with split.page split.left.rows ∷ rights_of r) none,
        propagates.tells.1 ∙ alone.page,
      );
      rows = propagated.rows;
    }

-- that it gave rows to a new neighbour: a page above both is the root
pub settle_two : (layout : RowLayout) (root : ℕ) (before after : List (Option Sector)) (split : SplitResult)
    (right : Right) (new : ℕ) → split.right ≡ Some right
    → ReplacesNodes layout Inner before [] after (node_with new (row_of layout (node_with split.page split.left.rows)
    ∷ row_of layout (node_with right.page right.node.rows) ∷ []) ∷ [])
    → IsRootAfter layout root (Some split) before after new
settle_two layout root before after split right new some own = λ one levels spot more ordered is top once propagates.
    let alone = is_alone root spot more (subst (λ (l : List (List TreeNode)). HasTop root l) is top) in
    let propagated = top_propagates layout one before root levels spot ordered (Some split) alone propagates in
    let run : propagates.run ≡ node_with split.page split.left.rows ∷ node_with right.page right.node.rows ∷ [] =
    propagates.tells.0 ∙ ap (λ r. node_with split.page split.left.rows ∷ rights_of r) some in
    let head = node_with new (row_of layout (node_with split.page split.left.rows)
    ∷ row_of layout (node_with right.page right.node.rows) ∷ []) in
    record {
      levels = (head ∷ []) ∷ propagates.run ∷ propagates.more;
      became = new_root layout one before after levels propagates.run propagates.more head once propagated.became own
          (append-nil head.rows ∙ sym (ap (map (row_of layout)) run));
      top = (head, refl, refl);
      rows = propagated.rows;
    }

-- a tree's levels stand
pub tree_stands : (layout : RowLayout) (pages : List (Option Sector)) (root : ℕ) (levels : List (List TreeNode))
    → IsTree layout pages root levels → AreDisjointLevels layout pages levels
tree_stands layout pages root levels tree = record {
  joined = tree.joined;
  once = once_from_pairs (pages_of levels) tree.once;
  some = All-weaker (λ (page : ℕ). (0 < page) × (page < length pages)) (λ (page : ℕ). 0 < page) (λ page both. both.0)
      (pages_of levels) tree.numbers;
}

-- the first level of a way
pub record FirstOf (levels : List (List TreeNode)) (top : LevelZipper) : Type 0 where
  pub more : List (List TreeNode)
  pub is : levels ≡ level_of top ∷ more

pub first_of_way : (layout : RowLayout) (key : List ℕ) (levels : List (List TreeNode)) (steps : List PathStep)
    (top : LevelZipper) (below : List LevelZipper) → IsPathOf layout key levels steps top below → FirstOf levels top
first_of_way layout key [] steps top below leads = absurd leads
first_of_way layout key (leaves ∷ []) steps top below leads =
    record { more = []; is = ap (λ (level : List TreeNode). level ∷ []) leads.0 }
first_of_way layout key (upper ∷ lower ∷ more) [] top below leads = absurd leads
first_of_way layout key (upper ∷ lower ∷ more) (step ∷ steps) top [] leads = absurd leads
first_of_way layout key (upper ∷ lower ∷ more) (step ∷ steps) top (next ∷ below) leads =
    record { more = lower ∷ more; is = ap (λ (level : List TreeNode). level ∷ lower ∷ more) leads.0 }

-- the rows of the leaves' level, cut at a place of one of them
pub rows_cut : (leaf : LevelZipper) (place : ℕ) → rows_of (level_of leaf)
    ≡ (rows_of leaf.before ++ take place leaf.node.rows) ++ (drop place leaf.node.rows ++ rows_of leaf.after)
rows_cut leaf place =
    rows_append leaf.before (leaf.node ∷ leaf.after)
    ∙ ap (λ rows. rows_of leaf.before ++ (rows ++ rows_of leaf.after)) (sym (take-append-drop place leaf.node.rows))
    ∙ ap (λ rows. rows_of leaf.before ++ rows)
    (append_assoc (take place leaf.node.rows) (drop place leaf.node.rows) (rows_of leaf.after))
    ∙ sym
    (append_assoc (rows_of leaf.before) (take place leaf.node.rows) (drop place leaf.node.rows ++ rows_of leaf.after))

pub rows_with : (leaf : LevelZipper) (place : ℕ) (row : List ℕ)
    → rows_of leaf.before ++ (insert leaf.node.rows place row ++ rows_of leaf.after)
    ≡ (rows_of leaf.before ++ take place leaf.node.rows) ++ (row ∷ (drop place leaf.node.rows ++ rows_of leaf.after))
rows_with leaf place row =
    ap (λ rows. rows_of leaf.before ++ rows)
    (append_assoc (take place leaf.node.rows) (row ∷ drop place leaf.node.rows) (rows_of leaf.after))
    ∙ sym (append_assoc (rows_of leaf.before) (take place leaf.node.rows)
    (row ∷ (drop place leaf.node.rows ++ rows_of leaf.after)))

-- a leaf at the end of a way, and where a key goes into it
pub record AtLeaf (layout : RowLayout) (key : List ℕ) (pages : List (Option Sector)) (levels : List (List TreeNode))
    (leaf : LevelZipper) (place : ℕ) : Type 0 where
  pub standing : AreDisjointLevels layout pages (level_of leaf ∷ [])
  pub leaves : leaves_of levels ≡ level_of leaf
  pub side : IsSide layout key leaf
  pub up : Up layout (rows_in_order levels)
  pub below : AllBelow layout key (take place leaf.node.rows)
  pub above : AllAbove layout key (drop place leaf.node.rows)

pub some_first : (rows : List (List ℕ)) → 0 < length rows → (first : List ℕ) × (rest : List (List ℕ))
    × (rows ≡ first ∷ rest)
some_first [] some = absurd (omega (arith, some))
some_first (first ∷ rest) some = (first, rest, refl)

left_side : (layout : RowLayout) (key : List ℕ) (pages : List (Option Sector))
    (levels : List (List TreeNode)) (leaf : LevelZipper) (place : ℕ) → AtLeaf layout key pages levels leaf place
    → AllBelow layout key (rows_of leaf.before ++ take place leaf.node.rows)
left_side layout key pages levels leaf place at =
    let stands = node_stands layout pages leaf [] at.standing.joined in
    let first = some_first leaf.node.rows (some_row layout pages stands.kind leaf.node stands.stands) in
    let up =
    subst (λ rows. Up layout rows) (ap rows_of at.leaves ∙ rows_append leaf.before (leaf.node ∷ leaf.after)) at.up in
    All-append (λ (row : List ℕ). Precedes (key_of layout row) key) (rows_of leaf.before) (take place leaf.node.rows)
    (left_below layout key leaf first.0 first.1 at.side first.2 up) at.below

right_side : (layout : RowLayout) (key : List ℕ) (pages : List (Option Sector))
    (levels : List (List TreeNode)) (leaf : LevelZipper) (place : ℕ) → AtLeaf layout key pages levels leaf place
    → AllAbove layout key (drop place leaf.node.rows ++ rows_of leaf.after)
right_side layout key pages levels leaf place at =
    All-append (λ (row : List ℕ). Precedes key (key_of layout row)) (drop place leaf.node.rows) (rows_of leaf.after)
    at.above at.side.after

pub entry_is : (layout : RowLayout) (key value : List ℕ) → length key ≡ layout.key_length
    → entry_of layout (key ++ value) ≡ record { key = key; value = value }
entry_is layout key value is =
    ap
    (λ (k : List ℕ). record { key = k; value = rest_of layout (key ++ value) }) (take_at key value layout.key_length is)
    ∙ ap (λ (v : List ℕ). record { key = key; value = v }) (drop_at key value layout.key_length is)

-- A leaf got a row at its place, and what the levels above it became is settled: a tree with one entry more.
pub entered : (layout : RowLayout) (before after : List (Option Sector)) (root new : ℕ) (levels : List (List TreeNode))
    (leaf : LevelZipper) (place : ℕ) (key value : List ℕ) → length key ≡ layout.key_length
    → All (λ page. (0 < page) × (page < length before)) (pages_of levels)
    → AtLeaf layout key before levels leaf place → BecomesTree layout before levels after new
    (rows_of leaf.before ++ (insert leaf.node.rows place (key ++ value) ++ rows_of leaf.after))
    → GainsEntry layout before levels after new (record { key = key; value = value })
entered layout before after root new levels leaf place key value key_is numbers at settled =
    let left = rows_of leaf.before ++ take place leaf.node.rows in
    let right = drop place leaf.node.rows ++ rows_of leaf.after in
    let same_key : key_of layout (key ++ value) ≡ key = take_at key value layout.key_length key_is in
    let low : AllBelow layout (key_of layout (key ++ value)) left =
    subst (λ k. AllBelow layout k left) (sym same_key) (left_side layout key before levels leaf place at) in
    let high : AllAbove layout (key_of layout (key ++ value)) right =
    subst (λ k. AllAbove layout k right) (sym same_key) (right_side layout key before levels leaf place at) in
    let old_rows : rows_in_order levels ≡ left ++ right = ap rows_of at.leaves ∙ rows_cut leaf place in
    let new_rows : rows_in_order settled.levels ≡ left ++ ((key ++ value) ∷ right) =
    settled.rows ∙ rows_with leaf place (key ++ value) in
    let up = up_comes layout left right (key ++ value) low high (subst (λ rows. Up layout rows) old_rows at.up) in
    record {
      levels = settled.levels;
      tree = tree_after layout before after new levels settled.levels numbers settled.became settled.top
          (subst (λ rows. Up layout rows) (sym new_rows) up);
      entries = ap (map (entry_of layout)) new_rows ∙ entry_comes layout left right (key ++ value) low high
          ∙ ap (λ rows. with_new_entry (map (entry_of layout) rows) (entry_of layout (key ++ value))) (sym old_rows)
          ∙ ap (with_new_entry (entries_of layout levels)) (entry_is layout key value key_is);
      moves = settled.became.moves;
    }

-- the end of a way, and the rows around a place there
pub at_leaf : (layout : RowLayout) (key : List ℕ) (pages : List (Option Sector)) (root : ℕ)
    (levels : List (List TreeNode)) (steps : List PathStep) (top : LevelZipper) (below : List LevelZipper) (place : ℕ)
    → IsTree layout pages root levels → IsPathOf layout key levels steps top below
    → AllBelow layout key (take place (lowest top below).node.rows)
    → AllAbove layout key (drop place (lowest top below).node.rows)
    → AtLeaf layout key pages levels (lowest top below) place
at_leaf layout key pages root levels steps top below place tree leads low high =
    let end =
    standing_leaves layout key pages levels steps top below leads (tree_stands layout pages root levels tree) in
    record { standing = end.0; leaves = end.1; side = end.2; up = tree.ascend; below = low; above = high }

-- All together: the leaf became some nodes, the levels rose, and the root is settled.
pub tree_entered : (layout : RowLayout) (before one two after : List (Option Sector)) (root new : ℕ)
    (levels : List (List TreeNode)) (steps : List PathStep) (top : LevelZipper) (below : List LevelZipper) (place : ℕ)
    (key value : List ℕ) (from told : Option SplitResult) (run : List TreeNode)
    → length key ≡ layout.key_length → IsTree layout before root levels → IsPathOf layout key levels steps top below
    → AllBelow layout key (take place (lowest top below).node.rows)
    → AllAbove layout key (drop place (lowest top below).node.rows)
    → ReplacesNodes layout Leaf before ((lowest top below).node ∷ []) one run → SplitUpdate layout
    (lowest top below).node run from → rows_of run ≡ insert (lowest top below).node.rows place (key ++ value)
    → PropagatesBy layout steps one two from told → IsRootAfter layout root told two after new
    → GainsEntry layout before levels after new (record { key = key; value = value })
tree_entered layout before one two after root new levels steps top below place key value from told run key_is tree leads
    low high own tells rows propagates settles =
    let leaf = lowest top below in
    let at = at_leaf layout key before root levels steps top below place tree leads low high in
    let standing = tree_stands layout before root levels tree in
    let bottom = propagates_leaf layout before one leaf run from at.standing.joined at.standing.once own tells in
    let propagated = propagates key before levels top below (rows_of leaf.before ++ (rows_of run ++ rows_of leaf.after))
    standing leads bottom in
    let first = first_of_way layout key levels steps top below leads in
    let settled = settles before levels top first.more (rows_of leaf.before ++ (rows_of run ++ rows_of leaf.after))
    first.is tree.top standing.once propagated in
    entered layout before after root new levels leaf place key value key_is tree.numbers at
    (subst (λ (r : List (List ℕ)).
    BecomesTree layout before levels after new (rows_of leaf.before ++ (r ++ rows_of leaf.after))) rows settled)
