-- A row came into the leaf at the end of a way.
use Rattle.std.proofs.Common.{◌≡◌, ◌<◌, ◌+◌, ℕ, zero, suc, List, [], ◌∷◌, ◌++◌, length, take, drop, refl, sym, ◌∙◌, ap}
use Rattle.std.proofs.Common.{subst, arith}
use Rattle.std.specs.Prelude.{Option, Some, None, IfSome, slice_index_or}
use Rattle.std.specs.List.{All, insert}
use Rattle.std.proofs.lemmas.List.{append-nil}
use Rattle.std.proofs.lemmas.List.Elements.{All-head}
use Rattle.station.specs.Disk.{Sector}
use Rattle.btree_pages.specs.declared.row_layout.RowLayout.{RowLayout}
use Rattle.btree_pages.specs.declared.row_layout.Kind.{Kind}
use Rattle.btree_pages.specs.declared.row_layout.Kind.TheVariants.{Leaf}
use Rattle.btree_pages.specs.Keys.{key_of, AllBelow, AllAbove}
use Rattle.btree_pages.specs.Node.{Node}
use Rattle.btree.specs.declared.split_result.SplitResult.{SplitResult}
use Rattle.btree.specs.declared.split_result.Right.{Right}
use Rattle.btree.specs.Tree.{TreeNode, rows_of, IsOnPage, IsTree}
use Rattle.btree.specs.Path.{LevelZipper, PathStep, level_of, lowest, IsPathOf, EndsAt}
use Rattle.btree.specs.Moves.{numbers_of, ReplacesNodes}
use Rattle.btree.specs.Propagates.{node_with, rights_of, run_of, SplitUpdate}
use Rattle.btree.specs.Changes.{IsIn, CanTake, PropagatesBy, NeverPropagates, IsRootAfter, InsertsIntoLeaf, IsLike}
use Rattle.btree.specs.Changes.{IsSplit, HasKeys}
use Rattle.btree.proofs.Splices.{all_right, no_node, numbers_append}
use Rattle.btree.proofs.Propagating.{propagates_leaf, some_row}
use Rattle.btree.proofs.Upward.{standing_leaves}
use Rattle.btree.proofs.Settling.{tree_stands, tree_entered}

-- the leaf's node
pub tree_node_is : (layout : RowLayout) (key : List ℕ) (levels : List (List TreeNode)) (steps : List PathStep) (page :
    ℕ) (rows : List (List ℕ)) (right : Option (List ℕ)) → (ends : EndsAt layout key levels steps page rows right)
    → (lowest ends.reaches.top ends.reaches.below).node ≡ node_with page rows
tree_node_is layout key levels steps page rows right ends =
    ap (λ (spot : LevelZipper). spot.node) ends.reaches.ends
    ∙ ap (λ (p : ℕ). node_with p ends.leaf.node.rows) ends.at_page ∙ ap (node_with page) ends.has_rows

-- what stands there
pub record EndStands (layout : RowLayout) (pages : List (Option Sector)) (page : ℕ) (rows : List (List ℕ)) :
    Type 0 where
  pub some : 0 < page
  pub stands : IsOnPage layout pages Leaf (node_with page rows)

pub end_stands : (layout : RowLayout) (key : List ℕ) (pages : List (Option Sector)) (root : ℕ)
    (levels : List (List TreeNode)) (steps : List PathStep) (page : ℕ) (rows : List (List ℕ)) (right : Option (List ℕ))
    → IsTree layout pages root levels
    → EndsAt layout key levels steps page rows right → EndStands layout pages page rows
end_stands layout key pages root levels steps page rows right tree ends =
    let leaf = lowest ends.reaches.top ends.reaches.below in
    let same = tree_node_is layout key levels steps page rows right ends in
    let end = (standing_leaves layout key pages levels steps ends.reaches.top ends.reaches.below ends.reaches.leads
    (tree_stands layout pages root levels tree)).0 in
    let numbers : All (λ (p : ℕ). 0 < p) (numbers_of leaf.before ++ (leaf.node.page ∷ numbers_of leaf.after)) =
    subst (λ list. All (λ (p : ℕ). 0 < p) list) (append-nil (numbers_of (level_of leaf))
    ∙ numbers_append leaf.before (leaf.node ∷ leaf.after)) end.some in
    record {
      some = subst
          (λ (node : TreeNode). 0 < node.page) same (All-head (λ (p : ℕ). 0 < p) leaf.node.page (numbers_of leaf.after)
          (all_right (λ (p : ℕ). 0 < p) (numbers_of leaf.before) (leaf.node.page ∷ numbers_of leaf.after) numbers));
      stands = subst (λ (node : TreeNode). IsOnPage layout pages Leaf node)
          same (All-head (IsOnPage layout pages Leaf) leaf.node leaf.after
          (all_right (IsOnPage layout pages Leaf) leaf.before (leaf.node ∷ leaf.after) end.joined));
    }

pub end_in : (layout : RowLayout) (pages : List (Option Sector)) (page : ℕ) (rows : List (List ℕ))
    → EndStands layout pages page rows → IsIn pages page
end_in layout pages page rows end = λ none. no_node layout pages Leaf (node_with page rows) end.stands none

-- A row came to a place of the leaf that is there.
pub record LeafPut (layout : RowLayout) (before one : List (Option Sector)) (page : ℕ) (rows : List (List ℕ))
    (place : ℕ) (row : List ℕ) (split : SplitResult) : Type 0 where
  pub own : EndStands layout before page rows
      → ReplacesNodes layout Leaf before (node_with page rows ∷ []) one (run_of split)
  pub is : rows_of (run_of split) ≡ insert rows place row
  pub page_is : split.page ≡ page

pub leaf_put : (layout : RowLayout) (before one : List (Option Sector)) (page : ℕ) (node : Node) (place : ℕ)
    (row : List ℕ) (split : SplitResult) → node.layout ≡ layout → node.kind ≡ Leaf
    → (CanTake before page node → ReplacesNodes node.layout node.kind before (node_with page node.rows ∷ []) one
    (run_of split)) → rows_of (run_of split) ≡ insert node.rows place row → split.page ≡ page
    → LeafPut layout before one page node.rows place row split
leaf_put layout before one page node place row split layout_is kind_is put is page_is = record {
  own = λ end.
      let stands : IsOnPage node.layout before node.kind (node_with page node.rows) =
      subst (λ (f : RowLayout). IsOnPage f before node.kind (node_with page node.rows)) (sym layout_is)
      (subst (λ (k : Kind). IsOnPage layout before k (node_with page node.rows)) (sym kind_is) end.stands) in
      let own = put (record {
        is_in = end_in layout before page node.rows end;
        lengths = stands.lengths;
        enough = omega (arith, stands.enough);
      }) in
      subst (λ (k : Kind). ReplacesNodes layout k before (node_with page node.rows ∷ []) one (run_of split)) kind_is
      (subst (λ (f : RowLayout). ReplacesNodes f node.kind before (node_with page node.rows ∷ []) one (run_of split))
      layout_is own);
  is = is;
  page_is = page_is;
}

-- the node at the end of the way became these
at_end : (layout : RowLayout) (key : List ℕ) (before one : List (Option Sector)) (root : ℕ)
    (levels : List (List TreeNode)) (steps : List PathStep) (page : ℕ) (rows : List (List ℕ)) (right : Option (List ℕ))
    (place : ℕ) (row : List ℕ) (split : SplitResult)
    → IsTree layout before root levels → (ends : EndsAt layout key levels steps page rows right)
    → LeafPut layout before one page rows place row split
    → ReplacesNodes layout Leaf before ((lowest ends.reaches.top ends.reaches.below).node ∷ []) one (run_of split)
at_end layout key before one root levels steps page rows right place row split tree ends put =
    subst (λ (node : TreeNode). ReplacesNodes layout Leaf before (node ∷ []) one (run_of split))
    (sym (tree_node_is layout key levels steps page rows right ends))
    (put.own (end_stands layout key before root levels steps page rows right tree ends))

pub enters_with : (layout : RowLayout) (before one two after : List (Option Sector)) (root new : ℕ)
    (steps : List PathStep) (page : ℕ) (rows : List (List ℕ)) (right : Option (List ℕ)) (place : ℕ) (key value : List ℕ)
    (from told : Option SplitResult) (split : SplitResult)
    → length key ≡ layout.key_length → LeafPut layout before one page rows place (key ++ value) split
    → ((old : TreeNode) → old ≡ node_with page rows → 0 < length rows → SplitUpdate layout old (run_of split) from)
    → PropagatesBy layout steps one two from told → IsRootAfter layout root told two after new
    → InsertsIntoLeaf layout root before after steps page rows right place key value new
enters_with layout before one two after root new steps page rows right place key value from told split key_is put tells
    propagates settles = λ levels tree ends low high.
    let leaf = lowest ends.reaches.top ends.reaches.below in
    let same = tree_node_is layout key levels steps page rows right ends in
    let same_rows = ap (λ (node : TreeNode). node.rows) same in
    let stands = (end_stands layout key before root levels steps page rows right tree ends).stands in
    tree_entered layout before one two after root new levels steps ends.reaches.top ends.reaches.below place key value
    from told (run_of split) key_is tree ends.reaches.leads
    (subst (λ r. AllBelow layout key (take place r)) (sym same_rows) low)
    (subst (λ r. AllAbove layout key (drop place r)) (sym same_rows) high)
    (at_end layout key before one root levels steps page rows right place (key ++ value) split tree ends put)
    (tells leaf.node same (some_row layout before Leaf (node_with page rows) stands))
    (put.is ∙ ap (λ r. insert r place (key ++ value)) (sym same_rows)) propagates settles

-- and the page above has to know
pub tells_some : (layout : RowLayout) (page : ℕ) (rows : List (List ℕ)) (split : SplitResult)
    → split.page ≡ page → (old : TreeNode) → old ≡ node_with page rows → 0 < length rows
    → SplitUpdate layout old (run_of split) (Some split)
tells_some layout page rows split page_is old is some = (refl, page_is ∙ sym (ap (λ (node : TreeNode). node.page) is))

first_kept : (place : ℕ) (rows more : List (List ℕ)) → 0 < place → 0 < length rows
    → slice_index_or (take place rows ++ more) 0 [] ≡ slice_index_or rows 0 []
first_kept zero rows more some low = absurd (omega (arith, some))
first_kept (suc place) [] more some low = absurd (omega (arith, low))
first_kept (suc place) (row ∷ rows) more some low = refl

-- or not
pub tells_none : (layout : RowLayout) (page : ℕ) (rows : List (List ℕ)) (place : ℕ) (row : List ℕ) (split : SplitResult)
    → split.page ≡ page → rows_of (run_of split) ≡ insert rows place row → (0 < place) × (split.right ≡ None)
    → (old : TreeNode) → old ≡ node_with page rows → 0 < length rows → SplitUpdate layout old (run_of split) None
tells_none layout page rows place row split page_is is same old old_is some =
    let alone : run_of split ≡ node_with split.page split.left.rows ∷ [] =
    ap (λ r. node_with split.page split.left.rows ∷ rights_of r) same.1 in
    let left : split.left.rows ≡ take place rows ++ (row ∷ drop place rows) =
    sym (ap rows_of alone ∙ append-nil split.left.rows) ∙ is in
    record {
      node = node_with split.page split.left.rows;
      alone = alone;
      page = page_is ∙ sym (ap (λ (tree_node : TreeNode). tree_node.page) old_is);
      least = ap (λ (l : List (List ℕ)). key_of layout (slice_index_or l 0 [])) left
          ∙ ap (key_of layout) (first_kept place rows (row ∷ drop place rows) same.0 some)
          ∙ sym (ap (λ (tree_node : TreeNode). key_of layout (slice_index_or tree_node.rows 0 [])) old_is);
    }

-- where there is a tree, its levels propagate_split
pub never_entered : (layout : RowLayout) (before one : List (Option Sector)) (root : ℕ) (steps : List PathStep)
    (page : ℕ) (rows : List (List ℕ)) (right : Option (List ℕ)) (place : ℕ) (key row : List ℕ) (split : SplitResult)
    (levels : List (List TreeNode))
    → LeafPut layout before one page rows place row split → NeverPropagates layout steps one (Some split)
    → IsTree layout before root levels → EndsAt layout key levels steps page rows right → ⊥
never_entered layout before one root steps page rows right place key row split levels put never tree ends =
    let leaf = lowest ends.reaches.top ends.reaches.below in
    let standing = tree_stands layout before root levels tree in
    let end =
    standing_leaves layout key before levels steps ends.reaches.top ends.reaches.below ends.reaches.leads standing in
    never key before levels ends.reaches.top ends.reaches.below
    (rows_of leaf.before ++ (rows_of (run_of split) ++ rows_of leaf.after)) standing ends.reaches.leads
    (propagates_leaf layout before one leaf (run_of split) (Some split) end.0.joined end.0.once
    (at_end layout key before one root levels steps page rows right place row split tree ends put)
    (tells_some layout page rows split put.page_is leaf.node
    (tree_node_is layout key levels steps page rows right ends) (some_row layout before Leaf (node_with page rows)
    (end_stands layout key before root levels steps page rows right tree ends).stands)))

-- a way has a step for each level but the leaves'
pub turns_count : (layout : RowLayout) (key : List ℕ) (levels : List (List TreeNode))
    (steps : List PathStep) (top : LevelZipper) (below : List LevelZipper) → IsPathOf layout key levels steps top below
    → length steps + 1 ≡ length levels
turns_count layout key [] steps top below leads = absurd leads
turns_count layout key (leaves ∷ []) steps top below leads = let none = ap length leads.2 in omega arith
turns_count layout key (upper ∷ lower ∷ more) [] top below leads = absurd leads
turns_count layout key (upper ∷ lower ∷ more) (step ∷ steps) top [] leads = absurd leads
turns_count layout key (upper ∷ lower ∷ more) (step ∷ steps) top (next ∷ below) leads = let rest =
    turns_count layout key (lower ∷ more) steps next below leads.3 in omega arith

-- The pages that a page was split into have least keys.
right_keys : (layout : RowLayout) (node : Node) (right : Option Right) → node.layout ≡ layout
    → IfSome right (λ r. IsLike node r.node)
    → IfSome right (λ r. (r.node.layout ≡ layout) × (0 < length r.node.rows))
right_keys layout node (Some r) layout_is like = (like.same.layout ∙ layout_is, like.some)
right_keys layout node None layout_is like = tt

pub split_keys : (layout : RowLayout) (page : ℕ) (node : Node) (split : SplitResult) → node.layout ≡ layout
    → IsSplit page node split → HasKeys layout split
split_keys layout page node split layout_is is = record {
  left = (is.left.same.layout ∙ layout_is, is.left.some);
  right = right_keys layout node split.right layout_is is.right;
}
