-- A descent so far, in a tree.
use Rattle.std.proofs.Common.{◌≡◌, ◌≤◌, ◌<◌, ◌+◌, ◌^◌, ℕ, suc, List, [], ◌∷◌, ◌++◌, length, map, refl, sym, ap, subst}
use Rattle.std.proofs.Common.{◌∙◌, arith, inl, inr}
use Rattle.std.specs.Prelude.{slice_index_or, Option, Some, None}
use Rattle.std.specs.List.{All}
use Rattle.std.proofs.lemmas.List.{append_assoc, append-nil, length-append, map-append}
use Rattle.std.proofs.lemmas.Bool.{cases_lt}
use Rattle.std.proofs.lemmas.List.Elements.{All-head, All-tail, All-nil}
use Rattle.station.specs.Disk.{Sector}
use Rattle.btree_pages.specs.declared.row_layout.RowLayout.{RowLayout}
use Rattle.btree_pages.specs.declared.row_layout.Kind.{Kind}
use Rattle.btree_pages.specs.declared.row_layout.Kind.TheVariants.{Leaf, Inner}
use Rattle.btree_pages.specs.Node.{Node}
use Rattle.btree_pages.specs.Keys.{key_of, keys_of, child_of, Precedes, Ascend, AllBelow}
use Rattle.btree.specs.Tree.{TreeNode, least_key, rows_of, IsOnPage, AreJoinedLevels, rows_in_order, pages_of, node_at}
use Rattle.btree.specs.Tree.{node_of, IsTree, leaves_of}
use Rattle.btree.specs.Path.{LevelZipper, PathStep, level_of, StepsTo, IsSide, IsPathOf, Reaches, lowest, right_key}
use Rattle.btree.specs.Path.{IsChosen, EndsAt}
use Rattle.btree.specs.Laws.{AllAscend}
use Rattle.btree.proofs.Order.{all_left, all_right, Up, up_left, up_right, all_below_first, all_below_weaker}
use Rattle.btree.proofs.Levels.{HasRows, joined_have_rows, all_ascend}
use Rattle.btree.proofs.Ways.{spot_at, next_place, Names, next_low, level_at, next_side, next_right_within}
use Rattle.btree.proofs.Ways.{next_right_beyond, next_page, next_step, rows_around}
use Rattle.btree.proofs.Depth.{few_levels}
use Rattle.btree.proofs.One.{small_numbers}
use Rattle.btree.proofs.Found.{IsAround}

-- so far the way of the key: a spot in a level, from which each way on is a way from the root
pub record Along (layout : RowLayout) (pages : List (Option Sector)) (levels : List (List TreeNode)) (key : List ℕ)
    (steps : List PathStep) (page : ℕ) (right : Option (List ℕ)) : Type 0 where
  pub spot : LevelZipper
  pub more : List (List TreeNode)
  pub joined : AreJoinedLevels layout pages (level_of spot ∷ more)
  pub ascend : AllAscend layout (level_of spot ∷ more)
  pub small : All (λ page. page < 2 ^ 32) (pages_of (level_of spot ∷ more))
  pub side : IsSide layout key spot
  pub at_page : spot.node.page ≡ page
  pub beside : right ≡ right_key layout spot
  pub depth : length steps + suc (length more) ≡ length levels
  pub whole : (rest : List PathStep) (below : List LevelZipper) → IsPathOf layout key (level_of spot ∷ more) rest spot
      below → Reaches layout key levels (steps ++ rest) (lowest spot below)

-- at the root
top_spot : TreeNode → LevelZipper
top_spot tree_node = record { before = []; node = tree_node; after = [] }

start_at : (layout : RowLayout) (pages : List (Option Sector)) (top : List TreeNode) (more : List (List TreeNode))
    (key : List ℕ) (node : TreeNode) → top ≡ node ∷ [] → AreJoinedLevels layout pages (top ∷ more)
    → AllAscend layout (top ∷ more)
    → All (λ page. page < 2 ^ 32) (pages_of (top ∷ more)) → Along layout pages (top ∷ more) key [] node.page None
unfolding top_spot
start_at layout pages top more key node is joined ascend small = record {
  spot = top_spot node;
  more = more;
  joined = subst (λ (level : List TreeNode). AreJoinedLevels layout pages (level ∷ more)) is joined;
  ascend = subst (λ (level : List TreeNode). AllAscend layout (level ∷ more)) is ascend;
  small = subst (λ (level : List TreeNode). All (λ page. page < 2 ^ 32) (pages_of (level ∷ more))) is small;
  side = record { after = All-nil (λ row. Precedes key (key_of layout row)); before = inl refl };
  at_page = refl;
  beside = refl;
  depth = omega arith;
  whole = λ rest below leads. record {
    top = top_spot node;
    below = below;
    leads =
        subst (λ (level : List TreeNode). IsPathOf layout key (level ∷ more) rest (top_spot node) below) (sym is) leads;
    ends = refl;
  };
}

pub start :
    (layout : RowLayout) (pages : List (Option Sector)) (root : ℕ) (levels : List (List TreeNode)) (key : List ℕ)
    → length pages ≤ 2 ^ 20 → IsTree layout pages root levels → Along layout pages levels key [] root None
start layout pages root [] key small tree = absurd tree.top
start layout pages root (top ∷ more) key small tree =
    subst (λ (page : ℕ). Along layout pages (top ∷ more) key [] page None) tree.top.2
    (start_at layout pages top more key tree.top.0 tree.top.1 tree.joined (all_ascend layout pages (top ∷ more)
    tree.joined tree.ascend) (small_numbers layout pages root (top ∷ more) small tree))

pub start_along : (layout : RowLayout) (pages : List (Option Sector)) (root : ℕ) (levels : List (List TreeNode))
    (key : List ℕ) (steps : List PathStep) → steps ≡ [] → length pages ≤ 2 ^ 20 → IsTree layout pages root levels
    → Along layout pages levels key steps root None
start_along layout pages root levels key steps is small tree =
    subst (λ (s : List PathStep). Along layout pages levels key s root None) (sym is)
    (start layout pages root levels key small tree)

-- the node at a spot stands on its page
pub spot_in : {X : Type 0} (P : X → Type 0) (before : List X) (x : X) (after : List X) → All P (before ++ x ∷ after)
    → P x
spot_in P before x after all = All-head P x after (all_right P before (x ∷ after) all)

pub leaf_stands : (layout : RowLayout) (pages : List (Option Sector)) (spot : LevelZipper)
    → AreJoinedLevels layout pages (level_of spot ∷ []) → IsOnPage layout pages Leaf spot.node
leaf_stands layout pages spot joined = spot_in (IsOnPage layout pages Leaf) spot.before spot.node spot.after joined

pub inner_stands : (layout : RowLayout) (pages : List (Option Sector)) (spot : LevelZipper)
    (lower : List TreeNode) (more : List (List TreeNode)) → AreJoinedLevels layout pages (level_of spot ∷ lower ∷ more)
    → IsOnPage layout pages Inner spot.node
inner_stands layout pages spot lower more joined =
    spot_in (IsOnPage layout pages Inner) spot.before spot.node spot.after joined.0

pub record SomeStands (layout : RowLayout) (pages : List (Option Sector)) (page : ℕ) : Type 0 where
  pub kind : Kind
  pub node : TreeNode
  pub same : node.page ≡ page
  pub stands : IsOnPage layout pages kind node

some_stands :
    (layout : RowLayout) (pages : List (Option Sector)) (spot : LevelZipper) (more : List (List TreeNode)) (page : ℕ)
    → spot.node.page ≡ page → AreJoinedLevels layout pages (level_of spot ∷ more) → SomeStands layout pages page
some_stands layout pages spot [] page is joined =
    record { kind = Leaf; node = spot.node; same = is; stands = leaf_stands layout pages spot joined }
some_stands layout pages spot (lower ∷ more) page is joined =
    record { kind = Inner; node = spot.node; same = is; stands = inner_stands layout pages spot lower more joined }

pub along_stands : (layout : RowLayout) (pages : List (Option Sector)) (levels : List (List TreeNode)) (key : List ℕ)
    (steps : List PathStep) (page : ℕ) (right : Option (List ℕ)) → Along layout pages levels key steps page right
    → SomeStands layout pages page
along_stands layout pages levels key steps page right along =
    some_stands layout pages along.spot along.more page along.at_page along.joined

-- what is read there
same_node : (one two : Node) → Some one ≡ Some two → one ≡ two
same_node one two same = cc

node_read : (layout : RowLayout) (pages : List (Option Sector)) (kind : Kind) (tree_node : TreeNode) (page : ℕ)
    (node : Node) → tree_node.page ≡ page → IsOnPage layout pages kind tree_node → node_at layout pages page ≡ Some node
    → node_of layout kind tree_node.rows ≡ node
node_read layout pages kind tree_node page node is stands read =
    same_node (node_of layout kind tree_node.rows) node (sym stands.node ∙ ap (node_at layout pages) is ∙ read)

pub rows_read : (layout : RowLayout) (pages : List (Option Sector)) (kind : Kind) (tree_node : TreeNode) (page : ℕ)
    (node : Node) → tree_node.page ≡ page → IsOnPage layout pages kind tree_node → node_at layout pages page ≡ Some node
    → tree_node.rows ≡ node.rows
rows_read layout pages kind tree_node page node is stands read =
    ap (λ (n : Node). n.rows) (node_read layout pages kind tree_node page node is stands read)

pub kind_read : (layout : RowLayout) (pages : List (Option Sector)) (kind : Kind) (tree_node : TreeNode) (page : ℕ)
    (node : Node) → tree_node.page ≡ page → IsOnPage layout pages kind tree_node → node_at layout pages page ≡ Some node
    → kind ≡ node.kind
kind_read layout pages kind tree_node page node is stands read =
    ap (λ (n : Node). n.kind) (node_read layout pages kind tree_node page node is stands read)

-- A leaf ends the way.
ends_with : (layout : RowLayout) (pages : List (Option Sector)) (levels : List (List TreeNode)) (key : List ℕ) (steps :
    List PathStep) (page : ℕ) (right : Option (List ℕ)) (node : Node) (spot : LevelZipper) (more : List (List TreeNode))
    → AreJoinedLevels layout pages (level_of spot ∷ more) → IsSide layout key spot → spot.node.page ≡ page
    → right ≡ right_key layout spot
    → ((rest : List PathStep) (below : List LevelZipper) → IsPathOf layout key (level_of spot ∷ more) rest spot below
    → Reaches layout key levels (steps ++ rest) (lowest spot below))
    → node_at layout pages page ≡ Some node → node.kind ≡ Leaf → EndsAt layout key levels steps page node.rows right
ends_with layout pages levels key steps page right node spot [] joined side is beside whole read leaf = record {
  leaf = spot;
  reaches = subst (λ (all : List PathStep). Reaches layout key levels all spot) (append-nil steps)
      (whole [] [] (refl, side, refl, refl));
  at_page = is;
  has_rows = rows_read layout pages Leaf spot.node page node is (leaf_stands layout pages spot joined) read;
  beside = beside;
}
ends_with layout pages levels key steps page right node spot (lower ∷ more) joined side is beside whole read leaf =
    let clash : Inner ≡ Leaf =
    kind_read layout pages Inner spot.node page node is (inner_stands layout pages spot lower more joined) read
    ∙ leaf in
    absurd (cc)

pub ends_at : (layout : RowLayout) (pages : List (Option Sector)) (levels : List (List TreeNode)) (key : List ℕ)
    (steps : List PathStep) (page : ℕ) (right : Option (List ℕ)) (node : Node)
    → Along layout pages levels key steps page right → node_at layout pages page ≡ Some node → node.kind ≡ Leaf
    → EndsAt layout key levels steps page node.rows right
ends_at layout pages levels key steps page right node along read leaf =
    ends_with layout pages levels key steps page right node along.spot along.more along.joined along.side along.at_page
    along.beside along.whole read leaf

-- An inner page leads on.
names_of : (layout : RowLayout) (pages : List (Option Sector)) (spot : LevelZipper)
    (lower : List TreeNode) (more : List (List TreeNode)) → AreJoinedLevels layout pages (level_of spot ∷ lower ∷ more)
    → AllAscend layout (level_of spot ∷ lower ∷ more) → Names layout spot lower
names_of layout pages spot lower more joined ascend = record {
  is = sym (rows_around spot) ∙ joined.1;
  rows = joined_have_rows layout pages lower more joined.2;
  after = All-tail (HasRows layout) spot.node spot.after (all_right (HasRows layout) spot.before
      (spot.node ∷ spot.after) (joined_have_rows layout pages (level_of spot) (lower ∷ more) joined));
  up = ascend.1.0;
}

-- the first key to the right, after a step at a place
pub record IsBeside (layout : RowLayout) (rows : List (List ℕ)) (place : ℕ) (old new : Option (List ℕ)) : Type 0 where
  pub within : place + 1 < length rows → new ≡ Some (key_of layout (slice_index_or rows (place + 1) []))
  pub beyond : length rows ≤ place + 1 → new ≡ old

pub node_up : (layout : RowLayout) (spot : LevelZipper) → Up layout (rows_of (level_of spot)) → Up layout spot.node.rows
node_up layout spot up =
    up_left layout spot.node.rows (rows_of spot.after) (up_right layout (rows_of spot.before)
    (spot.node.rows ++ rows_of spot.after) (subst (Up layout) (rows_around spot) up))

page_small : (spot : LevelZipper) (more : List (List TreeNode))
    → All (λ page. page < 2 ^ 32) (pages_of (level_of spot ∷ more)) → spot.node.page < 2 ^ 32
page_small spot more small =
    let P : ℕ → Type 0 = λ page. page < 2 ^ 32 in
    let level = all_left P (map (λ (node : TreeNode). node.page) (level_of spot)) (pages_of more) small in
    spot_in P (map (λ (node : TreeNode). node.page) spot.before) spot.node.page (map (λ (node : TreeNode). node.page)
    spot.after) (subst (All P) (map-append (λ (node : TreeNode). node.page) spot.before (spot.node ∷ spot.after)) level)

step_to : (layout : RowLayout) (pages : List (Option Sector)) (levels : List (List TreeNode))
    (key : List ℕ) (steps : List PathStep) (right new : Option (List ℕ)) (spot : LevelZipper) (lower : List TreeNode)
    (more : List (List TreeNode)) (next : LevelZipper) (step : PathStep)
    → lower ≡ level_of next → AreJoinedLevels layout pages (lower ∷ more) → AllAscend layout (lower ∷ more)
    → All (λ page. page < 2 ^ 32) (pages_of (lower ∷ more)) → IsSide layout key spot → IsSide layout key next
    → StepsTo spot step next
    → new ≡ right_key layout next → length steps + suc (suc (length more)) ≡ length levels
    → ((rest : List PathStep) (below : List LevelZipper) → IsPathOf layout key (level_of spot ∷ lower ∷ more) rest spot
    below → Reaches layout key levels (steps ++ rest) (lowest spot below))
    → Along layout pages levels key (steps ++ step ∷ []) next.node.page new
step_to layout pages levels key steps right new spot lower more next step is joined ascend small side below_side
    steps_to beside depth whole = record {
      spot = next;
      more = more;
      joined = subst (λ (level : List TreeNode). AreJoinedLevels layout pages (level ∷ more)) is joined;
      ascend = subst (λ (level : List TreeNode). AllAscend layout (level ∷ more)) is ascend;
      small = subst (λ (level : List TreeNode). All (λ page. page < 2 ^ 32) (pages_of (level ∷ more))) is small;
      side = below_side;
      at_page = refl;
      beside = beside;
      depth = let count : length (steps ++ step ∷ []) ≡ length steps + 1 =
          length-append steps (step ∷ []) in omega arith;
      whole = λ rest below leads.
          subst (λ (all : List PathStep). Reaches layout key levels all (lowest next below))
          (sym (append_assoc steps (step ∷ []) rest))
          (whole (step ∷ rest) (next ∷ below) (
            refl,
            side,
            steps_to,
            subst (λ (level : List TreeNode). IsPathOf layout key (level ∷ more) rest next below) (sym is) leads,
          ));
    }

right_after : (layout : RowLayout) (spot : LevelZipper) (lower : List TreeNode) (place : ℕ) (old new : Option (List ℕ))
    → Names layout spot lower → place < length spot.node.rows → IsBeside layout spot.node.rows place old new
    → old ≡ right_key layout spot
    → new ≡ right_key layout (spot_at lower (next_place spot place))
right_after layout spot lower place old new names low beside is =
    elim (cases_lt (place + 1) (length spot.node.rows)) [
      | inl more ↦ beside.within more ∙ sym (next_right_within layout spot lower place names more)
      | inr last ↦ beside.beyond last ∙ is ∙ sym (next_right_beyond layout spot lower place names low last)
    ]

step_with : (layout : RowLayout) (pages : List (Option Sector)) (levels : List (List TreeNode)) (key : List ℕ)
    (steps : List PathStep) (page : ℕ) (right new : Option (List ℕ)) (node : Node) (place : ℕ) (spot : LevelZipper)
    (more : List (List TreeNode))
    → AreJoinedLevels layout pages (level_of spot ∷ more) → AllAscend layout (level_of spot ∷ more)
    → All (λ page. page < 2 ^ 32) (pages_of (level_of spot ∷ more)) → IsSide layout key spot → spot.node.page ≡ page
    → right ≡ right_key layout spot
    → length steps + suc (length more) ≡ length levels
    → ((rest : List PathStep) (below : List LevelZipper) → IsPathOf layout key (level_of spot ∷ more) rest spot below
    → Reaches layout key levels (steps ++ rest) (lowest spot below))
    → node_at layout pages page ≡ Some node
    → node.kind ≡ Inner → (Ascend (keys_of layout node.rows) → IsChosen layout key node.rows place)
    → IsBeside layout node.rows place right new
    → Along layout pages levels key (steps ++ record { page = page; place = place } ∷ [])
    (child_of layout (slice_index_or node.rows place [])) new
step_with layout pages levels key steps page right new node place spot [] joined ascend small side is beside depth whole
    read inner chosen after =
    let clash : Leaf ≡ Inner =
    kind_read layout pages Leaf spot.node page node is (leaf_stands layout pages spot joined) read ∙ inner in
    absurd (cc)
step_with layout pages levels key steps page right new node place spot (lower ∷ more) joined ascend small side is beside
    depth whole read inner chosen after =
    let rows : spot.node.rows ≡ node.rows =
    rows_read layout pages Inner spot.node page node is (inner_stands layout pages spot lower more joined) read in
    let names = names_of layout pages spot lower more joined ascend in
    let here : IsChosen layout key spot.node.rows place = subst (λ (r : List (List ℕ)). IsChosen layout key r place)
    (sym rows) (chosen (subst (Up layout) rows (node_up layout spot ascend.0))) in
    let next = spot_at lower (next_place spot place) in
    let level : lower ≡ level_of next =
    level_at lower (next_place spot place) (next_low layout spot lower place names here.low) in
    let P : ℕ → Type 0 = λ page. page < 2 ^ 32 in
    let small_below : All P (pages_of (lower ∷ more)) =
    all_right P (map (λ (tree_node : TreeNode). tree_node.page) (level_of spot)) (pages_of (lower ∷ more)) small in
    let child : child_of layout (slice_index_or node.rows place []) ≡ next.node.page =
    ap (λ (r : List (List ℕ)). child_of layout (slice_index_or r place [])) (sym rows)
    ∙ next_page layout spot lower place names here.low
    (page_small next more (subst (λ (l : List TreeNode). All P (pages_of (l ∷ more))) level small_below)) in
    subst (λ (child : ℕ). Along layout pages levels key (steps ++ record { page = page; place = place } ∷ []) child new)
    (sym child)
    (step_to layout pages levels key steps right new spot lower more next (record { page = page; place = place }) level
    joined.2 ascend.1 small_below side
    (next_side layout key spot lower place names side here)
    (next_step layout spot lower (record { page = page; place = place }) names (sym is) here.low)
    (right_after layout spot lower place right new names here.low
    (subst (λ (r : List (List ℕ)). IsBeside layout r place right new) (sym rows) after) beside) depth whole)

pub step : (layout : RowLayout) (pages : List (Option Sector)) (levels : List (List TreeNode)) (key : List ℕ)
    (steps : List PathStep) (page : ℕ) (right new : Option (List ℕ)) (node : Node) (place : ℕ)
    → Along layout pages levels key steps page right → node_at layout pages page ≡ Some node
    → node.kind ≡ Inner → (Ascend (keys_of layout node.rows) → IsChosen layout key node.rows place)
    → IsBeside layout node.rows place right new
    → Along layout pages levels key (steps ++ record { page = page; place = place } ∷ [])
    (child_of layout (slice_index_or node.rows place [])) new
step layout pages levels key steps page right new node place along read inner chosen after =
    step_with layout pages levels key steps page right new node place along.spot along.more along.joined along.ascend
    along.small along.side along.at_page along.beside along.depth along.whole read inner chosen after

-- no way is longer than the tree is deep
pub too_deep : (layout : RowLayout) (pages : List (Option Sector)) (root : ℕ) (levels : List (List TreeNode))
    (key : List ℕ) (steps : List PathStep) (page : ℕ) (right : Option (List ℕ))
    → length pages ≤ 2 ^ 20 → IsTree layout pages root levels → Along layout pages levels key steps page right
    → 21 ≤ length steps → ⊥
too_deep layout pages root levels key steps page right small tree along deep =
    let few = few_levels layout pages root levels small tree in
    let depth = along.depth in
    omega arith

-- What a way's end tells of all rows.
pub record IsLeafOf (layout : RowLayout) (pages : List (Option Sector)) (key : List ℕ) (levels : List (List TreeNode))
    (leaf : LevelZipper) : Type 0 where
  pub leaves : leaves_of levels ≡ level_of leaf
  pub rows : rows_in_order levels ≡ rows_of leaf.before ++ (leaf.node.rows ++ rows_of leaf.after)
  pub side : IsSide layout key leaf
  pub stands : IsOnPage layout pages Leaf leaf.node
  pub has_rows : All (HasRows layout) (level_of leaf)

leads_to_leaf : (layout : RowLayout) (pages : List (Option Sector)) (key : List ℕ) (levels : List (List TreeNode))
    (steps : List PathStep) (spot : LevelZipper) (below : List LevelZipper) → AreJoinedLevels layout pages levels
    → IsPathOf layout key levels steps spot below → IsLeafOf layout pages key levels (lowest spot below)
leads_to_leaf layout pages key [] steps spot below joined leads = absurd leads
leads_to_leaf layout pages key (leaves ∷ []) steps spot [] joined leads =
    let stand : AreJoinedLevels layout pages (level_of spot ∷ []) =
    subst (λ (level : List TreeNode). AreJoinedLevels layout pages (level ∷ [])) leads.0 joined in
    record {
      leaves = leads.0;
      rows = ap rows_of leads.0 ∙ rows_around spot;
      side = leads.1;
      stands = leaf_stands layout pages spot stand;
      has_rows = joined_have_rows layout pages (level_of spot) [] stand;
    }
leads_to_leaf layout pages key (leaves ∷ []) steps spot (next ∷ below) joined leads = let e : next ∷ below ≡ [] =
    leads.3 in absurd (cc)
leads_to_leaf layout pages key (upper ∷ lower ∷ more) [] spot below joined leads = absurd leads
leads_to_leaf layout pages key (upper ∷ lower ∷ more) (step ∷ steps) spot [] joined leads = absurd leads
leads_to_leaf layout pages key (upper ∷ lower ∷ more) (step ∷ steps) spot (next ∷ below) joined leads =
    let rest = leads_to_leaf layout pages key (lower ∷ more) steps next below joined.2 leads.3 in
    record {
      leaves = rest.leaves;
      rows = rest.rows;
      side = rest.side;
      stands = rest.stands;
      has_rows = rest.has_rows;
    }

pub leaf_of : (layout : RowLayout) (pages : List (Option Sector)) (key : List ℕ)
    (levels : List (List TreeNode)) (steps : List PathStep) (leaf : LevelZipper) → AreJoinedLevels layout pages levels
    → Reaches layout key levels steps leaf → IsLeafOf layout pages key levels leaf
leaf_of layout pages key levels steps leaf joined reaches = subst (IsLeafOf layout pages key levels) reaches.ends
    (leads_to_leaf layout pages key levels steps reaches.top reaches.below joined reaches.leads)

below_least : (layout : RowLayout) (before rows after : List (List ℕ)) → 1 ≤ length rows
    → Up layout (before ++ (rows ++ after)) → AllBelow layout (key_of layout (slice_index_or rows 0 [])) before
below_least layout before [] after some up = absurd (omega arith)
below_least layout before (row ∷ rows) after some up = all_below_first layout before row (rows ++ after) up

-- all rows left of the leaf are below the key
below_leaf : (layout : RowLayout) (key : List ℕ) (leaf : LevelZipper) → HasRows layout leaf.node
    → IsSide layout key leaf → Up layout (rows_of leaf.before ++ (leaf.node.rows ++ rows_of leaf.after))
    → AllBelow layout key (rows_of leaf.before)
below_leaf layout key leaf has side up =
    elim side.before [
      | inl none ↦ subst (λ (nodes : List TreeNode). AllBelow layout key (rows_of nodes)) (sym none)
          (All-nil (λ row. Precedes (key_of layout row) key))
      | inr low ↦ all_below_weaker layout (least_key layout leaf.node) key (rows_of leaf.before) low
          (below_least layout (rows_of leaf.before) leaf.node.rows (rows_of leaf.after) has.some up)
    ]

pub around_leaf : (layout : RowLayout) (pages : List (Option Sector)) (key : List ℕ) (root : ℕ) (levels :
    List (List TreeNode)) (leaf : LevelZipper) → IsTree layout pages root levels → IsLeafOf layout pages key levels leaf
    → IsAround layout key (rows_in_order levels) (rows_of leaf.before) leaf.node.rows (rows_of leaf.after)
around_leaf layout pages key root levels leaf tree is = record {
  is = is.rows;
  low = below_leaf layout key leaf (spot_in (HasRows layout) leaf.before leaf.node leaf.after is.has_rows) is.side
      (subst (Up layout) is.rows tree.ascend);
  high = is.side.after;
}

pub leaf_up : (layout : RowLayout) (pages : List (Option Sector))
    (key : List ℕ) (root : ℕ) (levels : List (List TreeNode)) (leaf : LevelZipper) → IsTree layout pages root levels
    → IsLeafOf layout pages key levels leaf → Up layout leaf.node.rows
leaf_up layout pages key root levels leaf tree is =
    up_left layout leaf.node.rows (rows_of leaf.after) (up_right layout (rows_of leaf.before)
    (leaf.node.rows ++ rows_of leaf.after) (subst (Up layout) is.rows tree.ascend))

-- where the page that was read has a layout of the same lengths
pub step_read : (layout other : RowLayout) (pages : List (Option Sector)) (levels : List (List TreeNode)) (key : List ℕ)
    (steps : List PathStep) (page : ℕ) (right new : Option (List ℕ)) (node : Node) (place : ℕ) → other ≡ layout
    → Along layout pages levels key steps page right → node_at layout pages page ≡ Some node → node.kind ≡ Inner
    → (Ascend (keys_of other node.rows) → IsChosen other key node.rows place) → IsBeside other node.rows place right new
    → Along layout pages levels key (steps ++ record { page = page; place = place } ∷ [])
    (child_of other (slice_index_or node.rows place [])) new
step_read layout other pages levels key steps page right new node place same along read inner chosen after =
    let P : RowLayout → Type 0 =
    λ f. (Ascend (keys_of f node.rows) → IsChosen f key node.rows place) → IsBeside f node.rows place right new
    → Along layout pages levels key (steps ++ record { page = page; place = place } ∷ [])
    (child_of f (slice_index_or node.rows place [])) new in
    subst P (sym same) (step layout pages levels key steps page right new node place along read inner) chosen after
