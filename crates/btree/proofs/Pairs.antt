-- A child and its neighbour.
use Rattle.std.proofs.Common.{◌≡◌, ◌≢◌, ◌⊎◌, inl, inr, ⊎_elim, ◌<◌, ◌≤◌, ◌+◌, ℕ, zero, suc, List, [], ◌∷◌, ◌++◌, length}
use Rattle.std.proofs.Common.{map, take, drop, refl, sym, ◌∙◌, ap, subst, arith, append_assoc, length-append}
use Rattle.std.specs.Prelude.{Contains, Option, slice_index_or}
use Rattle.std.specs.List.{All}
use Rattle.std.proofs.lemmas.List.{append-nil, length-map, take-append-drop, drop_more}
use Rattle.std.proofs.lemmas.List.Elements.{All-head, All-tail, Contains-append_left, Contains-append_right}
use Rattle.station.specs.Disk.{Sector}
use Rattle.btree_pages.specs.declared.row_layout.RowLayout.{RowLayout}
use Rattle.btree_pages.specs.declared.row_layout.Kind.{Kind}
use Rattle.btree_pages.specs.declared.row_layout.Kind.TheVariants.{Inner}
use Rattle.btree.specs.Tree.{TreeNode, row_of, rows_of, IsOnPage, pages_of}
use Rattle.btree.specs.Path.{LevelZipper, level_of, PathStep, StepsTo}
use Rattle.btree.specs.Moves.{Once, numbers_of}
use Rattle.btree.specs.Outcomes.{pair_of, rows_together, IsPair}
use Rattle.btree.specs.Changes.{IsIn}
use Rattle.btree.proofs.Runs.{in_head, in_tail, once_left, once_right, once_apart}
use Rattle.btree.proofs.Splices.{numbers_append, rows_append, all_right, no_node}
use Rattle.btree.proofs.Propagating.{steps_here}

-- The nodes at the left place of a pair and at the next one are neighbours, one of which is the spot's.
pub record Neighbours (spot next : LevelZipper) (place : ℕ) : Type 0 where
  pub before : List TreeNode
  pub left : TreeNode
  pub right : TreeNode
  pub after : List TreeNode
  pub level : level_of next ≡ before ++ ((left ∷ right ∷ []) ++ after)
  pub count : length (rows_of spot.before) + pair_of place ≡ length before
  pub together : (lone : List (List ℕ)) → rows_of before ++ (rows_together place lone left right ++ rows_of after)
      ≡ rows_of next.before ++ (lone ++ rows_of next.after)
  pub either : (place ≡ 0) × (left ≡ next.node) ⊎ (place ≢ 0) × (right ≡ next.node)

-- a list's last item
pub record LastOf {X : Type 0} (xs : List X) : Type 0 where
  pub front : List X
  pub last : X
  pub is : xs ≡ front ++ last ∷ []

last_of : {X : Type 0} (xs : List X) → 0 < length xs → LastOf xs
last_of [] some = absurd (omega (arith, some))
last_of (x ∷ []) some = record { front = []; last = x; is = refl }
last_of (x ∷ y ∷ ys) some =
    let more = last_of (y ∷ ys) (omega arith) in
    record { front = x ∷ more.front; last = more.last; is = ap (λ zs. x ∷ zs) more.is }

-- how many nodes there are to the right
right_count : (layout : RowLayout) (spot next : LevelZipper) (step : PathStep)
    → StepsTo spot step next → rows_of (level_of spot) ≡ map (row_of layout) (level_of next)
    → length spot.node.rows ≤ step.place + 1 + length next.after
right_count layout spot next step steps names =
    let all = ap length names in
    let named = length-map (level_of next) (row_of layout) in
    let upper = ap length (rows_append spot.before (spot.node ∷ spot.after)) in
    let cut = length-append (rows_of spot.before) (spot.node.rows ++ rows_of spot.after) in
    let rest = length-append spot.node.rows (rows_of spot.after) in
    let lower = length-append next.before (next.node ∷ next.after) in
    omega (arith, all, named, upper, cut, rest, lower, steps.leads)

first_pair : (spot next : LevelZipper) (after : List TreeNode) → length (rows_of spot.before) + 0 ≡ length next.before
    → next.after ≡ after → 0 < length after → Neighbours spot next 0
first_pair spot next [] count is some = absurd (omega (arith, some))
first_pair spot next (right ∷ after) count is some = record {
  before = next.before;
  left = next.node;
  right = right;
  after = after;
  level = ap (λ (rest : List TreeNode). next.before ++ next.node ∷ rest) is;
  count = count;
  together = λ lone. ap (λ x. rows_of next.before ++ x) (append_assoc lone right.rows (rows_of after)
      ∙ ap (λ (rest : List TreeNode). lone ++ rows_of rest) (sym is));
  either = inl (refl, refl);
}

later_pair : (spot next : LevelZipper) (place : ℕ) → length (rows_of spot.before) + suc place ≡ length next.before
    → Neighbours spot next (suc place)
later_pair spot next place count =
    let last = last_of next.before (omega (arith, count)) in
    let one = length-append last.front (last.last ∷ []) in
    let long = ap length last.is in
    record {
      before = last.front;
      left = last.last;
      right = next.node;
      after = next.after;
      level = ap (λ (front : List TreeNode). front ++ next.node ∷ next.after) last.is
          ∙ append_assoc last.front (last.last ∷ []) (next.node ∷ next.after);
      count = omega (arith, count, one, long);
      together = λ lone.
          ap (λ x. rows_of last.front ++ x) (append_assoc last.last.rows lone (rows_of next.after))
          ∙ sym (append_assoc (rows_of last.front) last.last.rows (lone ++ rows_of next.after))
          ∙ ap (λ x. x ++ (lone ++ rows_of next.after)) (ap (λ x. rows_of last.front ++ x)
          (sym (append-nil last.last.rows)) ∙ sym (rows_append last.front (last.last ∷ [])) ∙ ap rows_of (sym last.is));
      either = inr ((λ same. omega (arith, same)), refl);
    }

neighbours_at : (spot next : LevelZipper) (place : ℕ) → length (rows_of spot.before) + place ≡ length next.before
    → 0 < place + length next.after → Neighbours spot next place
neighbours_at spot next zero count some = first_pair spot next next.after count refl (omega (arith, some))
neighbours_at spot next (suc place) count some = later_pair spot next place count

pub neighbours : (layout : RowLayout) (spot next : LevelZipper) (step : PathStep)
    → StepsTo spot step next → rows_of (level_of spot) ≡ map (row_of layout) (level_of next) → 2 ≤ length spot.node.rows
    → Neighbours spot next step.place
neighbours layout spot next step steps names two =
    let right = right_count layout spot next step steps names in
    neighbours_at spot next step.place steps.leads (omega (arith, right, two))

pair_within : (place count : ℕ) → place < count → 2 ≤ count → pair_of place + 1 < count
pair_within zero count low two = omega (arith, two)
pair_within (suc place) count low two = omega (arith, low)

-- The rows that name them.
pub record PairNamed (layout : RowLayout) (rows : List (List ℕ)) (place : ℕ) (left right : TreeNode) : Type 0 where
  pub within : pair_of place + 1 < length rows
  pub left_row : slice_index_or rows (pair_of place) [] ≡ row_of layout left
  pub right_row : slice_index_or rows (pair_of place + 1) [] ≡ row_of layout right
  pub rows_are : rows
      ≡ take (pair_of place) rows ++ (map (row_of layout) (left ∷ right ∷ []) ++ drop (pair_of place + 2) rows)

-- the row at a place of a spot's node names a node of the next level
row_at : (layout : RowLayout) (spot : LevelZipper) (place : ℕ) (before : List TreeNode) (tree_node : TreeNode)
    (after : List TreeNode) → place < length spot.node.rows → length (rows_of spot.before) + place ≡ length before
    → rows_of (level_of spot) ≡ map (row_of layout) (before ++ tree_node ∷ after)
    → slice_index_or spot.node.rows place [] ≡ row_of layout tree_node
row_at layout spot place before tree_node after low count names =
    let step : PathStep = record { page = spot.node.page; place = place } in
    let lower : LevelZipper = record { before = before; node = tree_node; after = after } in
    (steps_here layout spot lower step (record { page = refl; place = low; leads = count }) names).row

pub pair_named : (layout : RowLayout) (spot next : LevelZipper) (place : ℕ) → place < length spot.node.rows
    → 2 ≤ length spot.node.rows → rows_of (level_of spot) ≡ map (row_of layout) (level_of next)
    → (n : Neighbours spot next place)
    → PairNamed layout spot.node.rows place n.left n.right
pair_named layout spot next place low two names n =
    let rows = spot.node.rows in
    let q = pair_of place in
    let here : rows_of (level_of spot) ≡ map (row_of layout) (n.before ++ n.left ∷ n.right ∷ n.after) =
    names ∙ ap (map (row_of layout)) n.level in
    let within : q + 1 < length rows = pair_within place (length rows) low two in
    let one = length-append n.before (n.left ∷ []) in
    let left = row_at layout spot q n.before n.left (n.right ∷ n.after) (omega (arith, within)) n.count here in
    let right =
    row_at layout spot (q + 1) (n.before ++ n.left ∷ []) n.right n.after within (omega (arith, one, n.count))
    (here ∙ ap (map (row_of layout)) (sym (append_assoc n.before (n.left ∷ []) (n.right ∷ n.after)))) in
    record {
      within = within;
      left_row = left;
      right_row = right;
      rows_are = sym (take-append-drop q rows)
          ∙ ap (λ x. take q rows ++ x) (
          drop_more rows q [] (omega (arith, within)) ∙ ap (λ x. x ∷ drop (q + 1) rows) left
          ∙ ap (λ x. row_of layout n.left ∷ x) (drop_more rows (q + 1) [] within
          ∙ ap (λ x. x ∷ drop (q + 1 + 1) rows) right ∙ ap (λ (k : ℕ). row_of layout n.right ∷ drop k rows)
          (let two_more : q + 1 + 1 ≡ q + 2 = omega arith in two_more)));
    }

-- What stands at a step above a page that too few rows are left for.
pub record PairStands (layout : RowLayout) (kind : Kind) (pages : List (Option Sector)) (spot next : LevelZipper)
    (more : List (List TreeNode)) : Type 0 where
  pub own : IsOnPage layout pages Inner spot.node
  pub level : All (IsOnPage layout pages kind) (level_of next)
  pub once : Once (pages_of (level_of spot ∷ level_of next ∷ more))

stands_in : (layout : RowLayout) (kind : Kind) (pages : List (Option Sector)) (node : TreeNode)
    → IsOnPage layout pages kind node → IsIn pages node.page
stands_in layout kind pages node stands = λ none. no_node layout pages kind node stands none

pub is_pair : (layout : RowLayout) (kind : Kind) (pages : List (Option Sector))
    (spot next : LevelZipper) (place : ℕ) (more : List (List TreeNode)) → place < length spot.node.rows
    → rows_of (level_of spot) ≡ map (row_of layout) (level_of next) → PairStands layout kind pages spot next more
    → (n : Neighbours spot next place)
    → IsPair layout kind pages spot.node.page spot.node.rows place next.node.page n.left n.right
is_pair layout kind pages spot next place more low names s n =
    let named = pair_named layout spot next place low s.own.enough names n in
    let level = subst (λ (l : List TreeNode). All (IsOnPage layout pages kind) l) n.level s.level in
    let pair = all_right (IsOnPage layout pages kind) n.before (n.left ∷ n.right ∷ n.after) level in
    let left = All-head (IsOnPage layout pages kind) n.left (n.right ∷ n.after) pair in
    let right = All-head (IsOnPage layout pages kind) n.right n.after
    (All-tail (IsOnPage layout pages kind) n.left (n.right ∷ n.after) pair) in
    let upper = numbers_of (level_of spot) in
    let rest : Once (numbers_of (level_of next)) = once_left (numbers_of (level_of next)) (pages_of more)
    (once_right upper (pages_of (level_of next ∷ more)) s.once) in
    let numbers :
    numbers_of (level_of next) ≡ numbers_of n.before ++ (n.left.page ∷ n.right.page ∷ numbers_of n.after) =
    ap numbers_of n.level ∙ numbers_append n.before (n.left ∷ n.right ∷ n.after) in
    let two : Once (n.left.page ∷ n.right.page ∷ numbers_of n.after) =
    once_right (numbers_of n.before) (n.left.page ∷ n.right.page ∷ numbers_of n.after) (subst Once numbers rest) in
    let own : Contains upper spot.node.page = subst (λ list. Contains list spot.node.page)
    (sym (numbers_append spot.before (spot.node ∷ spot.after))) (Contains-append_right (numbers_of spot.before)
    (spot.node.page ∷ numbers_of spot.after) spot.node.page (in_head spot.node.page (numbers_of spot.after))) in
    let other =
    λ (page : ℕ) (has : Contains (n.left.page ∷ n.right.page ∷ numbers_of n.after) page) (same : page ≡ spot.node.page).
    once_apart upper (pages_of (level_of next ∷ more)) s.once page (subst (λ x. Contains upper x) (sym same) own)
    (Contains-append_left
    (numbers_of (level_of next)) (pages_of more) page (subst (λ list. Contains list page) (sym numbers)
    (Contains-append_right (numbers_of n.before) (n.left.page ∷ n.right.page ∷ numbers_of n.after) page has))) in
    record {
      within = named.within;
      left_row = named.left_row;
      right_row = named.right_row;
      own_in = stands_in layout Inner pages spot.node s.own;
      left_in = stands_in layout kind pages n.left left;
      right_in = stands_in layout kind pages n.right right;
      apart = λ same. two.0 (subst (λ x. Contains (n.right.page ∷ numbers_of n.after) x) (sym same)
          (in_head n.right.page (numbers_of n.after)));
      left_apart = other n.left.page (in_head n.left.page (n.right.page ∷ numbers_of n.after));
      right_apart = other n.right.page (in_tail n.left.page (n.right.page ∷ numbers_of n.after) n.right.page
          (in_head n.right.page (numbers_of n.after)));
      either = ⊎_elim
          (λ first. inl (first.0, ap (λ (node : TreeNode). node.page) first.1, right))
          (λ later. inr (later.0, ap (λ (node : TreeNode). node.page) later.1, left))
          n.either;
    }

-- neither is page 0
pub pair_some : (spot next : LevelZipper) (place : ℕ) (n : Neighbours spot next place)
    → All (λ (page : ℕ). 0 < page) (numbers_of (level_of next)) → (0 < n.left.page) × (0 < n.right.page)
pair_some spot next place n some =
    let P = λ (page : ℕ). 0 < page in
    let numbers :
    numbers_of (level_of next) ≡ numbers_of n.before ++ (n.left.page ∷ n.right.page ∷ numbers_of n.after) =
    ap numbers_of n.level ∙ numbers_append n.before (n.left ∷ n.right ∷ n.after) in
    let pair = all_right P (numbers_of n.before) (n.left.page ∷ n.right.page ∷ numbers_of n.after)
    (subst (λ list. All P list) numbers some) in (
      All-head P n.left.page (n.right.page ∷ numbers_of n.after) pair,
      All-head P n.right.page (numbers_of n.after) (All-tail P n.left.page (n.right.page ∷ numbers_of n.after) pair),
    )
