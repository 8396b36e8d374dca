-- A removal goes up from the leaf, level by level.
use Rattle.std.proofs.Common.{◌≡◌, inl, ◌<◌, ◌≤◌, ◌+◌, ℕ, List, [], ◌∷◌, ◌++◌, length, map, take, drop, refl, sym, ◌∙◌}
use Rattle.std.proofs.Common.{ap, subst, arith}
use Rattle.std.specs.Prelude.{Option}
use Rattle.std.specs.List.{All}
use Rattle.std.proofs.lemmas.List.{append-nil}
use Rattle.std.proofs.lemmas.List.Elements.{All-head}
use Rattle.byteorder.specs.Endian.{big_bytes}
use Rattle.station.specs.Disk.{Sector}
use Rattle.btree_pages.specs.declared.row_layout.RowLayout.{RowLayout}
use Rattle.btree_pages.specs.declared.row_layout.Kind.{Kind}
use Rattle.btree_pages.specs.declared.row_layout.Kind.TheVariants.{Leaf, Inner}
use Rattle.btree.specs.declared.removal_outcome.RemovalOutcome.{RemovalOutcome}
use Rattle.btree.specs.declared.removal_outcome.RemovalOutcome.TheVariants.{Kept, Renamed, Gone, Underfull}
use Rattle.btree_pages.specs.Node.{Node}
use Rattle.btree.specs.Tree.{TreeNode, leaves_of, least_key, row_of, rows_of, IsOnPage, AreJoinedLevels, pages_of}
use Rattle.btree.specs.Tree.{rows_in_order}
use Rattle.btree.specs.Path.{LevelZipper, level_of, PathStep, StepsTo}
use Rattle.btree.specs.Moves.{Once, numbers_of, Became, ReplacesNodes}
use Rattle.btree.specs.Propagates.{node_with}
use Rattle.btree.specs.Outcomes.{IsRemovalResult}
use Rattle.btree.specs.Fills.{HasTooFewRows, thin_leaves}
use Rattle.btree.specs.Shrinks.{ShrinksTo, ShrinksUnder, Waits, Shrinks}
use Rattle.btree.proofs.Runs.{in_none, once_left, once_right, once_apart, once_append}
use Rattle.btree.proofs.Splices.{rows_append, rows_replaced, all_left, all_right}
use Rattle.btree.proofs.Steps.{step_by, step_leaves, own_kept}
use Rattle.btree.proofs.Propagating.{steps_here}
use Rattle.btree.proofs.Filling.{thin_around, not_thin}
use Rattle.std.proofs.lemmas.List.Elements.{Contains-append_right}

-- What a page fares on: the levels below its spot's became others, which the spot's level names once its node has these
-- rows.
pub record Under (layout : RowLayout) (one two : List (Option Sector)) (spot : LevelZipper)
    (lower lower' : List TreeNode) (more more' : List (List TreeNode)) (rows ordered : List (List ℕ)) : Type 0 where
  pub joined : AreJoinedLevels layout one (level_of spot ∷ lower ∷ more)
  pub once : Once (pages_of (level_of spot ∷ lower ∷ more))
  pub became : Became layout one (lower ∷ more) two (lower' ∷ more')
  pub names : rows_of spot.before ++ (rows ++ rows_of spot.after) ≡ map (row_of layout) lower'
  pub leaves : rows_in_order (lower' ∷ more') ≡ ordered
  pub fill : thin_leaves layout (leaves_of (lower' ∷ more')) ≤ thin_leaves layout (leaves_of (lower ∷ more))

-- the spot's node became these
shrinks_run : (layout : RowLayout) (one two three : List (Option Sector)) (spot : LevelZipper) (lower lower' :
    List TreeNode) (more more' : List (List TreeNode)) (rows ordered : List (List ℕ)) (run : List TreeNode)
    → Under layout one two spot lower lower' more more' rows ordered
    → ReplacesNodes layout Inner two (spot.node ∷ []) three run → rows_of run ≡ rows
    → ShrinksTo layout one (level_of spot ∷ lower ∷ more) spot three ordered run
shrinks_run layout one two three spot lower lower' more more' rows ordered run under own is = record {
  more = lower' ∷ more';
  became = step_by layout one two three spot.before (spot.node ∷ []) run spot.after lower lower' more more' under.joined
      under.once under.became own
      (rows_append spot.before (run ++ spot.after) ∙ ap (λ x. rows_of spot.before ++ x)
      (rows_append run spot.after ∙ ap (λ x. x ++ rows_of spot.after) is) ∙ under.names);
  rows = under.leaves;
  fill = under.fill;
}

-- What is told of a page that wasn't written, by its node.
abbrev Short : RowLayout → List (Option Sector) → List (List TreeNode) → LevelZipper → List (Option Sector)
    → List (List ℕ) → Node → Type 0
Short layout pages levels spot after ordered node =
    (node.layout ≡ layout) × (0 < length node.rows) × HasTooFewRows layout node.kind (length node.rows)
    × Waits node.kind layout pages levels spot after ordered node.rows

pub shrinks_by : (layout : RowLayout) (one two three : List (Option Sector)) (spot : LevelZipper) (lower lower' :
    List TreeNode) (more more' : List (List TreeNode)) (rows ordered : List (List ℕ)) (outcome : RemovalOutcome)
    → Under layout one two spot lower lower' more more' rows ordered
    → IsRemovalResult layout Inner two three spot.node.page spot.node.rows rows outcome
    → Shrinks layout one (level_of spot ∷ lower ∷ more) spot three ordered outcome
shrinks_by layout one two three spot lower lower' more more' rows ordered Kept under fares = (
  node_with spot.node.page rows ∷ [],
  record { node = node_with spot.node.page rows; alone = refl; page = refl; least = fares.1 },
  shrinks_run layout one two three spot lower lower' more more' rows ordered (node_with spot.node.page rows ∷ []) under
      fares.0 (append-nil rows),
)
shrinks_by layout one two three spot lower lower' more more' rows ordered (Renamed child) under fares = (
  fares.1,
  subst (λ (run : List TreeNode). ShrinksTo layout one (level_of spot ∷ lower ∷ more) spot three ordered run)
      (ap (λ (page : ℕ). node_with page rows ∷ []) (sym fares.1)
      ∙ ap (λ (node : Node). node_with child.page node.rows ∷ []) (sym fares.2))
      (shrinks_run layout one two three spot lower lower' more more' rows ordered (node_with spot.node.page rows ∷ [])
      under fares.0 (append-nil rows)),
)
shrinks_by layout one two three spot lower lower' more more' rows ordered Gone under fares =
    shrinks_run layout one two three spot lower lower' more more' rows ordered [] under fares.0 (sym fares.1)
shrinks_by layout one two three spot lower lower' more more' rows ordered (Underfull child) under fares =
    let waits : ShrinksUnder layout one (level_of spot ∷ lower ∷ more) spot three ordered rows = record {
      old = lower;
      old_more = more;
      is = refl;
      new = lower';
      new_more = more';
      became = subst (λ (pages : List (Option Sector)). Became layout one (lower ∷ more) pages (lower' ∷ more'))
          (sym fares.0) under.became;
      names = under.names;
      leaves = under.leaves;
      fill = under.fill;
    } in
    let short = subst (λ (node : Node). Short layout one (level_of spot ∷ lower ∷ more) spot three ordered node)
    (sym fares.2) (refl, fares.3, fares.4, waits) in
    (fares.1, short.0, short.1, short.2, short.3)

-- The rows of a spot's node, of which some named a run of the next level, which became another.
pub names_run : (layout : RowLayout) (spot : LevelZipper) (rows : List (List ℕ))
    (lower_before low low' lower_after : List TreeNode) (left right : List (List ℕ))
    → length (rows_of spot.before) + length left ≡ length lower_before
    → spot.node.rows ≡ left ++ (map (row_of layout) low ++ right) → rows ≡ left ++ (map (row_of layout) low' ++ right)
    → rows_of (level_of spot) ≡ map (row_of layout) (lower_before ++ (low ++ lower_after))
    → rows_of spot.before ++ (rows ++ rows_of spot.after) ≡ map (row_of layout) (lower_before ++ (low' ++ lower_after))
names_run layout spot rows lower_before low low' lower_after left right place was is names =
    sym (rows_append spot.before (node_with spot.node.page rows ∷ spot.after))
    ∙ rows_replaced layout spot.before (spot.node ∷ []) (node_with spot.node.page rows ∷ []) spot.after lower_before low
    low' lower_after left right
    (record { place = place; was = append-nil spot.node.rows ∙ was; is = append-nil rows ∙ is }) names

-- a page whose child became these nodes
pub shrinks_one : (layout : RowLayout) (one two three : List (Option Sector)) (spot next : LevelZipper) (step :
    PathStep) (more : List (List TreeNode)) (run : List TreeNode) (ordered : List (List ℕ)) (outcome : RemovalOutcome)
    → AreJoinedLevels layout one (level_of spot ∷ level_of next ∷ more)
    → Once (pages_of (level_of spot ∷ level_of next ∷ more)) → StepsTo spot step next
    → ShrinksTo layout one (level_of next ∷ more) next two ordered run
    → IsRemovalResult layout Inner two three spot.node.page spot.node.rows
    (take step.place spot.node.rows ++ (map (row_of layout) run ++ drop (step.place + 1) spot.node.rows)) outcome
    → Shrinks layout one (level_of spot ∷ level_of next ∷ more) spot three ordered outcome
shrinks_one layout one two three spot next step more run ordered outcome joined once steps below fares =
    let rows = take step.place spot.node.rows ++ (map (row_of layout) run ++ drop (step.place + 1) spot.node.rows) in
    let here = steps_here layout spot next step steps joined.1 in
    shrinks_by layout one two three spot (level_of next) (next.before ++ (run ++ next.after)) more below.more rows
    ordered outcome
    (record {
      joined = joined;
      once = once;
      became = below.became;
      names = names_run layout spot rows next.before (next.node ∷ []) run next.after (take step.place spot.node.rows)
          (drop (step.place + 1) spot.node.rows) here.count here.rows refl joined.1;
      leaves = below.rows;
      fill = below.fill;
    })
    fares

-- the levels above stand while those below change
once_skips : (a b c : List ℕ) → Once (a ++ (b ++ c)) → Once (a ++ c)
once_skips a b c once = once_append a c (once_left a (b ++ c) once) (once_right b c (once_right a (b ++ c) once))
    (λ x left right. once_apart a (b ++ c) once x left (Contains-append_right b c x right))

pub still_under : (layout : RowLayout) (one two : List (Option Sector)) (spot next : LevelZipper)
    (more : List (List TreeNode)) (rows ordered : List (List ℕ)) → All (IsOnPage layout one Inner) (level_of spot)
    → Once (pages_of (level_of spot ∷ level_of next ∷ more))
    → ShrinksUnder layout one (level_of next ∷ more) next two ordered rows
    → All (IsOnPage layout two Inner) (level_of spot)
still_under layout one two spot next more rows ordered stand once below =
    let tails : more ≡ below.old ∷ below.old_more = let is = below.is in cc in
    let skips = subst (λ (m : List (List TreeNode)). Once (numbers_of (level_of spot) ++ pages_of m)) tails
    (once_skips (numbers_of (level_of spot)) (numbers_of (level_of next)) (pages_of more) once) in
    own_kept layout one two spot.before (spot.node ∷ []) spot.after (below.old ∷ below.old_more)
    (below.new ∷ below.new_more) stand skips below.became

-- nothing is written before a leaf's neighbour is known
still_waits : (kind : Kind) (layout : RowLayout) (one two : List (Option Sector)) (spot next : LevelZipper)
    (more : List (List TreeNode)) (rows ordered : List (List ℕ)) → All (IsOnPage layout one Inner) (level_of spot)
    → Once (pages_of (level_of spot ∷ level_of next ∷ more))
    → Waits kind layout one (level_of next ∷ more) next two ordered rows
    → All (IsOnPage layout two Inner) (level_of spot)
still_waits Leaf layout one two spot next more rows ordered stand once below =
    subst (λ (pages : List (Option Sector)). All (IsOnPage layout pages Inner) (level_of spot)) (sym below.same) stand
still_waits Inner layout one two spot next more rows ordered stand once below =
    still_under layout one two spot next more rows ordered stand once below

still_to : (layout : RowLayout) (one two : List (Option Sector)) (spot next : LevelZipper) (more : List (List TreeNode))
    (ordered : List (List ℕ)) (run : List TreeNode) → All (IsOnPage layout one Inner) (level_of spot)
    → Once (pages_of (level_of spot ∷ level_of next ∷ more))
    → ShrinksTo layout one (level_of next ∷ more) next two ordered run → All (IsOnPage layout two Inner) (level_of spot)
still_to layout one two spot next more ordered run stand once below =
    own_kept layout one two spot.before (spot.node ∷ []) spot.after (level_of next ∷ more)
    ((next.before ++ (run ++ next.after)) ∷ below.more) stand once below.became

pub still_above : (layout : RowLayout) (one two : List (Option Sector))
    (spot next : LevelZipper) (more : List (List TreeNode)) (ordered : List (List ℕ)) (outcome : RemovalOutcome)
    → All (IsOnPage layout one Inner) (level_of spot) → Once (pages_of (level_of spot ∷ level_of next ∷ more))
    → Shrinks layout one (level_of next ∷ more) next two ordered outcome
    → All (IsOnPage layout two Inner) (level_of spot)
still_above layout one two spot next more ordered Kept stand once below =
    still_to layout one two spot next more ordered below.0 stand once below.2
still_above layout one two spot next more ordered (Renamed child) stand once below =
    still_to layout one two spot next more ordered (node_with child.page child.node.rows ∷ []) stand once below.1
still_above layout one two spot next more ordered Gone stand once below =
    still_to layout one two spot next more ordered [] stand once below
still_above layout one two spot next more ordered (Underfull child) stand once below =
    still_waits child.node.kind layout one two spot next more child.node.rows ordered stand once below.4

-- nothing to be told: the spot's node stays as it is
pub shrinks_same : (layout : RowLayout) (one two : List (Option Sector)) (spot next : LevelZipper) (step : PathStep)
    (more : List (List TreeNode)) (ordered : List (List ℕ))
    → AreJoinedLevels layout one (level_of spot ∷ level_of next ∷ more)
    → Once (pages_of (level_of spot ∷ level_of next ∷ more)) → StepsTo spot step next
    → Shrinks layout one (level_of next ∷ more) next two ordered Kept
    → Shrinks layout one (level_of spot ∷ level_of next ∷ more) spot two ordered Kept
shrinks_same layout one two spot next step more ordered joined once steps below =
    let here = steps_here layout spot next step steps joined.1 in
    let stand = still_above layout one two spot next more ordered Kept joined.0 once below in
    let same = below.1 in
    let names : map (row_of layout) below.0 ≡ row_of layout next.node ∷ [] =
    ap (map (row_of layout)) same.alone ∙ ap (λ (page : ℕ). (least_key layout same.node ++ big_bytes 4 page) ∷ [])
    same.page ∙ ap (λ (key : List ℕ). (key ++ big_bytes 4 next.node.page) ∷ []) same.least in
    let rows : take step.place spot.node.rows ++ (map (row_of layout) below.0 ++ drop (step.place + 1) spot.node.rows)
    ≡ spot.node.rows =
    ap (λ x. take step.place spot.node.rows ++ (x ++ drop (step.place + 1) spot.node.rows)) names ∙ sym here.rows in
    let own : ReplacesNodes layout Inner two (spot.node ∷ []) two (spot.node ∷ []) =
    record {
      stand = all_left (IsOnPage layout two Inner) (spot.node ∷ []) spot.after
          (all_right (IsOnPage layout two Inner) spot.before ((spot.node ∷ []) ++ spot.after) stand);
      once = (in_none spot.node.page, tt);
      moves = record {
        count = refl;
        others = λ page was is. refl;
        joins = λ page has. inl has;
        leaves = λ page has. inl has;
      };
    } in
    let enough = All-head (IsOnPage layout two Inner) spot.node [] own.stand in
    let fares : IsRemovalResult layout Inner two two spot.node.page spot.node.rows spot.node.rows Kept =
    (own, refl, λ short. omega (arith, short, enough.enough)) in
    shrinks_one layout one two two spot next step more below.0 ordered Kept joined once steps below.2
    (subst (λ (r : List (List ℕ)). IsRemovalResult layout Inner two two spot.node.page spot.node.rows r Kept) (sym rows)
    fares)

-- the change of the leaf itself
leaf_run : (layout : RowLayout) (one three : List (Option Sector)) (spot : LevelZipper) (run : List TreeNode)
    (rows : List (List ℕ)) → All (IsOnPage layout one Leaf) (level_of spot) → Once (pages_of (level_of spot ∷ []))
    → ReplacesNodes layout Leaf one (spot.node ∷ []) three run → rows_of run ≡ rows → thin_leaves layout run ≡ 0
    → ShrinksTo layout one (level_of spot ∷ []) spot three (rows_of spot.before ++ (rows ++ rows_of spot.after)) run
leaf_run layout one three spot run rows stand once own is none = record {
  more = [];
  became = step_leaves layout one three spot.before (spot.node ∷ []) run spot.after stand once own;
  rows = rows_append spot.before (run ++ spot.after)
      ∙ ap (λ x. rows_of spot.before ++ x) (rows_append run spot.after ∙ ap (λ x. x ++ rows_of spot.after) is);
  fill = thin_around layout spot.before (spot.node ∷ []) run spot.after (omega (arith, none));
}

pub shrinks_leaf : (layout : RowLayout) (one three : List (Option Sector)) (spot : LevelZipper) (rows : List (List ℕ))
    (outcome : RemovalOutcome) → All (IsOnPage layout one Leaf) (level_of spot) → Once (pages_of (level_of spot ∷ []))
    → IsRemovalResult layout Leaf one three spot.node.page spot.node.rows rows outcome
    → Shrinks layout one (level_of spot ∷ []) spot three (rows_of spot.before ++ (rows ++ rows_of spot.after)) outcome
shrinks_leaf layout one three spot rows Kept stand once fares = (
  node_with spot.node.page rows ∷ [],
  record { node = node_with spot.node.page rows; alone = refl; page = refl; least = fares.1 },
  leaf_run layout one three spot (node_with spot.node.page rows ∷ []) rows stand once fares.0 (append-nil rows)
      (not_thin layout (node_with spot.node.page rows) fares.2),
)
shrinks_leaf layout one three spot rows (Renamed child) stand once fares = (
  fares.1,
  subst (λ (run : List TreeNode).
      ShrinksTo layout one (level_of spot ∷ []) spot three (rows_of spot.before ++ (rows ++ rows_of spot.after)) run)
      (ap (λ (page : ℕ). node_with page rows ∷ []) (sym fares.1)
      ∙ ap (λ (node : Node). node_with child.page node.rows ∷ []) (sym fares.2))
      (leaf_run layout one three spot (node_with spot.node.page rows ∷ []) rows stand once fares.0 (append-nil rows)
      (not_thin layout (node_with spot.node.page rows) fares.3)),
)
shrinks_leaf layout one three spot rows Gone stand once fares =
    leaf_run layout one three spot [] rows stand once fares.0 (sym fares.1) refl
shrinks_leaf layout one three spot rows (Underfull child) stand once fares =
    let short = subst (λ (node : Node). Short layout one (level_of spot ∷ []) spot three
    (rows_of spot.before ++ (rows ++ rows_of spot.after)) node) (sym fares.2)
    (refl, fares.3, fares.4, record { is = refl; same = fares.0; leaves = refl }) in
    (fares.1, short.0, short.1, short.2, short.3)
