-- A page above one that too few rows are left for.
use Rattle.std.proofs.Common.{◌≡◌, ◌<◌, ◌≤◌, ◌+◌, ℕ, List, [], ◌∷◌, ◌++◌, length, map, take, drop, refl, sym, ◌∙◌, ap}
use Rattle.std.proofs.Common.{subst, arith}
use Rattle.std.specs.Prelude.{Option}
use Rattle.std.specs.List.{All}
use Rattle.std.proofs.lemmas.List.{length-take-le}
use Rattle.station.specs.Disk.{Sector}
use Rattle.btree_pages.specs.declared.row_layout.RowLayout.{RowLayout}
use Rattle.btree_pages.specs.declared.row_layout.Kind.{Kind}
use Rattle.btree_pages.specs.declared.row_layout.Kind.TheVariants.{Leaf, Inner}
use Rattle.btree.specs.declared.removal_outcome.RemovalOutcome.{RemovalOutcome}
use Rattle.btree.specs.Tree.{TreeNode, row_of, rows_of, IsOnPage, AreJoinedLevels, pages_of, leaves_of, rows_in_order}
use Rattle.btree.specs.Path.{LevelZipper, level_of, PathStep, StepsTo}
use Rattle.btree.specs.Moves.{Once, numbers_of, Became, ReplacesNodes}
use Rattle.btree.specs.Outcomes.{pair_of, rows_together, RebalancesNeighbours}
use Rattle.btree.specs.Fills.{thin_leaves, IsEven}
use Rattle.btree.specs.Shrinks.{ShrinksUnder, ShrinksYet, Waits, Shrinks}
use Rattle.btree.proofs.Runs.{once_right}
use Rattle.btree.proofs.Splices.{rows_append}
use Rattle.btree.proofs.Steps.{step_by, step_leaves, own_kept}
use Rattle.btree.proofs.Filling.{thin_around, even_thin}
use Rattle.btree.proofs.Shrinking.{shrinks_by, names_run}
use Rattle.btree.proofs.Pairs.{Neighbours, PairNamed, pair_named}

-- the level of a page that wasn't written is as it was
pub still_here : (layout : RowLayout) (one two : List (Option Sector)) (levels : List (List TreeNode))
    (spot : LevelZipper) (rows ordered : List (List ℕ)) → AreJoinedLevels layout one levels → Once (pages_of levels)
    → ShrinksUnder layout one levels spot two ordered rows → All (IsOnPage layout two Inner) (level_of spot)
still_here layout one two levels spot rows ordered joined once under =
    let here = subst (λ (l : List (List TreeNode)). AreJoinedLevels layout one l) under.is joined in
    own_kept layout one two spot.before (spot.node ∷ []) spot.after (under.old ∷ under.old_more) (under.new
    ∷ under.new_more) here.0 (subst (λ (l : List (List TreeNode)). Once (pages_of l)) under.is once) under.became

pub still_level : (kind : Kind) (layout : RowLayout) (one two : List (Option Sector)) (levels : List (List TreeNode))
    (spot : LevelZipper) (rows ordered : List (List ℕ)) → AreJoinedLevels layout one levels → Once (pages_of levels)
    → Waits kind layout one levels spot two ordered rows → All (IsOnPage layout two kind) (level_of spot)
still_level Leaf layout one two levels spot rows ordered joined once yet =
    subst (λ (pages : List (Option Sector)). All (IsOnPage layout pages Leaf) (level_of spot)) (sym yet.same)
    (subst (λ (l : List (List TreeNode)). AreJoinedLevels layout one l) yet.is joined)
still_level Inner layout one two levels spot rows ordered joined once under =
    still_here layout one two levels spot rows ordered joined once under

-- The level of two neighbours became what they were joined to.
joined_pair :
    (layout : RowLayout) (one two mid : List (Option Sector)) (spot next : LevelZipper) (place : ℕ) (lower lower' run :
    List TreeNode) (more more' : List (List TreeNode)) (lone : List (List ℕ)) (n : Neighbours spot next place)
    → AreJoinedLevels layout one (level_of next ∷ lower ∷ more) → Once (pages_of (level_of next ∷ lower ∷ more))
    → Became layout one (lower ∷ more) two (lower' ∷ more')
    → rows_of next.before ++ (lone ++ rows_of next.after) ≡ map (row_of layout) lower'
    → ReplacesNodes layout Inner two (n.left ∷ n.right ∷ []) mid run
    → rows_of run ≡ rows_together place lone n.left n.right
    → Became layout one (level_of next ∷ lower ∷ more) mid ((n.before ++ (run ++ n.after)) ∷ lower' ∷ more')
joined_pair layout one two mid spot next place lower lower' run more more' lone n joined once low names own rows =
    subst (λ (level : List TreeNode).
    Became layout one (level ∷ lower ∷ more) mid ((n.before ++ (run ++ n.after)) ∷ lower' ∷ more')) (sym n.level)
    (step_by layout one two mid n.before (n.left ∷ n.right ∷ []) run n.after lower lower' more more'
    (subst (λ (level : List TreeNode). AreJoinedLevels layout one (level ∷ lower ∷ more)) n.level joined)
    (subst (λ (level : List TreeNode). Once (pages_of (level ∷ lower ∷ more))) n.level once) low own
    (rows_append n.before (run ++ n.after) ∙ ap (λ x. rows_of n.before ++ x)
    (rows_append run n.after ∙ ap (λ x. x ++ rows_of n.after) rows) ∙ n.together lone ∙ names))

rebalanced_under : (layout : RowLayout) (one two three : List (Option Sector)) (spot next : LevelZipper)
    (place : ℕ) (lower lower' : List TreeNode) (more more' : List (List TreeNode)) (lone ordered : List (List ℕ))
    (outcome : RemovalOutcome) (n : Neighbours spot next place)
    → AreJoinedLevels layout one (level_of spot ∷ level_of next ∷ lower ∷ more)
    → Once (pages_of (level_of spot ∷ level_of next ∷ lower ∷ more)) → Once (pages_of (level_of next ∷ lower ∷ more))
    → place < length spot.node.rows
    → Became layout one (lower ∷ more) two (lower' ∷ more') → rows_of next.before ++ (lone ++ rows_of next.after) ≡ map
    (row_of layout) lower' → rows_in_order (lower' ∷ more') ≡ ordered
    → thin_leaves layout (leaves_of (lower' ∷ more')) ≤ thin_leaves layout (leaves_of (lower ∷ more))
    → PairNamed layout spot.node.rows place n.left n.right
    → RebalancesNeighbours layout Inner two three spot.node.page spot.node.rows place lone n.left n.right outcome
    → Shrinks layout one (level_of spot ∷ level_of next ∷ lower ∷ more) spot three ordered outcome
rebalanced_under layout one two three spot next place lower lower' more more' lone ordered outcome n joined once
    once_next low became names leaves fill named rebalanced =
    let old = spot.node.rows in
    let q = pair_of place in
    let rows = take q old ++ (map (row_of layout) rebalanced.run ++ drop (q + 2) old) in
    let within = named.within in
    let front = length-take-le q old (omega (arith, within)) in
    shrinks_by layout one rebalanced.mid three spot (level_of next) (n.before ++ (rebalanced.run ++ n.after))
    (lower ∷ more) (lower' ∷ more') rows ordered outcome
    (record {
      joined = joined;
      once = once;
      became = joined_pair layout one two rebalanced.mid spot next place lower lower' rebalanced.run more more' lone n
          joined.2 once_next became names rebalanced.pair rebalanced.rows;
      names = names_run layout spot rows n.before (n.left ∷ n.right ∷ []) rebalanced.run n.after (take q old) (drop (q
          + 2) old) (omega (arith, front, n.count)) named.rows_are refl (joined.1 ∙ ap (map (row_of layout)) n.level);
      leaves = leaves;
      fill = fill;
    })
    rebalanced.fares

-- The leaves, of which two neighbours became what they were joined to.
record LeavesJoined (layout : RowLayout) (one mid : List (Option Sector)) (spot next : LevelZipper) (place : ℕ)
    (run : List TreeNode) (ordered : List (List ℕ)) (n : Neighbours spot next place) : Type 0 where
  pub became : Became layout one (level_of next ∷ []) mid ((n.before ++ (run ++ n.after)) ∷ [])
  pub leaves : rows_of (n.before ++ (run ++ n.after)) ≡ ordered
  pub fill : thin_leaves layout (n.before ++ (run ++ n.after)) ≤ thin_leaves layout (level_of next)

leaves_joined : (layout : RowLayout) (one mid : List (Option Sector)) (spot next : LevelZipper) (place : ℕ)
    (run : List TreeNode) (lone ordered : List (List ℕ)) (n : Neighbours spot next place)
    → All (IsOnPage layout one Leaf) (level_of next) → Once (pages_of (level_of next ∷ []))
    → rows_of next.before ++ (lone ++ rows_of next.after) ≡ ordered
    → ReplacesNodes layout Leaf one (n.left ∷ n.right ∷ []) mid run → rows_of run ≡ rows_together place lone n.left
    n.right → IsEven layout Leaf run → LeavesJoined layout one mid spot next place run ordered n
leaves_joined layout one mid spot next place run lone ordered n stand once is own rows even =
    let pair = n.left ∷ n.right ∷ [] in
    record {
      became = subst (λ (level : List TreeNode).
          Became layout one (level ∷ []) mid ((n.before ++ (run ++ n.after)) ∷ [])) (sym n.level)
          (step_leaves layout one mid n.before
          pair run n.after (subst (λ (level : List TreeNode). All (IsOnPage layout one Leaf) level) n.level stand)
          (subst (λ (level : List TreeNode). Once (pages_of (level ∷ []))) n.level once) own);
      leaves = rows_append n.before (run ++ n.after)
          ∙ ap (λ x. rows_of n.before ++ x) (rows_append run n.after ∙ ap (λ x. x ++ rows_of n.after) rows)
          ∙ n.together lone ∙ is;
      fill = subst (λ (level : List TreeNode).
          thin_leaves layout (n.before ++ (run ++ n.after)) ≤ thin_leaves layout level) (sym n.level)
          (thin_around layout n.before pair run n.after (even_thin layout place lone n.left n.right run even rows));
    }

rebalanced_leaves : (layout : RowLayout) (one two three : List (Option Sector)) (spot next : LevelZipper) (place : ℕ)
    (lone ordered : List (List ℕ)) (outcome : RemovalOutcome) (n : Neighbours spot next place)
    → AreJoinedLevels layout one (level_of spot ∷ level_of next ∷ [])
    → Once (pages_of (level_of spot ∷ level_of next ∷ [])) → two ≡ one
    → rows_of next.before ++ (lone ++ rows_of next.after) ≡ ordered
    → PairNamed layout spot.node.rows place n.left n.right
    → RebalancesNeighbours layout Leaf two three spot.node.page spot.node.rows place lone n.left n.right outcome
    → Shrinks layout one (level_of spot ∷ level_of next ∷ []) spot three ordered outcome
rebalanced_leaves layout one two three spot next place lone ordered outcome n joined once same is named rebalanced =
    let old = spot.node.rows in
    let q = pair_of place in
    let run = rebalanced.run in
    let rows = take q old ++ (map (row_of layout) run ++ drop (q + 2) old) in
    let within = named.within in
    let front = length-take-le q old (omega (arith, within)) in
    let own = subst (λ (pages : List (Option Sector)).
    ReplacesNodes layout Leaf pages (n.left ∷ n.right ∷ []) rebalanced.mid run) same rebalanced.pair in
    let low = leaves_joined layout one rebalanced.mid spot next place run lone ordered n joined.2 (once_right
    (numbers_of (level_of spot)) (pages_of (level_of next ∷ [])) once) is own rebalanced.rows rebalanced.even in
    shrinks_by layout one rebalanced.mid three spot (level_of next) (n.before ++ (run ++ n.after)) [] [] rows ordered
    outcome
    (record {
      joined = joined;
      once = once;
      became = low.became;
      names = names_run layout spot rows n.before (n.left ∷ n.right ∷ []) run n.after (take q old) (drop (q + 2) old)
          (omega (arith, front, n.count)) named.rows_are refl (joined.1 ∙ ap (map (row_of layout)) n.level);
      leaves = low.leaves;
      fill = low.fill;
    })
    rebalanced.fares

shrinks_yet : (layout : RowLayout) (one two three : List (Option Sector)) (spot next : LevelZipper)
    (step : PathStep) (more : List (List TreeNode)) (lone ordered : List (List ℕ)) (outcome : RemovalOutcome)
    (n : Neighbours spot next step.place)
    → AreJoinedLevels layout one (level_of spot ∷ level_of next ∷ more)
    → Once (pages_of (level_of spot ∷ level_of next ∷ more)) → StepsTo spot step next → 2 ≤ length spot.node.rows
    → ShrinksYet one (level_of next ∷ more) next two ordered lone
    → RebalancesNeighbours layout Leaf two three spot.node.page spot.node.rows step.place lone n.left n.right outcome
    → Shrinks layout one (level_of spot ∷ level_of next ∷ more) spot three ordered outcome
shrinks_yet layout one two three spot next step more lone ordered outcome n joined once steps enough yet rebalanced =
    let tails : more ≡ [] = let is = yet.is in cc in
    let joined_in =
    subst (λ (m : List (List TreeNode)). AreJoinedLevels layout one (level_of spot ∷ level_of next ∷ m)) tails joined in
    let once_in =
    subst (λ (m : List (List TreeNode)). Once (pages_of (level_of spot ∷ level_of next ∷ m))) tails once in
    subst (λ (m : List (List TreeNode)).
    Shrinks layout one (level_of spot ∷ level_of next ∷ m) spot three ordered outcome) (sym tails)
    (rebalanced_leaves layout one two three spot next step.place lone ordered outcome n joined_in once_in yet.same
    yet.leaves (pair_named layout spot next step.place steps.place enough joined.1 n) rebalanced)

shrinks_under : (layout : RowLayout) (one two three : List (Option Sector)) (spot next : LevelZipper)
    (step : PathStep) (more : List (List TreeNode)) (lone ordered : List (List ℕ)) (outcome : RemovalOutcome)
    (n : Neighbours spot next step.place)
    → AreJoinedLevels layout one (level_of spot ∷ level_of next ∷ more)
    → Once (pages_of (level_of spot ∷ level_of next ∷ more)) → StepsTo spot step next → 2 ≤ length spot.node.rows
    → ShrinksUnder layout one (level_of next ∷ more) next two ordered lone
    → RebalancesNeighbours layout Inner two three spot.node.page spot.node.rows step.place lone n.left n.right outcome
    → Shrinks layout one (level_of spot ∷ level_of next ∷ more) spot three ordered outcome
shrinks_under layout one two three spot next step more lone ordered outcome n joined once steps enough under
    rebalanced =
    let tails : more ≡ under.old ∷ under.old_more = let is = under.is in cc in
    let joined_in =
    subst (λ (m : List (List TreeNode)). AreJoinedLevels layout one (level_of spot ∷ level_of next ∷ m)) tails joined in
    let once_in =
    subst (λ (m : List (List TreeNode)). Once (pages_of (level_of spot ∷ level_of next ∷ m))) tails once in
    subst (λ (m : List (List TreeNode)).
    Shrinks layout one (level_of spot ∷ level_of next ∷ m) spot three ordered outcome) (sym tails)
    (rebalanced_under layout one two three spot next step.place under.old under.new under.old_more under.new_more lone
    ordered outcome n joined_in once_in
    (once_right (numbers_of (level_of spot)) (pages_of (level_of next ∷ under.old ∷ under.old_more)) once_in)
    steps.place under.became under.names under.leaves under.fill
    (pair_named layout spot next step.place steps.place enough joined.1 n) rebalanced)

pub shrinks_rebalanced : (kind : Kind) (layout : RowLayout) (one two three : List (Option Sector))
    (spot next : LevelZipper) (step : PathStep) (more : List (List TreeNode)) (lone ordered : List (List ℕ))
    (outcome : RemovalOutcome) (n : Neighbours spot next step.place)
    → AreJoinedLevels layout one (level_of spot ∷ level_of next ∷ more)
    → Once (pages_of (level_of spot ∷ level_of next ∷ more)) → StepsTo spot step next → 2 ≤ length spot.node.rows
    → Waits kind layout one (level_of next ∷ more) next two ordered lone
    → RebalancesNeighbours layout kind two three spot.node.page spot.node.rows step.place lone n.left n.right outcome
    → Shrinks layout one (level_of spot ∷ level_of next ∷ more) spot three ordered outcome
shrinks_rebalanced
    Leaf layout one two three spot next step more lone ordered outcome n joined once steps enough yet rebalanced =
    shrinks_yet layout one two three spot next step more lone ordered outcome n joined once steps enough yet rebalanced
shrinks_rebalanced Inner layout one two three spot next step more lone ordered outcome n joined once steps enough under
    rebalanced = shrinks_under layout one two three spot next step more lone ordered outcome n joined once steps enough
    under rebalanced
