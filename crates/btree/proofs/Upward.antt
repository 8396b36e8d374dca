-- A change goes up a way of steps.
use Rattle.std.proofs.Common.{◌≡◌, ◌<◌, ◌≤◌, ℕ, List, [], ◌∷◌, ◌++◌, length, refl, sym, ◌∙◌, ap, subst, arith}
use Rattle.std.specs.Prelude.{Option, Some, None, slice_index_or}
use Rattle.std.specs.List.{All}
use Rattle.std.proofs.lemmas.List.Elements.{All-head}
use Rattle.byteorder.specs.Endian.{big_bytes}
use Rattle.station.specs.Disk.{Sector}
use Rattle.btree_pages.specs.declared.row_layout.RowLayout.{RowLayout}
use Rattle.btree_pages.specs.declared.row_layout.Kind.{Kind}
use Rattle.btree_pages.specs.declared.row_layout.Kind.TheVariants.{Inner}
use Rattle.btree_pages.specs.RowLayouts.{row_length}
use Rattle.btree_pages.specs.Keys.{rest_of}
use Rattle.btree_pages.specs.Node.{Node}
use Rattle.btree.specs.declared.split_result.SplitResult.{SplitResult}
use Rattle.btree.specs.Tree.{TreeNode, fewest, node_of, node_at, IsOnPage, AreJoinedLevels, pages_of, leaves_of}
use Rattle.btree.specs.Path.{LevelZipper, level_of, PathStep, StepsTo, IsSide, IsPathOf, lowest}
use Rattle.btree.specs.Moves.{Once, numbers_of}
use Rattle.btree.specs.Propagates.{run_of, Propagates}
use Rattle.btree.specs.Changes.{IsIn, CanStand, UpdatesParent, AreDisjointLevels, PropagatesBy, NeverPropagates}
use Rattle.btree.proofs.Runs.{once_right}
use Rattle.btree.proofs.Splices.{all_left, all_right, no_node, numbers_append}
use Rattle.btree.proofs.Steps.{own_kept}
use Rattle.btree.proofs.Propagating.{node_stands, row_names, steps_here, propagates_to, propagates_same}

leads_top : (layout : RowLayout) (key : List ℕ) (level : List TreeNode)
    (more : List (List TreeNode)) (steps : List PathStep) (spot : LevelZipper) (below : List LevelZipper)
    → IsPathOf layout key (level ∷ more) steps spot below → level ≡ level_of spot
leads_top layout key level [] steps spot below leads = leads.0
leads_top layout key level (lower ∷ more) [] spot below leads = absurd leads
leads_top layout key level (lower ∷ more) (step ∷ steps) spot [] leads = absurd leads
leads_top layout key level (lower ∷ more) (step ∷ steps) spot (next ∷ below) leads = leads.0

-- the levels below the first
pub standing_below :
    (layout : RowLayout) (pages : List (Option Sector)) (upper lower : List TreeNode) (more : List (List TreeNode))
    → AreDisjointLevels layout pages (upper ∷ lower ∷ more) → AreDisjointLevels layout pages (lower ∷ more)
standing_below layout pages upper lower more s = record {
  joined = s.joined.2;
  once = once_right (numbers_of upper) (pages_of (lower ∷ more)) s.once;
  some = all_right (λ (page : ℕ). 0 < page) (numbers_of upper) (pages_of (lower ∷ more)) s.some;
}

-- What stands at a step while the levels below it have changed.
pub record AtStep (layout : RowLayout) (one two : List (Option Sector)) (spot next : LevelZipper) (step : PathStep)
    (more : List (List TreeNode)) : Type 0 where
  pub joined : AreJoinedLevels layout one (level_of spot ∷ level_of next ∷ more)
  pub once : Once (pages_of (level_of spot ∷ level_of next ∷ more))
  pub steps : StepsTo spot step next
  pub some : 0 < spot.node.page
  pub now : IsOnPage layout two Inner spot.node

at_step : (layout : RowLayout) (one two : List (Option Sector)) (spot next : LevelZipper) (step : PathStep)
    (more : List (List TreeNode)) (ordered : List (List ℕ)) (told : Option SplitResult)
    → AreDisjointLevels layout one (level_of spot ∷ level_of next ∷ more) → StepsTo spot step next
    → Propagates layout one (level_of next ∷ more) next two ordered told → AtStep layout one two spot next step more
at_step layout one two spot next step more ordered told standing path_steps below =
    let stand = own_kept layout one two spot.before (spot.node ∷ []) spot.after (level_of next ∷ more)
    ((next.before ++ (below.run ++ next.after)) ∷ below.more) standing.joined.0 standing.once below.became in
    let level =
    all_left (λ (page : ℕ). 0 < page) (numbers_of (level_of spot)) (pages_of (level_of next ∷ more)) standing.some in
    let here = all_right (λ (page : ℕ). 0 < page) (numbers_of spot.before) (spot.node.page ∷ numbers_of spot.after)
    (subst (λ list. All (λ (page : ℕ). 0 < page) list) (numbers_append spot.before (spot.node ∷ spot.after)) level) in
    record {
      joined = standing.joined;
      once = standing.once;
      steps = path_steps;
      some = All-head (λ (page : ℕ). 0 < page) spot.node.page (numbers_of spot.after) here;
      now = All-head (IsOnPage layout two Inner) spot.node spot.after
          (all_right (IsOnPage layout two Inner) spot.before (spot.node ∷ spot.after) stand);
    }

-- A way down, as its first step and the rest.
pub record Way (layout : RowLayout) (key : List ℕ) (one : List (Option Sector)) (levels : List (List TreeNode))
    (step : PathStep) (steps : List PathStep) (spot : LevelZipper) (below : List LevelZipper) : Type 0 where
  pub next : LevelZipper
  pub under : List LevelZipper
  pub more : List (List TreeNode)
  pub spots : below ≡ next ∷ under
  pub is : levels ≡ level_of spot ∷ level_of next ∷ more
  pub steps_to : StepsTo spot step next
  pub leads : IsPathOf layout key (level_of next ∷ more) steps next under

way : (layout : RowLayout) (key : List ℕ) (one : List (Option Sector)) (levels : List (List TreeNode))
    (step : PathStep) (steps : List PathStep) (spot : LevelZipper) (below : List LevelZipper)
    → IsPathOf layout key levels (step ∷ steps) spot below → Way layout key one levels step steps spot below
way layout key one [] step steps spot below leads = absurd leads
way layout key one (leaves ∷ []) step steps spot below leads = let none = leads.2 in let clash : step ∷ steps ≡ [] =
    none in absurd (omega (arith, ap length clash))
way layout key one (upper ∷ lower ∷ more) step steps spot [] leads = absurd leads
way layout key one (upper ∷ lower ∷ more) step steps spot (next ∷ under) leads =
    let same = leads_top layout key lower more steps next under leads.3 in
    record {
      next = next;
      under = under;
      more = more;
      spots = refl;
      is = ap (λ (level : List TreeNode). level ∷ lower ∷ more) leads.0
          ∙ ap (λ (level : List TreeNode). level_of spot ∷ level ∷ more) same;
      steps_to = leads.2;
      leads = subst (λ (level : List TreeNode). IsPathOf layout key (level ∷ more) steps next under) same leads.3;
    }

-- the levels below a step have changed
inner : (layout : RowLayout) (key : List ℕ) (one before two : List (Option Sector)) (levels : List (List TreeNode))
    (step : PathStep) (steps : List PathStep) (spot : LevelZipper) (below : List LevelZipper) (ordered : List (List ℕ))
    (from : Option SplitResult) (told : Option SplitResult)
    → (w : Way layout key one levels step steps spot below) → AreDisjointLevels layout one levels
    → PropagatesBy layout steps before two from told
    → Propagates layout one (level_of (lowest spot below) ∷ []) (lowest spot below) before ordered from
    → Propagates layout one (level_of w.next ∷ w.more) w.next two ordered told
inner layout key one before two levels step steps spot below ordered from told w standing propagates bottom =
    let here = subst (λ (l : List (List TreeNode)). AreDisjointLevels layout one l) w.is standing in
    propagates key one (level_of w.next ∷ w.more) w.next w.under ordered
    (standing_below layout one (level_of spot) (level_of w.next) w.more here) w.leads
    (subst (λ (b : List LevelZipper).
    Propagates layout one (level_of (lowest spot b) ∷ []) (lowest spot b) before ordered from) w.spots bottom)

-- at a step, while the levels below it have changed
turned_at : (layout : RowLayout) (key : List ℕ) (one before two : List (Option Sector)) (levels : List (List TreeNode))
    (step : PathStep) (steps : List PathStep) (spot : LevelZipper) (below : List LevelZipper) (ordered : List (List ℕ))
    (from : Option SplitResult) (told : Option SplitResult)
    → (w : Way layout key one levels step steps spot below) → AreDisjointLevels layout one levels
    → PropagatesBy layout steps before two from told
    → Propagates layout one (level_of (lowest spot below) ∷ []) (lowest spot below) before ordered from
    → AtStep layout one two spot w.next step w.more
turned_at layout key one before two levels step steps spot below ordered from told w standing propagates bottom =
    at_step layout one two spot w.next step w.more ordered told
    (subst (λ (l : List (List TreeNode)). AreDisjointLevels layout one l) w.is standing) w.steps_to
    (inner layout key one before two levels step steps spot below ordered from told w standing propagates bottom)

-- Nothing is told: the levels above stay.
pub propagates_on : (layout : RowLayout) (before two : List (Option Sector)) (step : PathStep)
    (steps : List PathStep) (from : Option SplitResult) → PropagatesBy layout steps before two from None
    → PropagatesBy layout (step ∷ steps) before two from None
propagates_on layout before two step steps from propagates = λ key one levels spot below ordered standing leads bottom.
    let w = way layout key one levels step steps spot below leads in
    let below_it =
    inner layout key one before two levels step steps spot below ordered from None w standing propagates bottom in
    let at =
    turned_at layout key one before two levels step steps spot below ordered from None w standing propagates bottom in
    subst (λ (l : List (List TreeNode)). Propagates layout one l spot two ordered None) (sym w.is)
    (propagates_same layout one two spot w.next step w.more ordered at.joined at.once at.steps below_it)

-- a node that was read, and what a node of it is
pub record ReadNode (layout : RowLayout) (pages : List (Option Sector)) (step : PathStep) (node : Node) : Type 0 where
  pub layout_is : node.layout ≡ layout
  pub read : node_at layout pages step.page ≡ Some node

node_same : (layout : RowLayout) (pages : List (Option Sector)) (step : PathStep) (node : Node) (tree_node : TreeNode)
    → ReadNode layout pages step node → step.page ≡ tree_node.page → IsOnPage layout pages Inner tree_node
    → node ≡ node_of layout Inner tree_node.rows
node_same layout pages step node tree_node r page stands =
    let both : Some node ≡ Some (node_of layout Inner tree_node.rows) =
    sym r.read ∙ ap (λ (p : ℕ). node_at layout pages p) page ∙ stands.node in cc

in_map : (layout : RowLayout) (pages : List (Option Sector)) (kind : Kind) (node : TreeNode) (page : ℕ)
    → page ≡ node.page → IsOnPage layout pages kind node → IsIn pages page
in_map layout pages kind node page same stands =
    λ none. no_node layout pages kind node stands (sym (ap (λ (p : ℕ). slice_index_or pages p None) same) ∙ none)

-- The page at the step learned of it.
pub propagates_more : (layout : RowLayout) (before two three : List (Option Sector)) (step : PathStep)
    (steps : List PathStep) (from : Option SplitResult) (told : SplitResult) (up : Option SplitResult) (node : Node)
    → PropagatesBy layout steps before two from (Some told) → ReadNode layout two step node
    → (CanStand two step.page node → rest_of node.layout (slice_index_or node.rows step.place []) ≡ big_bytes 4
    told.page → UpdatesParent node.layout two three step.page node.rows step.place (run_of told) up)
    → PropagatesBy layout (step ∷ steps) before three from up
propagates_more layout before two three step steps from told up node propagates read updates =
    λ key one levels spot below ordered standing leads bottom.
    let w = way layout key one levels step steps spot below leads in
    let below_it = inner layout key one before two levels step steps spot below ordered from (Some told) w standing
    propagates bottom in
    let at = turned_at layout key one before two levels step steps spot below ordered from (Some told) w standing
    propagates bottom in
    let same = node_same layout two step node spot.node read at.steps.page at.now in
    let next_stands = node_stands layout one w.next w.more at.joined.2 in
    let here = steps_here layout spot w.next step at.steps at.joined.1 in
    let rest : rest_of node.layout (slice_index_or node.rows step.place []) ≡ big_bytes 4 told.page =
    ap (λ (n : Node). rest_of n.layout (slice_index_or n.rows step.place [])) same ∙ ap (rest_of layout) here.row
    ∙ row_names layout one next_stands.kind w.next.node next_stands.stands ∙ ap (big_bytes 4) (sym below_it.tells.1) in
    let can : CanStand two step.page node = record {
      is_in = in_map layout two Inner spot.node step.page at.steps.page at.now;
      lengths = subst (λ (n : Node). All (λ (row : List ℕ). length row ≡ row_length n.layout n.kind) n.rows) (sym same)
          at.now.lengths;
      enough = subst (λ (n : Node). fewest n.kind ≤ length n.rows) (sym same) at.now.enough;
    } in
    let updated = subst (λ (n : Node). UpdatesParent n.layout two three step.page n.rows step.place (run_of told) up)
    same (updates can rest) in
    let placed = subst (λ (page : ℕ). UpdatesParent layout two three page spot.node.rows step.place (run_of told) up)
    at.steps.page updated in
    subst (λ (l : List (List TreeNode)). Propagates layout one l spot three ordered up) (sym w.is)
    (propagates_to layout one two three spot w.next step w.more ordered (Some told) up at.joined at.once at.steps
    below_it
    (subst (λ (run : List TreeNode). UpdatesParent layout two three spot.node.page spot.node.rows step.place run up)
    (sym below_it.tells.0) placed))

-- Where there is a tree, no step leads to a page that isn't of it.
pub never_read : (layout : RowLayout) (before two : List (Option Sector)) (step : PathStep) (steps : List PathStep)
    (from : Option SplitResult) (told : SplitResult) → PropagatesBy layout steps before two from (Some told)
    → ((kind : Kind) (node : TreeNode) → node.page ≡ step.page → IsOnPage layout two kind node → ⊥)
    → NeverPropagates layout (step ∷ steps) before from
never_read layout before two step steps from told propagates none =
    λ key one levels spot below ordered standing leads bottom.
    let w = way layout key one levels step steps spot below leads in
    let at = turned_at layout key one before two levels step steps spot below ordered from (Some told) w standing
    propagates bottom in
    none Inner spot.node (sym at.steps.page) at.now

pub never_updated : (layout : RowLayout) (before two : List (Option Sector))
    (step : PathStep) (steps : List PathStep) (from : Option SplitResult) (told : SplitResult) (node : Node)
    → PropagatesBy layout steps before two from (Some told) → ReadNode layout two step node
    → (node.kind ≡ Inner → step.place < length node.rows → 0 < step.page → IsIn two step.page → ⊥)
    → NeverPropagates layout (step ∷ steps) before from
never_updated layout before two step steps from told node propagates read none =
    λ key one levels spot below ordered standing leads bottom.
    let w = way layout key one levels step steps spot below leads in
    let at = turned_at layout key one before two levels step steps spot below ordered from (Some told) w standing
    propagates bottom in
    let same = node_same layout two step node spot.node read at.steps.page at.now in
    none (ap (λ (n : Node). n.kind) same)
    (subst (λ (n : Node). step.place < length n.rows) (sym same) at.steps.place)
    (subst (λ (page : ℕ). 0 < page) (sym at.steps.page) at.some)
    (in_map layout two Inner spot.node step.page at.steps.page at.now)

pub never_below : (layout : RowLayout) (before : List (Option Sector)) (step : PathStep) (steps : List PathStep) (from :
    Option SplitResult) → NeverPropagates layout steps before from → NeverPropagates layout (step ∷ steps) before from
never_below layout before step steps from never = λ key one levels spot below ordered standing leads bottom.
    let w = way layout key one levels step steps spot below leads in
    let here = subst (λ (l : List (List TreeNode)). AreDisjointLevels layout one l) w.is standing in
    never key one (level_of w.next ∷ w.more) w.next w.under ordered
    (standing_below layout one (level_of spot) (level_of w.next) w.more here) w.leads
    (subst (λ (b : List LevelZipper).
    Propagates layout one (level_of (lowest spot b) ∷ []) (lowest spot b) before ordered from) w.spots bottom)

-- with no step the leaf is the root
alone_propagates : (layout : RowLayout) (key : List ℕ) (one before : List (Option Sector))
    (levels : List (List TreeNode)) (spot : LevelZipper) (below : List LevelZipper) (ordered : List (List ℕ))
    (from : Option SplitResult) → IsPathOf layout key levels [] spot below
    → Propagates layout one (level_of (lowest spot below) ∷ []) (lowest spot below) before ordered from
    → Propagates layout one levels spot before ordered from
alone_propagates layout key one before [] spot below ordered from leads bottom = absurd leads
alone_propagates layout key one before (leaves ∷ []) spot below ordered from leads bottom =
    let at_it = subst (λ (b : List LevelZipper).
    Propagates layout one (level_of (lowest spot b) ∷ []) (lowest spot b) before ordered from) leads.3 bottom in
    subst (λ (level : List TreeNode). Propagates layout one (level ∷ []) spot before ordered from) (sym leads.0) at_it
alone_propagates layout key one before (upper ∷ lower ∷ more) spot below ordered from leads bottom = absurd leads

pub propagates_none : (layout : RowLayout) (before : List (Option Sector)) (from : Option SplitResult)
    → PropagatesBy layout [] before before from from
propagates_none layout before from = λ key one levels spot below ordered standing leads bottom.
    alone_propagates layout key one before levels spot below ordered from leads bottom

-- nothing is to be told from the leaf on
pub propagates_still : (layout : RowLayout) (before : List (Option Sector)) (steps : List PathStep)
    → PropagatesBy layout steps before before None None
propagates_still layout before [] = propagates_none layout before None
propagates_still layout before (step ∷ steps) =
    propagates_on layout before before step steps None (propagates_still layout before steps)

-- the leaves' level at the end of a way
pub standing_leaves : (layout : RowLayout) (key : List ℕ) (pages : List (Option Sector))
    (levels : List (List TreeNode)) (steps : List PathStep) (spot : LevelZipper) (below : List LevelZipper)
    → IsPathOf layout key levels steps spot below → AreDisjointLevels layout pages levels
    → AreDisjointLevels layout pages (level_of (lowest spot below) ∷ [])
    × (leaves_of levels ≡ level_of (lowest spot below)) × IsSide layout key (lowest spot below)
standing_leaves layout key pages [] steps spot below leads standing = absurd leads
standing_leaves layout key pages (leaves ∷ []) steps spot below leads standing =
    subst (λ (b : List LevelZipper). AreDisjointLevels layout pages (level_of (lowest spot b) ∷ [])
    × (leaves ≡ level_of (lowest spot b)) × IsSide layout key (lowest spot b)) (sym leads.3)
    (subst (λ (level : List TreeNode). AreDisjointLevels layout pages (level ∷ [])) leads.0 standing, leads.0, leads.1)
standing_leaves layout key pages (upper ∷ lower ∷ more) [] spot below leads standing = absurd leads
standing_leaves layout key pages (upper ∷ lower ∷ more) (step ∷ steps) spot [] leads standing = absurd leads
standing_leaves layout key pages (upper ∷ lower ∷ more) (step ∷ steps) spot (next ∷ below) leads standing =
    standing_leaves layout key pages (lower ∷ more) steps next below leads.3
    (standing_below layout pages upper lower more standing)
