-- A removal goes up a way of steps.
use Rattle.std.proofs.Common.{◌≡◌, ◌<◌, ◌≤◌, ◌+◌, ◌*◌, ℕ, List, [], ◌∷◌, ◌++◌, length, take, drop, sym, ◌∙◌, ap, subst}
use Rattle.std.proofs.Common.{arith}
use Rattle.std.specs.Prelude.{Option, Some, slice_index_or}
use Rattle.std.specs.List.{All}
use Rattle.std.proofs.lemmas.List.Elements.{All-head}
use Rattle.byteorder.specs.Endian.{big_bytes}
use Rattle.station.specs.Disk.{Sector}
use Rattle.btree_pages.specs.declared.row_layout.RowLayout.{RowLayout}
use Rattle.btree_pages.specs.declared.row_layout.Kind.{Kind}
use Rattle.btree_pages.specs.declared.row_layout.Kind.TheVariants.{Inner}
use Rattle.btree_pages.specs.RowLayouts.{row_length}
use Rattle.btree_pages.specs.Keys.{rest_of}
use Rattle.btree_pages.specs.Node.{Node}
use Rattle.btree.specs.declared.removal_outcome.RemovalOutcome.{RemovalOutcome}
use Rattle.btree.specs.declared.removal_outcome.RemovalOutcome.TheVariants.{Kept, Renamed, Gone, Underfull}
use Rattle.btree.specs.declared.removal_outcome.Child.{Child}
use Rattle.btree.specs.Tree.{TreeNode, row_of, fewest, node_of, node_at, IsOnPage, pages_of}
use Rattle.btree.specs.Path.{LevelZipper, level_of, PathStep, StepsTo, IsPathOf, lowest}
use Rattle.btree.specs.Moves.{numbers_of}
use Rattle.btree.specs.Propagates.{node_with}
use Rattle.btree.specs.Changes.{IsIn, CanStand, AreDisjointLevels}
use Rattle.btree.specs.Outcomes.{IsRemovalResult, IsPair, RebalancesNeighbours}
use Rattle.btree.specs.Shrinks.{Shrinks, ShrinksBy, NeverShrinks, ShrinksOn, NeverShrinksOn}
use Rattle.btree.proofs.Runs.{once_right}
use Rattle.btree.proofs.Shifts.{sector_of}
use Rattle.btree.proofs.Splices.{all_left, all_right, no_node, numbers_append}
use Rattle.btree.proofs.Propagating.{node_stands, row_names, steps_here}
use Rattle.btree.proofs.Upward.{standing_below, ReadNode}
use Rattle.btree.proofs.Settling.{first_of_way}
use Rattle.btree.proofs.Shrinking.{shrinks_one, shrinks_same, still_above}
use Rattle.btree.proofs.Rebalanced.{still_level, shrinks_rebalanced}
use Rattle.btree.proofs.Pairs.{Neighbours, neighbours, is_pair, pair_some}

-- The first step of a way, where the levels below it fell.
pub record Fallen (layout : RowLayout) (one two : List (Option Sector)) (levels : List (List TreeNode))
    (step : PathStep) (spot : LevelZipper) (ordered : List (List ℕ)) (outcome : RemovalOutcome) : Type 0 where
  pub next : LevelZipper
  pub more : List (List TreeNode)
  pub is : levels ≡ level_of spot ∷ level_of next ∷ more
  pub standing : AreDisjointLevels layout one (level_of spot ∷ level_of next ∷ more)
  pub steps : StepsTo spot step next
  pub below : Shrinks layout one (level_of next ∷ more) next two ordered outcome
  pub above : All (IsOnPage layout two Inner) (level_of spot)

fallen_from : (layout : RowLayout) (one two : List (Option Sector)) (levels : List (List TreeNode)) (step : PathStep)
    (spot next : LevelZipper) (more : List (List TreeNode)) (ordered : List (List ℕ)) (outcome : RemovalOutcome)
    → levels ≡ level_of spot ∷ level_of next ∷ more → AreDisjointLevels layout one levels → StepsTo spot step next
    → Shrinks layout one (level_of next ∷ more) next two ordered outcome
    → Fallen layout one two levels step spot ordered outcome
fallen_from layout one two levels step spot next more ordered outcome is standing path_steps below =
    let here = subst (λ (l : List (List TreeNode)). AreDisjointLevels layout one l) is standing in
    record {
      next = next;
      more = more;
      is = is;
      standing = here;
      steps = path_steps;
      below = below;
      above = still_above layout one two spot next more ordered outcome here.joined.0 here.once below;
    }

pub shrunk : (layout : RowLayout) (key : List ℕ) (one start two : List (Option Sector)) (levels : List (List TreeNode))
    (step : PathStep) (steps : List PathStep) (spot : LevelZipper) (below : List LevelZipper) (ordered : List (List ℕ))
    (from outcome : RemovalOutcome)
    → ShrinksBy layout steps start two from outcome → AreDisjointLevels layout one levels
    → IsPathOf layout key levels (step ∷ steps) spot below
    → Shrinks layout one (level_of (lowest spot below) ∷ []) (lowest spot below) start ordered from
    → Fallen layout one two levels step spot ordered outcome
shrunk layout key one start two [] step steps spot below ordered from outcome shrinks standing leads bottom =
    absurd leads
shrunk layout key one start two (leaves ∷ []) step steps spot below ordered from outcome shrinks standing leads bottom =
    let clash : step ∷ steps ≡ [] = leads.2 in absurd (omega (arith, ap length clash))
shrunk layout key one start two (upper ∷ lower ∷ more) step steps spot [] ordered from outcome shrinks standing leads
    bottom = absurd leads
shrunk layout key one start two (upper ∷ lower ∷ more) step steps spot (next ∷ under) ordered from outcome shrinks
    standing leads bottom =
    let first = first_of_way layout key (lower ∷ more) steps next under leads.3 in
    fallen_from layout one two (upper ∷ lower ∷ more) step spot next first.more ordered outcome
    (ap (λ (level : List TreeNode). level ∷ lower ∷ more) leads.0
    ∙ ap (λ (rest : List (List TreeNode)). level_of spot ∷ rest) first.is) standing leads.2
    (subst (λ (l : List (List TreeNode)). Shrinks layout one l next two ordered outcome) first.is
    (shrinks key one (lower ∷ more) next under ordered (standing_below layout one upper lower more standing) leads.3
    bottom))

-- with no step the leaf is the root
alone_falls : (layout : RowLayout) (key : List ℕ) (one before : List (Option Sector)) (levels : List (List TreeNode))
    (spot : LevelZipper) (below : List LevelZipper) (ordered : List (List ℕ)) (from : RemovalOutcome)
    → IsPathOf layout key levels [] spot below
    → Shrinks layout one (level_of (lowest spot below) ∷ []) (lowest spot below) before ordered from
    → Shrinks layout one levels spot before ordered from
alone_falls layout key one before [] spot below ordered from leads bottom = absurd leads
alone_falls layout key one before (leaves ∷ []) spot below ordered from leads bottom =
    let at_it = subst (λ (b : List LevelZipper).
    Shrinks layout one (level_of (lowest spot b) ∷ []) (lowest spot b) before ordered from) leads.3 bottom in
    subst (λ (level : List TreeNode). Shrinks layout one (level ∷ []) spot before ordered from) (sym leads.0) at_it
alone_falls layout key one before (upper ∷ lower ∷ more) spot below ordered from leads bottom = absurd leads

pub shrinks_none : (layout : RowLayout) (before : List (Option Sector)) (from : RemovalOutcome)
    → ShrinksBy layout [] before before from from
shrinks_none layout before from = λ key one levels spot below ordered standing leads bottom.
    alone_falls layout key one before levels spot below ordered from leads bottom

-- Nothing is told: the page above stays.
pub kept_on : (layout : RowLayout) (two : List (Option Sector)) (step : PathStep)
    → ShrinksOn layout step two two Kept Kept
kept_on layout two step = λ steps start from shrinks key one levels spot below ordered standing leads bottom.
    let f =
    shrunk layout key one start two levels step steps spot below ordered from Kept shrinks standing leads bottom in
    subst (λ (l : List (List TreeNode)). Shrinks layout one l spot two ordered Kept) (sym f.is)
    (shrinks_same layout one two spot f.next step f.more ordered f.standing.joined f.standing.once f.steps f.below)

-- What was read at a step is the spot's node.
record OwnRead (layout : RowLayout) (pages : List (Option Sector)) (step : PathStep) (spot : LevelZipper) (node : Node)
    : Type 0 where
  pub own : IsOnPage layout pages Inner spot.node
  pub same : node ≡ node_of layout Inner spot.node.rows
  pub can : CanStand pages step.page node

own_read : (layout : RowLayout) (pages : List (Option Sector)) (step : PathStep) (spot : LevelZipper) (node : Node)
    → step.page ≡ spot.node.page → All (IsOnPage layout pages Inner) (level_of spot) → ReadNode layout pages step node
    → OwnRead layout pages step spot node
own_read layout pages step spot node page level read =
    let own = All-head (IsOnPage layout pages Inner) spot.node spot.after
    (all_right (IsOnPage layout pages Inner) spot.before (spot.node ∷ spot.after) level) in
    let both : Some node ≡ Some (node_of layout Inner spot.node.rows) =
    sym read.read ∙ ap (λ (p : ℕ). node_at layout pages p) page ∙ own.node in
    let same : node ≡ node_of layout Inner spot.node.rows = cc in
    record {
      own = own;
      same = same;
      can = record {
        is_in = λ none. no_node layout pages Inner spot.node own (ap (sector_of pages) (sym page) ∙ none);
        lengths = subst (λ (n : Node). All (λ (row : List ℕ). length row ≡ row_length n.layout n.kind) n.rows)
            (sym same) own.lengths;
        enough = subst (λ (n : Node). fewest n.kind ≤ length n.rows) (sym same) own.enough;
      };
    }

-- a page at a step, with what became of it, as that of the spot
fares_own : (layout : RowLayout) (two three : List (Option Sector)) (step : PathStep) (spot : LevelZipper)
    (node : Node) (rows : RowLayout → List (List ℕ) → List (List ℕ)) (up : RemovalOutcome) → step.page ≡ spot.node.page
    → node ≡ node_of layout Inner spot.node.rows
    → IsRemovalResult node.layout Inner two three step.page node.rows (rows node.layout node.rows) up
    → IsRemovalResult layout Inner two three spot.node.page spot.node.rows (rows layout spot.node.rows) up
fares_own layout two three step spot node rows up page same fares =
    subst (λ (p : ℕ). IsRemovalResult layout Inner two three p spot.node.rows (rows layout spot.node.rows) up)
    page (subst (λ (n : Node). IsRemovalResult n.layout Inner two three step.page n.rows (rows n.layout n.rows) up) same
    fares)

-- The page above gets the child's least key.
pub renamed_on : (layout : RowLayout) (two three : List (Option Sector)) (step : PathStep) (child : Child)
    (up : RemovalOutcome) (node : Node) → ReadNode layout two step node
    → (CanStand two step.page node
    → rest_of node.layout (slice_index_or node.rows step.place []) ≡ big_bytes 4 child.page
    → IsRemovalResult node.layout Inner two three step.page node.rows (take step.place node.rows
    ++ (row_of node.layout (node_with child.page child.node.rows) ∷ drop (step.place + 1) node.rows)) up)
    → ShrinksOn layout step two three (Renamed child) up
renamed_on layout two three step child up node read fares =
    λ steps start from shrinks key one levels spot below ordered standing leads bottom.
    let f = shrunk layout key one start two levels step steps spot below ordered from (Renamed child) shrinks standing
    leads bottom in
    let own = own_read layout two step spot node f.steps.page f.above read in
    let next_stands = node_stands layout one f.next f.more f.standing.joined.2 in
    let here = steps_here layout spot f.next step f.steps f.standing.joined.1 in
    let rest : rest_of node.layout (slice_index_or node.rows step.place []) ≡ big_bytes 4 child.page =
    ap (λ (n : Node). rest_of n.layout (slice_index_or n.rows step.place [])) own.same ∙ ap (rest_of layout) here.row
    ∙ row_names layout one next_stands.kind f.next.node next_stands.stands ∙ ap (big_bytes 4) (sym f.below.0) in
    subst (λ (l : List (List TreeNode)). Shrinks layout one l spot three ordered up) (sym f.is)
    (shrinks_one layout one two three spot f.next step f.more (node_with child.page child.node.rows ∷ []) ordered up
    f.standing.joined f.standing.once f.steps f.below.1
    (fares_own layout two three step spot node (λ fm rows. take step.place rows ++ (row_of fm (node_with child.page
    child.node.rows) ∷ drop (step.place + 1) rows)) up f.steps.page own.same (fares own.can rest)))

-- The page above loses the row of the child.
pub gone_on : (layout : RowLayout) (two three : List (Option Sector)) (step : PathStep) (up : RemovalOutcome)
    (node : Node) → ReadNode layout two step node
    → (CanStand two step.page node → IsRemovalResult node.layout Inner two three step.page node.rows
    (take step.place node.rows ++ drop (step.place + 1) node.rows) up)
    → ShrinksOn layout step two three Gone up
gone_on layout two three step up node read fares =
    λ steps start from shrinks key one levels spot below ordered standing leads bottom.
    let f =
    shrunk layout key one start two levels step steps spot below ordered from Gone shrinks standing leads bottom in
    let own = own_read layout two step spot node f.steps.page f.above read in
    subst (λ (l : List (List TreeNode)). Shrinks layout one l spot three ordered up) (sym f.is)
    (shrinks_one layout one two three spot f.next step f.more [] ordered up f.standing.joined f.standing.once f.steps
    f.below
    (fares_own layout two three step spot node (λ fm rows. take step.place rows ++ drop (step.place + 1) rows) up
    f.steps.page own.same (fares own.can)))

-- The child and its neighbour, where too few rows are left for the child.
record LonePair (layout : RowLayout) (kind : Kind) (two : List (Option Sector)) (step : PathStep)
    (spot next : LevelZipper) (node : Node) (child : ℕ) : Type 0 where
  pub n : Neighbours spot next step.place
  pub pair : IsPair layout kind two step.page node.rows step.place child n.left n.right
  pub some : (0 < n.left.page) × (0 < n.right.page)

lone_pair : (layout : RowLayout) (one two : List (Option Sector)) (levels : List (List TreeNode)) (step : PathStep)
    (spot : LevelZipper) (ordered : List (List ℕ)) (child : Child) (node : Node)
    → (f : Fallen layout one two levels step spot ordered (Underfull child)) → OwnRead layout two step spot node
    → LonePair layout child.node.kind two step spot f.next node child.page
lone_pair layout one two levels step spot ordered child node f own =
    let stands = own.own in
    let n = neighbours layout spot f.next step f.steps f.standing.joined.1 stands.enough in
    let below = f.below in
    let once = once_right (numbers_of (level_of spot)) (pages_of (level_of f.next ∷ f.more)) f.standing.once in
    let kind = child.node.kind in
    let level = still_level kind layout one two (level_of f.next ∷ f.more) f.next child.node.rows ordered
    f.standing.joined.2 once below.4 in
    let pair = is_pair layout kind two spot f.next step.place f.more f.steps.place f.standing.joined.1
    (record { own = stands; level = level; once = f.standing.once }) n in
    let positive = λ (page : ℕ). 0 < page in
    record {
      n = n;
      pair =
          subst (λ (p : ℕ). IsPair layout kind two p node.rows step.place child.page n.left n.right) (sym f.steps.page)
          (subst (λ (r : List (List ℕ)). IsPair layout kind two spot.node.page r step.place child.page n.left n.right)
          (sym (ap (λ (m : Node). m.rows) own.same))
          (subst (λ (p : ℕ). IsPair layout kind two spot.node.page spot.node.rows step.place p n.left n.right)
          (sym below.0) pair));
      some = pair_some spot f.next step.place n (all_left positive (numbers_of (level_of f.next)) (pages_of f.more)
          (all_right positive (numbers_of (level_of spot)) (pages_of (level_of f.next ∷ f.more)) f.standing.some));
    }

-- The page above joins the child with its neighbour.
abbrev pub Rebalances : RowLayout → List (Option Sector) → List (Option Sector) → PathStep → Child → Node
    → RemovalOutcome → Type 0
Rebalances layout before after step child node up =
    (left right : TreeNode) → CanStand before step.page node
    → IsPair layout child.node.kind before step.page node.rows step.place child.page left right → RebalancesNeighbours
    layout child.node.kind before after step.page node.rows step.place child.node.rows left right up

pub lone_on : (layout : RowLayout) (two three : List (Option Sector)) (step : PathStep) (child : Child)
    (up : RemovalOutcome) (node : Node) → ReadNode layout two step node → Rebalances layout two three step child node up
    → ShrinksOn layout step two three (Underfull child) up
lone_on layout two three step child up node read rebalances =
    λ steps start from shrinks key one levels spot below ordered standing leads bottom.
    let f = shrunk layout key one start two levels step steps spot below ordered from (Underfull child) shrinks standing
    leads bottom in
    let own = own_read layout two step spot node f.steps.page f.above read in
    let stands = own.own in
    let p = lone_pair layout one two levels step spot ordered child node f own in
    let rebalanced = subst (λ (page : ℕ). RebalancesNeighbours layout child.node.kind two three page spot.node.rows
    step.place child.node.rows p.n.left p.n.right up) f.steps.page
    (subst (λ (m : Node). RebalancesNeighbours layout child.node.kind two three step.page m.rows step.place
    child.node.rows p.n.left p.n.right up) own.same (rebalances p.n.left p.n.right own.can p.pair)) in
    subst (λ (l : List (List TreeNode)). Shrinks layout one l spot three ordered up) (sym f.is)
    (shrinks_rebalanced child.node.kind layout one two three spot f.next step f.more child.node.rows ordered up p.n
    f.standing.joined f.standing.once f.steps stands.enough f.below.4 rebalanced)

-- Where there is a tree, no step leads to a page that isn't of it.
pub never_read : (layout : RowLayout) (two : List (Option Sector)) (step : PathStep) (told : RemovalOutcome)
    → ((kind : Kind) (node : TreeNode) → node.page ≡ step.page → IsOnPage layout two kind node → ⊥)
    → NeverShrinksOn layout step two told
never_read layout two step told none =
    λ steps start from shrinks key one levels spot below ordered standing leads bottom.
    let f =
    shrunk layout key one start two levels step steps spot below ordered from told shrinks standing leads bottom in
    none Inner spot.node (sym f.steps.page) (All-head (IsOnPage layout two Inner) spot.node spot.after
    (all_right (IsOnPage layout two Inner) spot.before (spot.node ∷ spot.after) f.above))

-- a page of a tree isn't page 0
pub spot_some : (spot : LevelZipper) (pages : List ℕ)
    → All (λ (page : ℕ). 0 < page) (numbers_of (level_of spot) ++ pages) → 0 < spot.node.page
spot_some spot pages some =
    let positive = λ (page : ℕ). 0 < page in
    All-head positive spot.node.page (numbers_of spot.after)
    (all_right positive (numbers_of spot.before) (spot.node.page ∷ numbers_of spot.after)
    (subst (λ list. All positive list) (numbers_append spot.before (spot.node ∷ spot.after))
    (all_left positive (numbers_of (level_of spot)) pages some)))

-- what a step at the end of which there is a page of a tree leads to
record LeadsOn (pages : List (Option Sector)) (step : PathStep) (node : Node) : Type 0 where
  pub kind : node.kind ≡ Inner
  pub place : step.place < length node.rows
  pub some : 0 < step.page
  pub is_in : IsIn pages step.page

leads_on : (layout : RowLayout) (one two : List (Option Sector)) (levels : List (List TreeNode)) (step : PathStep)
    (spot : LevelZipper) (ordered : List (List ℕ)) (told : RemovalOutcome) (node : Node)
    → (f : Fallen layout one two levels step spot ordered told) → OwnRead layout two step spot node
    → LeadsOn two step node
leads_on layout one two levels step spot ordered told node f own = record {
  kind = ap (λ (n : Node). n.kind) own.same;
  place = subst (λ (n : Node). step.place < length n.rows) (sym own.same) f.steps.place;
  some = subst (λ (page : ℕ). 0 < page) (sym f.steps.page)
      (spot_some spot (pages_of (level_of f.next ∷ f.more)) f.standing.some);
  is_in = let can = own.can in can.is_in;
}

pub never_led : (layout : RowLayout) (two : List (Option Sector)) (step : PathStep) (told : RemovalOutcome)
    (node : Node) → ReadNode layout two step node
    → (node.kind ≡ Inner → step.place < length node.rows → 0 < step.page → IsIn two step.page → ⊥)
    → NeverShrinksOn layout step two told
never_led layout two step told node read none =
    λ steps start from shrinks key one levels spot below ordered standing leads bottom.
    let f =
    shrunk layout key one start two levels step steps spot below ordered from told shrinks standing leads bottom in
    let on = leads_on layout one two levels step spot ordered told node f
    (own_read layout two step spot node f.steps.page f.above read) in
    none on.kind on.place on.some on.is_in

pub never_rebalanced : (layout : RowLayout) (two : List (Option Sector)) (step : PathStep) (child : Child) (node : Node)
    → ReadNode layout two step node
    → ((left right : TreeNode) → node.kind ≡ Inner → step.place < length node.rows → 0 < step.page → 0 < left.page
    → 0 < right.page → IsPair layout child.node.kind two step.page node.rows step.place child.page left right → ⊥)
    → NeverShrinksOn layout step two (Underfull child)
never_rebalanced layout two step child node read none =
    λ steps start from shrinks key one levels spot below ordered standing leads bottom.
    let f = shrunk layout key one start two levels step steps spot below ordered from (Underfull child) shrinks standing
    leads bottom in
    let own = own_read layout two step spot node f.steps.page f.above read in
    let on = leads_on layout one two levels step spot ordered (Underfull child) node f own in
    let p = lone_pair layout one two levels step spot ordered child node f own in
    none p.n.left p.n.right on.kind on.place on.some p.some.0 p.some.1 p.pair

-- nor does one further down
pub never_below : (layout : RowLayout) (start : List (Option Sector)) (step : PathStep) (steps : List PathStep)
    (from : RemovalOutcome) → NeverShrinks layout steps start from → NeverShrinks layout (step ∷ steps) start from
never_below layout start step steps from never = λ key one levels spot below ordered standing leads bottom.
    never_on layout key one start levels step steps spot below ordered from never standing leads bottom
  where
    never_on : (layout : RowLayout) (key : List ℕ) (one start : List (Option Sector)) (levels : List (List TreeNode))
        (step : PathStep) (steps : List PathStep) (spot : LevelZipper) (below : List LevelZipper)
        (ordered : List (List ℕ)) (from : RemovalOutcome)
        → NeverShrinks layout steps start from → AreDisjointLevels layout one levels
        → IsPathOf layout key levels (step ∷ steps) spot below
        → Shrinks layout one (level_of (lowest spot below) ∷ []) (lowest spot below) start ordered from → ⊥
    never_on layout key one start [] step steps spot below ordered from never standing leads bottom = absurd leads
    never_on layout key one start (leaves ∷ []) step steps spot below ordered from never standing leads bottom =
        let clash : step ∷ steps ≡ [] = leads.2 in omega (arith, ap length clash)
    never_on layout key one start (upper ∷ lower ∷ more) step steps spot [] ordered from never standing leads bottom =
        absurd leads
    never_on layout key one start (upper ∷ lower ∷ more) step steps spot (next ∷ under) ordered from never standing
        leads bottom =
        never key one (lower ∷ more) next under ordered (standing_below layout one upper lower more standing) leads.3
        bottom

-- how many pages are changed_pages at one step more
pub changed_on : (old mid new outcome below up : ℕ) (step : PathStep) (path rest : List PathStep)
    → path ≡ step ∷ rest → mid + below ≤ old + outcome + 2 * length rest → new + up ≤ mid + below + 2
    → new + up ≤ old + outcome + 2 * length path
changed_on old mid new outcome below up step path rest is one more = let count =
    ap length is in omega (arith, count, one, more)
