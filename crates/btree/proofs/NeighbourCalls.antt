-- The neighbour of a lone child as it is read, and what the two become.
use Rattle.std.proofs.Common.{◌≡◌, ◌≢◌, ◌⊎◌, ⊎_elim, ap, inl, inr, ◌<◌, ◌≤◌, ◌+◌, ◌-◌, ◌++◌, ℕ, zero, suc, List, []}
use Rattle.std.proofs.Common.{refl, sym, ◌∙◌, subst, arith}
use Rattle.std.specs.Prelude.{Option, Result, Some, Ok, Err, IfErr, slice_index_or}
use Rattle.station.specs.Disk.{Sector}
use Rattle.pages.specs.Pages.{page_count, IsUnchanged}
use Rattle.pages.specs.declared.page_map.PageMap.{PageMap}
use Rattle.pages.specs.declared.error.PagesError.{PagesError}
use Rattle.pages.specs.declared.error.PagesError.TheVariants.{Device, Full, ForeignMark, Spent}
use Rattle.btree_pages.specs.declared.row_layout.RowLayout.{RowLayout}
use Rattle.btree_pages.specs.declared.row_layout.Kind.{Kind}
use Rattle.btree_pages.specs.declared.row_layout.Kind.TheVariants.{Leaf, Inner}
use Rattle.btree_pages.specs.Keys.{child_of}
use Rattle.btree_pages.specs.Node.{Node, IsNode}
use Rattle.btree.specs.declared.path_step.PathStep.{PathStep}
use Rattle.btree.specs.declared.removal_outcome.Child.{Child}
use Rattle.btree.specs.declared.removal_outcome.RemovalOutcome.{RemovalOutcome}
use Rattle.btree.specs.Tree.{TreeNode, IsOnPage, fewest, node_at}
use Rattle.btree.specs.Changes.{pages_of_map, CountsPages, FewNumbers}
use Rattle.btree.specs.Outcomes.{IsPair, Joins, RebalancesNeighbours}
use Rattle.btree.specs.Puts.{JoinsPair}
use Rattle.btree.specs.Refusals.{IsRestRefusal}
use Rattle.btree.specs.Results.{ExactlyIfSpent}
use Rattle.btree.proofs.Passing.{never_ok, same_error}
use Rattle.btree.proofs.Pairing.{Above, IsNear, first_near, other_near, rows_read, rebalanced_so, together_first}
use Rattle.btree.proofs.Pairing.{together_other}
use Rattle.btree.proofs.ReadMaps.{live_unless, small_map, pages_same}

pub zero_or_more : (n : ℕ) → (n ≡ 0) ⊎ (n ≢ 0)
zero_or_more zero = inl refl
zero_or_more (suc n) = inr (λ is. omega (arith, is))

-- The place of a neighbour is one of the page above, and so are both places of a pair.
pub near_low : (place near rows : ℕ) → place < rows → 2 ≤ rows → (place ≡ 0 → near ≡ 1)
    → (place ≢ 0 → near ≡ place - 1) → near < rows
near_low place near rows low two to_right to_left = ⊎_elim
    (λ first. let is = to_right first in omega (arith, is, two))
    (λ other. let is = to_left other in omega (arith, is, low))
    (zero_or_more place)

pub before_low : (place rows : ℕ) → place < rows → place ≢ 0 → place - 1 + 1 < rows
before_low zero rows low some = absurd (some refl)
before_low (suc n) rows low some = omega (arith, low)

-- Two neighbours have two rows at least.
pub two_at_least : (kind : Kind) (one other : ℕ) → 0 < one → fewest kind ≤ other → 2 ≤ one + other
two_at_least Leaf one other some enough = let more : 1 ≤ other = enough in omega (arith, some, more)
two_at_least Inner one other some enough = let more : 2 ≤ other = enough in omega (arith, some, more)

-- A page that is written is refused for these reasons alone.
rest_alone : {T : Type 0} (r : Result T PagesError) (e : PagesError) → IfErr r IsRestRefusal → r ≡ Err e
    → IsRestRefusal e
rest_alone (Ok x) e why is = never_ok is
rest_alone (Err y) e why is = subst IsRestRefusal (same_error is) why

pub rest_no_device : {T : Type 0} (r : Result T PagesError) → IfErr r IsRestRefusal → r ≡ Err Device → ⊥
rest_no_device r why is = rest_alone r Device why is

pub rest_no_full : {T : Type 0} (r : Result T PagesError) → IfErr r IsRestRefusal
    → (r ≢ Err Full) × (r ≢ Err ForeignMark)
rest_no_full r why = (λ is. rest_alone r Full why is, λ is. rest_alone r ForeignMark why is)

-- The page above is in a map on which a call was not refused as spent.
pub above_at : {T : Type 0} (result : Result T PagesError) (pages : PageMap) (image : List Sector) (layout : RowLayout)
    (node : Node) → CountsPages pages → FewNumbers pages → ExactlyIfSpent pages result
    → result ≢ Err Spent → node.layout ≡ layout → node.kind ≡ Inner → IsNode node
    → Above (pages_of_map pages image) layout node
above_at result pages image layout node counts few exactly unspent layout_is inner is_node =
    record {
      few = small_map pages image (page_count pages) counts refl few (live_unless result pages exactly unspent);
      layout_is = layout_is;
      inner = inner;
      is_node = is_node;
    }

-- a page that the row at a place names, with another name for the place
pub named_at : (node : Node) (near at number : ℕ) → number ≡ child_of node.layout (slice_index_or node.rows near [])
    → near ≡ at → number ≡ child_of node.layout (slice_index_or node.rows at [])
named_at node near at number number_is is =
    number_is ∙ ap (λ (n : ℕ). child_of node.layout (slice_index_or node.rows n [])) is

-- The page of a neighbour has a node of its kind.
pub never_missing : (pages : List (Option Sector)) (layout : RowLayout) (kind found : Kind) (node : Node)
    (page place at next lone number : ℕ) (left right child neighbour : TreeNode)
    → IsNear pages layout kind node page place at next lone left right child neighbour → found ≡ kind
    → number ≡ child_of node.layout (slice_index_or node.rows next [])
    → ((other : TreeNode) → other.page ≡ number → IsOnPage layout pages found other → ⊥) → ⊥
never_missing pages layout kind found node page place at next lone number left right child neighbour near found_is
    number_is none =
    none neighbour (sym (number_is ∙ near.near_is))
    (subst (λ (k : Kind). IsOnPage layout pages k neighbour) (sym found_is) near.stands)

-- So it is with the neighbour to the right of the first child, and with that to the left of another one.
pub never_beside : (pages : List (Option Sector)) (layout : RowLayout) (kind found : Kind) (node : Node)
    (page place lone number near : ℕ) (left right : TreeNode) → Above pages layout node
    → IsPair layout kind pages page node.rows place lone left right → found ≡ kind
    → number ≡ child_of node.layout (slice_index_or node.rows near [])
    → (place ≡ 0 → near ≡ 1) → (place ≢ 0 → near ≡ place - 1)
    → ((other : TreeNode) → other.page ≡ number → IsOnPage layout pages found other → ⊥) → ⊥
never_beside pages layout kind found node page place lone number near left right above pair found_is number_is to_right
    to_left none = ⊎_elim
    (λ first. never_missing pages layout kind found node page place 0 1 lone number left right left right
    (first_near pages layout kind node page place lone left right above first pair) found_is
    (named_at node near 1 number number_is (to_right first)) none)
    (λ other. never_missing pages layout kind found node page place (place - 1) (place - 1) lone number left right right
    left (other_near pages layout kind node page place lone left right above other pair) found_is
    (named_at node near (place - 1) number number_is (to_left other)) none)
    (zero_or_more place)

-- What the first child and the neighbour to its right became.
pub rebalanced_first : (old now new : PageMap) (image : List Sector) (layout : RowLayout) (node : Node)
    (step : PathStep) (lone other : Child) (number : ℕ) (left right : TreeNode) (outcome : RemovalOutcome)
    → IsNear (pages_of_map old image) layout lone.node.kind node step.page step.place 0 1 lone.page left right left
    right → IsUnchanged old now → node.layout ≡ layout → step.place ≡ 0
    → number ≡ child_of node.layout (slice_index_or node.rows 1 [])
    → node_at layout (pages_of_map old image) number ≡ Some other.node → other.page ≡ number
    → JoinsPair now new step.page node 0 lone other outcome
    → RebalancesNeighbours layout lone.node.kind (pages_of_map old image) (pages_of_map new image) step.page node.rows
    step.place lone.node.rows left right outcome
rebalanced_first old now new image layout node step lone other number left right outcome near unchanged layout_is first
    number_is read page_is joins =
    let before = pages_of_map old image in
    let kind = lone.node.kind in
    let near_is = number_is ∙ near.near_is in
    rebalanced_so layout kind before (pages_of_map now image) (pages_of_map new image) step.page step.place 0 node
    lone.node.rows (lone.node.rows ++ other.node.rows) left right outcome layout_is
    (pages_same old now image unchanged) near.are near.place_is
    (together_first step.place lone.node.rows other.node.rows left right first
    (rows_read layout kind before number other.node right near_is read near.stands))
    (λ these. joins image left right these near.child_is (sym (page_is ∙ near_is)))

-- What another child and the neighbour to its left became.
pub rebalanced_other : (old now new : PageMap) (image : List Sector) (layout : RowLayout) (node : Node)
    (step : PathStep) (other lone : Child) (number : ℕ) (left right : TreeNode) (outcome : RemovalOutcome)
    → IsNear (pages_of_map old image) layout lone.node.kind node step.page step.place (step.place - 1) (step.place - 1)
    lone.page left right right left → IsUnchanged old now → node.layout ≡ layout → step.place ≢ 0
    → number ≡ child_of node.layout (slice_index_or node.rows (step.place - 1) [])
    → node_at layout (pages_of_map old image) number ≡ Some other.node → other.page ≡ number
    → other.node.kind ≡ lone.node.kind → JoinsPair now new step.page node (step.place - 1) other lone outcome
    → RebalancesNeighbours layout lone.node.kind (pages_of_map old image) (pages_of_map new image) step.page node.rows
    step.place lone.node.rows left right outcome
rebalanced_other old now new image layout node step other lone number left right outcome near unchanged layout_is some
    number_is read page_is kind_is joins =
    let before = pages_of_map old image in
    let after = pages_of_map new image in
    let rows = other.node.rows ++ lone.node.rows in
    let near_is = number_is ∙ near.near_is in
    rebalanced_so layout lone.node.kind before (pages_of_map now image) after step.page step.place (step.place - 1) node
    lone.node.rows rows left right outcome layout_is (pages_same old now image unchanged) near.are
    near.place_is
    (together_other step.place lone.node.rows other.node.rows left right some
    (rows_read layout lone.node.kind before number other.node left near_is read near.stands))
    (λ these. subst (λ (k : Kind). Joins node.layout k (pages_of_map now image) after step.page node.rows
    (step.place - 1) rows left right outcome) kind_is
    (joins image left right these (sym (page_is ∙ near_is)) near.child_is))
