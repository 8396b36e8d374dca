-- The child of an inner page that too few rows are left for, and its neighbour.
use Rattle.std.proofs.Common.{◌≡◌, ◌≢◌, ⊎_elim, ◌<◌, ◌≤◌, ◌+◌, ◌-◌, ◌^◌, ℕ, zero, suc, List, [], ◌++◌, length, sym, ◌∙◌}
use Rattle.std.proofs.Common.{ap, subst, arith}
use Rattle.std.specs.Prelude.{Option, Some, slice_index_or}
use Rattle.std.specs.List.{All}
use Rattle.std.proofs.lemmas.List.{append-nil}
use Rattle.byteorder.specs.Endian.{big_bytes, big_number}
use Rattle.byteorder.specs.Numbers.{big_number-reads_back}
use Rattle.station.specs.Disk.{Sector}
use Rattle.pages.specs.Image.{Map}
use Rattle.pages.specs.Pages.{catalog_of, IsUnchanged}
use Rattle.pages.specs.declared.page_map.PageMap.{PageMap}
use Rattle.btree_pages.specs.declared.row_layout.RowLayout.{RowLayout}
use Rattle.btree_pages.specs.declared.row_layout.Kind.{Kind}
use Rattle.btree_pages.specs.declared.row_layout.Kind.TheVariants.{Inner}
use Rattle.btree_pages.specs.RowLayouts.{row_length}
use Rattle.btree_pages.specs.Keys.{child_of}
use Rattle.btree_pages.specs.Node.{Node, IsNode}
use Rattle.btree.specs.declared.removal_outcome.RemovalOutcome.{RemovalOutcome}
use Rattle.btree.specs.Tree.{TreeNode, row_of, node_at, IsOnPage}
use Rattle.btree.specs.Changes.{IsIn}
use Rattle.btree.specs.Outcomes.{AreTwo, ArePair, Joins, IsPair, RebalancesNeighbours, pair_of, rows_together}
use Rattle.btree.proofs.Writes.{is_low}
use Rattle.btree.proofs.Sharing.{kind_lengths}
use Rattle.btree.proofs.Rebalancing.{names_page}

pub same_catalog : (old new : PageMap) → IsUnchanged old new → catalog_of new ≡ catalog_of old
same_catalog old new unchanged = ap (λ (m : Map). m.catalog) (unchanged.map [])

pair_at : (layout : RowLayout) (kind : Kind) (before : List (Option Sector)) (page : ℕ) (old : List (List ℕ))
    (place at lone : ℕ) (left right : TreeNode) → IsPair layout kind before page old place lone left right
    → pair_of place ≡ at
    → All (λ row. length row ≡ row_length layout Inner) old → ArePair layout before page old at left right
pair_at layout kind before page old place at lone left right pair is lengths =
    subst (λ (n : ℕ). ArePair layout before page old n left right) is (record {
      within = pair.within;
      lengths = lengths;
      left_row = pair.left_row;
      right_row = pair.right_row;
      own_in = pair.own_in;
      two = record { left_in = pair.left_in; right_in = pair.right_in; apart = pair.apart };
      left_apart = pair.left_apart;
      right_apart = pair.right_apart;
    })

-- the page that a row names is the node's
child_is : (pages : List (Option Sector)) (layout : RowLayout) (row : List ℕ) (node : TreeNode) → length pages ≤ 2 ^ 20
    → IsIn pages node.page → length row ≡ row_length layout Inner → row ≡ row_of layout node
    → child_of layout row ≡ node.page
child_is pages layout row node few is_in row_long is =
    let small : node.page < 256 ^ 4 = omega (arith, is_low pages node.page is_in, few) in
    ap (big_number 4) (names_page layout row node row_long is ∙ sym (append-nil (big_bytes 4 node.page)))
    ∙ big_number-reads_back 4 node.page [] small

left_child : (pages : List (Option Sector)) (layout : RowLayout) (node : Node) (page at : ℕ) (left right : TreeNode)
    → length pages ≤ 2 ^ 20 → node.layout ≡ layout → ArePair layout pages page node.rows at left right
    → child_of node.layout (slice_index_or node.rows at []) ≡ left.page
left_child pages layout node page at left right few layout_is are =
    ap (λ (f : RowLayout). child_of f (slice_index_or node.rows at [])) layout_is
    ∙ child_is pages layout (slice_index_or node.rows at []) left few are.two.left_in
    (are.lengths at [] (omega (arith, are.within))) are.left_row

right_child : (pages : List (Option Sector)) (layout : RowLayout) (node : Node) (page at : ℕ) (left right : TreeNode)
    → length pages ≤ 2 ^ 20 → node.layout ≡ layout → ArePair layout pages page node.rows at left right
    → child_of node.layout (slice_index_or node.rows (at + 1) []) ≡ right.page
right_child pages layout node page at left right few layout_is are =
    ap (λ (f : RowLayout). child_of f (slice_index_or node.rows (at + 1) [])) layout_is
    ∙ child_is pages layout (slice_index_or node.rows (at + 1) []) right few are.two.right_in
    (are.lengths (at + 1) [] are.within) are.right_row

-- The page above, as it is read.
pub record Above (pages : List (Option Sector)) (layout : RowLayout) (node : Node) : Type 0 where
  pub few : length pages ≤ 2 ^ 20
  pub layout_is : node.layout ≡ layout
  pub inner : node.kind ≡ Inner
  pub is_node : IsNode node

-- The lone child is one of the two nodes that the rows from `at` on name. The other one is its neighbour, which the row
-- at `beside` names, and which stands.
pub record IsNear (pages : List (Option Sector)) (layout : RowLayout) (kind : Kind) (node : Node)
    (page place at beside lone : ℕ) (left right child neighbour : TreeNode) : Type 0 where
  pub place_is : pair_of place ≡ at
  pub are : ArePair layout pages page node.rows at left right
  pub child_is : child.page ≡ lone
  pub near_is : child_of node.layout (slice_index_or node.rows beside []) ≡ neighbour.page
  pub stands : IsOnPage layout pages kind neighbour

pub first_near : (pages : List (Option Sector)) (layout : RowLayout)
    (kind : Kind) (node : Node) (page place lone : ℕ) (left right : TreeNode) → Above pages layout node → place ≡ 0
    → IsPair layout kind pages page node.rows place lone left right
    → IsNear pages layout kind node page place 0 1 lone left right left right
first_near pages layout kind node page place lone left right above first pair =
    let are = pair_at layout kind pages page node.rows place 0 lone left right pair (ap pair_of first)
    (kind_lengths layout Inner node above.layout_is above.inner above.is_node) in
    ⊎_elim
    (λ is. record {
      place_is = ap pair_of first;
      are = are;
      child_is = is.1;
      near_is = right_child pages layout node page 0 left right above.few above.layout_is are;
      stands = is.2;
    })
    (λ is. absurd (is.0 first))
    pair.either

pair_before : (place : ℕ) → place ≢ 0 → pair_of place ≡ place - 1
pair_before zero some = absurd (some (omega arith))
pair_before (suc place) some = omega arith

pub other_near : (pages : List (Option Sector)) (layout : RowLayout)
    (kind : Kind) (node : Node) (page place lone : ℕ) (left right : TreeNode) → Above pages layout node → place ≢ 0
    → IsPair layout kind pages page node.rows place lone left right
    → IsNear pages layout kind node page place (place - 1) (place - 1) lone left right right left
other_near pages layout kind node page place lone left right above some pair =
    let place_is = pair_before place some in
    let are = pair_at layout kind pages page node.rows place (place - 1) lone left right pair place_is
    (kind_lengths layout Inner node above.layout_is above.inner above.is_node) in
    ⊎_elim
    (λ is. absurd (some is.0))
    (λ is. record {
      place_is = place_is;
      are = are;
      child_is = is.1;
      near_is = left_child pages layout node page (place - 1) left right above.few above.layout_is are;
      stands = is.2;
    })
    pair.either

-- the rows of a node that stands, as read
pub rows_read : (layout : RowLayout) (kind : Kind) (pages : List (Option Sector))
    (page : ℕ) (node : Node) (tree_node : TreeNode) → page ≡ tree_node.page → node_at layout pages page ≡ Some node
    → IsOnPage layout pages kind tree_node → node.rows ≡ tree_node.rows
rows_read layout kind pages page node tree_node same read stands = let there =
    ap (node_at layout pages) same ∙ stands.node in cc

-- What was joined is what was to be rebalanced.
pub rebalanced_so : (layout : RowLayout) (kind : Kind) (before now after : List (Option Sector)) (page place at : ℕ)
    (node : Node) (lone rows : List (List ℕ)) (left right : TreeNode) (outcome : RemovalOutcome) → node.layout ≡ layout
    → now ≡ before
    → ArePair layout before page node.rows at left right → pair_of place ≡ at
    → rows ≡ rows_together place lone left right
    → (ArePair node.layout now page node.rows at left right → Joins node.layout kind now after page node.rows at rows
    left right outcome) → RebalancesNeighbours layout kind before after page node.rows place lone left right outcome
rebalanced_so layout kind before now after page place at node lone rows left right outcome layout_is same are place_is
    rows_is join =
    let told : ArePair layout before page node.rows at left right
    → Joins layout kind before after page node.rows at rows left right outcome =
    subst (λ (pages : List (Option Sector)). ArePair layout pages page node.rows at left right
    → Joins layout kind pages after page node.rows at rows left right outcome) same
    (subst (λ (f : RowLayout). ArePair f now page node.rows at left right
    → Joins f kind now after page node.rows at rows left right outcome) layout_is join) in
    let here = subst (λ (n : ℕ). Joins layout kind before after page node.rows n rows left right outcome) (sym place_is)
    (told are) in
    record {
      mid = here.mid;
      run = here.run;
      pair = here.pair;
      even = here.even;
      rows = here.rows_are ∙ rows_is;
      fares = here.fares;
    }

pub never_joined : (before now : List (Option Sector)) (left right one two : ℕ) → now ≡ before → left ≡ one
    → right ≡ two → AreTwo before left right → 0 < left → 0 < right → (0 < one → 0 < two → AreTwo now one two → ⊥) → ⊥
never_joined before now left right one two same left_is right_is both left_some right_some never =
    never (omega (arith, left_is, left_some)) (omega (arith, right_is, right_some))
    (subst (λ (pages : List (Option Sector)). AreTwo pages one two) (sym same)
    (subst (λ (q : ℕ). AreTwo before one q) right_is (subst (λ (q : ℕ). AreTwo before q right) left_is both)))

pub together_first : (place : ℕ) (lone rows : List (List ℕ)) (left right : TreeNode) → place ≡ 0 → rows ≡ right.rows
    → lone ++ rows ≡ rows_together place lone left right
together_first zero lone rows left right first is = ap (λ r. lone ++ r) is
together_first (suc place) lone rows left right first is = absurd (omega (arith, first))

pub together_other : (place : ℕ) (lone rows : List (List ℕ)) (left right : TreeNode) → place ≢ 0 → rows ≡ left.rows
    → rows ++ lone ≡ rows_together place lone left right
together_other zero lone rows left right some is = absurd (some (omega arith))
together_other (suc place) lone rows left right some is = ap (λ r. r ++ lone) is
