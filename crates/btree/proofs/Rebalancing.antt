-- An inner page whose rows name two neighbours that became others.
use Rattle.std.proofs.Common.{◌≡◌, ◌≢◌, ◌<◌, ◌+◌, ℕ, suc, true, List, [], ◌∷◌, ◌++◌, length, map, take, drop, set, refl}
use Rattle.std.proofs.Common.{sym, ◌∙◌, ap, arith, append_assoc, length-append, length-set, get_or-set_other}
use Rattle.std.specs.Prelude.{Option, Some, None, IfSome, nat_lt, slice_index_or}
use Rattle.std.specs.List.{remove}
use Rattle.std.proofs.lemmas.List.{take_more_set, drop-set-lt, set_split, drop_at}
use Rattle.byteorder.specs.Endian.{big_bytes}
use Rattle.station.specs.Disk.{Sector}
use Rattle.btree_pages.specs.declared.row_layout.RowLayout.{RowLayout}
use Rattle.btree_pages.specs.declared.row_layout.Kind.{Kind}
use Rattle.btree_pages.specs.declared.row_layout.Kind.TheVariants.{Inner}
use Rattle.btree_pages.specs.RowLayouts.{row_length}
use Rattle.btree_pages.specs.Keys.{key_of, rest_of}
use Rattle.btree_pages.specs.Node.{Node}
use Rattle.btree_pages.specs.Edits.{with_key, with_rows, node_without_row}
use Rattle.btree.specs.declared.removal_outcome.RemovalOutcome.{RemovalOutcome}
use Rattle.btree.specs.declared.split_result.SplitResult.{SplitResult}
use Rattle.btree.specs.declared.split_result.Right.{Right}
use Rattle.btree.specs.Tree.{TreeNode, least_key, row_of, rows_of, node_of}
use Rattle.btree.specs.Moves.{ReplacesNodes}
use Rattle.btree.specs.Nodes.{SameNode}
use Rattle.btree.specs.Propagates.{node_with, rights_of, run_of}
use Rattle.btree.specs.Changes.{IsIn}
use Rattle.btree.specs.Outcomes.{IsRemovalResult, ArePair, Joins}
use Rattle.btree.specs.Fills.{IsEven}
use Rattle.btree.proofs.Lessening.{front_fares}
use Rattle.btree.proofs.Sharing.{still_in}

-- a row became another one, and that after it goes
one_named : (rows : List (List ℕ)) (place : ℕ) (row : List ℕ) → place + 1 < length rows
    → remove (set rows place row) (place + 1) ≡ take place rows ++ (row ∷ drop (place + 2) rows)
one_named rows place row low =
    let next : suc (place + 1) ≡ place + 2 = omega arith in
    ap (λ front. front ++ drop (suc (place + 1)) (set rows place row))
    (take_more_set rows place row (omega (arith, low)))
    ∙ append_assoc (take place rows) (row ∷ []) (drop (suc (place + 1)) (set rows place row))
    ∙ ap (λ (back : List (List ℕ)). take place rows ++ (row ∷ back))
    (drop-set-lt (suc (place + 1)) rows place row (omega arith) ∙ ap (λ (n : ℕ). drop n rows) next)

-- two neighbouring rows became others
two_named : (rows : List (List ℕ)) (place : ℕ) (one two : List ℕ) → place + 1 < length rows
    → set (set rows place one) (place + 1) two ≡ take place rows ++ (one ∷ two ∷ drop (place + 2) rows)
two_named rows place one two low =
    let next : suc (place + 1) ≡ place + 2 = omega arith in
    set_split (set rows place one) (place + 1) two (omega (arith, low, length-set rows place one))
    ∙ ap (λ front. front ++ (two ∷ drop (suc (place + 1)) (set rows place one)))
    (take_more_set rows place one (omega (arith, low)))
    ∙ append_assoc (take place rows) (one ∷ []) (two ∷ drop (suc (place + 1)) (set rows place one))
    ∙ ap (λ (back : List (List ℕ)). take place rows ++ (one ∷ two ∷ back))
    (drop-set-lt (suc (place + 1)) rows place one (omega arith) ∙ ap (λ (n : ℕ). drop n rows) next)

-- A row gets the least key of the page that it names.
pub record Renames (layout : RowLayout) (row key : List ℕ) (page : ℕ) (node : Node) : Type 0 where
  pub layout_is : node.layout ≡ layout
  pub key_is : key ≡ key_of node.layout (slice_index_or node.rows 0 [])
  pub names : rest_of layout row ≡ big_bytes 4 page

renamed : (layout : RowLayout) (row key : List ℕ) (page : ℕ) (node : Node) → Renames layout row key page node
    → key ++ rest_of layout row ≡ row_of layout (node_with page node.rows)
renamed layout row key page node r =
    ap (λ (rest : List ℕ). key ++ rest) r.names ∙ ap (λ (k : List ℕ). k ++ big_bytes 4 page)
    (r.key_is ∙ ap (λ (f : RowLayout). key_of f (slice_index_or node.rows 0 [])) r.layout_is)

-- the two rows name the one page that is left
pub named_one : (node middle new : Node) (place : ℕ) (key : List ℕ) (joined : SplitResult)
    → place + 1 < length node.rows → Renames node.layout (slice_index_or node.rows place []) key joined.page joined.left
    → middle ≡ with_key node place key → new ≡ node_without_row middle (place + 1) → joined.right ≡ None
    → new.rows ≡ take place node.rows ++ (map (row_of node.layout) (run_of joined) ++ drop (place + 2) node.rows)
named_one node middle new place key joined low renames middle_is is none =
    ap (λ (n : Node). n.rows) is ∙ ap (λ (n : Node). remove n.rows (place + 1)) middle_is
    ∙ one_named node.rows place (key ++ rest_of node.layout (slice_index_or node.rows place [])) low
    ∙ ap (λ (row : List ℕ). take place node.rows ++ (row ∷ drop (place + 2) node.rows))
    (renamed node.layout (slice_index_or node.rows place []) key joined.page joined.left renames)
    ∙ ap (λ r. take place node.rows ++ (map (row_of node.layout) (node_with joined.page joined.left.rows ∷ rights_of r)
    ++ drop (place + 2) node.rows)) (sym none)

-- each of them names one of the two
pub named_both : (node middle new : Node) (place : ℕ) (key key' : List ℕ) (joined : SplitResult) (right : Right)
    → place + 1 < length node.rows → Renames node.layout (slice_index_or node.rows place []) key joined.page joined.left
    → Renames node.layout (slice_index_or node.rows (place + 1) []) key' right.page right.node
    → middle ≡ with_key node place key → new ≡ with_key middle (place + 1) key' → joined.right ≡ Some right
    → new.rows ≡ take place node.rows ++ (map (row_of node.layout) (run_of joined) ++ drop (place + 2) node.rows)
named_both node middle new place key key' joined right low one two middle_is is some =
    let row = key ++ rest_of node.layout (slice_index_or node.rows place []) in
    let apart : place + 1 ≢ place = λ same. omega (arith, same) in
    ap (λ (n : Node). n.rows) is ∙ ap
    (λ (n : Node). set n.rows (place + 1) (key' ++ rest_of n.layout (slice_index_or n.rows (place + 1) []))) middle_is
    ∙ ap (λ (r : List ℕ). set (set node.rows place row) (place + 1) (key' ++ rest_of node.layout r))
    (get_or-set_other node.rows place (place + 1) row [] apart)
    ∙ two_named node.rows place row (key' ++ rest_of node.layout (slice_index_or node.rows (place + 1) [])) low
    ∙ ap (λ (r : List ℕ). take place node.rows
    ++ (r ∷ (key' ++ rest_of node.layout (slice_index_or node.rows (place + 1) [])) ∷ drop (place + 2) node.rows))
    (renamed node.layout (slice_index_or node.rows place []) key joined.page joined.left one)
    ∙ ap (λ (r : List ℕ). take place node.rows
    ++ (row_of node.layout (node_with joined.page joined.left.rows) ∷ r ∷ drop (place + 2) node.rows))
    (renamed node.layout (slice_index_or node.rows (place + 1) []) key' right.page right.node two)
    ∙ ap (λ r. take place node.rows ++ (map (row_of node.layout) (node_with joined.page joined.left.rows ∷ rights_of r)
    ++ drop (place + 2) node.rows)) (sym some)

-- what follows the key of a row that names a node
pub names_page : (layout : RowLayout) (row : List ℕ) (node : TreeNode) → length row ≡ row_length layout Inner
    → row ≡ row_of layout node → rest_of layout row ≡ big_bytes 4 node.page
names_page layout row node row_long is =
    let key_long : length (least_key layout node) ≡ layout.key_length =
    omega (arith, row_long, ap length is, length-append (least_key layout node) (big_bytes 4 node.page)) in
    ap (rest_of layout) is ∙ drop_at (least_key layout node) (big_bytes 4 node.page) layout.key_length key_long

pub same_rows : (node new : Node) (rows : List (List ℕ)) → SameNode node new → new.rows ≡ rows
    → new ≡ with_rows node rows
same_rows node new rows same is =
    ap (λ (f : RowLayout). node_of f new.kind new.rows) same.layout ∙ ap (λ k. node_of node.layout k new.rows) same.kind
    ∙ ap (λ (r : List (List ℕ)). node_of node.layout node.kind r) is

beside_names : (rest : List ℕ) (page : ℕ) (beside : Option Right) → rest ≡ big_bytes 4 page
    → IfSome beside (λ right. right.page ≡ page) → IfSome beside (λ right. rest ≡ big_bytes 4 right.page)
beside_names rest page None is same = tt
beside_names rest page (Some right) is same = is ∙ ap (big_bytes 4) (sym same)

-- What two neighbours became, of which the page above them learnt.
pub record Learns (kind : Kind) (before mid : List (Option Sector)) (place : ℕ) (node new : Node)
    (left right : TreeNode) (joined : SplitResult) : Type 0 where
  pub inner : node.kind ≡ Inner
  pub page_is : joined.page ≡ left.page
  pub beside_is : IfSome joined.right (λ beside. beside.page ≡ right.page)
  pub pair : ReplacesNodes node.layout kind before (left ∷ right ∷ []) mid (run_of joined)
  pub even : IsEven node.layout kind (run_of joined)
  pub like : SameNode node new
  pub names : rest_of node.layout (slice_index_or node.rows place []) ≡ big_bytes 4 joined.page → IfSome joined.right
      (λ beside. rest_of node.layout (slice_index_or node.rows (place + 1) []) ≡ big_bytes 4 beside.page)
      → new.rows ≡ take place node.rows ++ (map (row_of node.layout) (run_of joined) ++ drop (place + 2) node.rows)

pub joins_so : (kind : Kind) (before mid after : List (Option Sector))
    (page place : ℕ) (node new : Node) (left right : TreeNode) (joined : SplitResult) (outcome : RemovalOutcome)
    → ArePair node.layout before page node.rows place left right
    → Learns kind before mid place node new left right joined
    → (IsIn mid page → (nat_lt 0 place ≡ true → least_key new.layout (node_with page new.rows) ≡ least_key new.layout
    (node_with page node.rows)) → IsRemovalResult new.layout new.kind mid after page node.rows new.rows outcome)
    → Joins node.layout kind before after page node.rows place (rows_of (run_of joined)) left right outcome
joins_so kind before mid after page place node new left right joined outcome are learns put =
    let named = learns.names
    (names_page node.layout (slice_index_or node.rows place []) left (are.lengths place [] (omega (arith, are.within)))
    are.left_row ∙ ap (big_bytes 4) (sym learns.page_is))
    (beside_names (rest_of node.layout (slice_index_or node.rows (place + 1) [])) right.page joined.right
    (names_page node.layout (slice_index_or node.rows (place + 1) []) right (are.lengths (place + 1) [] are.within)
    are.right_row) learns.beside_is) in
    let more = map (row_of node.layout) (run_of joined) ++ drop (place + 2) node.rows in
    record {
      mid = mid;
      run = run_of joined;
      pair = learns.pair;
      even = learns.even;
      rows_are = refl;
      fares = front_fares mid after page place node new more Inner outcome
          (same_rows node new (take place node.rows ++ more) learns.like named) learns.inner (omega (arith, are.within))
          (put (still_in node.layout kind before mid left right (run_of joined) page learns.pair are.left_apart
          are.right_apart are.own_in));
    }
