-- A tree that is built of its leaves, from the last one to the first.
use Rattle.std.proofs.Common.{◌≡◌, ◌≢◌, ⊎_elim, inl, inr, ◌<◌, ◌≤◌, ◌+◌, ◌-◌, ℕ, List, [], ◌∷◌, ◌++◌, length, map}
use Rattle.std.proofs.Common.{drop, refl, sym, ◌∙◌, ap, subst, arith, length-append}
use Rattle.std.specs.Prelude.{Option, slice_index_or}
use Rattle.std.specs.List.{All}
use Rattle.std.proofs.lemmas.List.{append-nil, drop_more}
use Rattle.std.proofs.lemmas.List.Elements.{All-nil, All-cons, All-append}
use Rattle.byteorder.specs.Endian.{big_bytes}
use Rattle.station.specs.Disk.{Sector}
use Rattle.btree_pages.specs.declared.row_layout.RowLayout.{RowLayout}
use Rattle.btree_pages.specs.declared.row_layout.Kind.{Kind}
use Rattle.btree_pages.specs.declared.row_layout.Kind.TheVariants.{Leaf, Inner}
use Rattle.btree_pages.specs.RowLayouts.{row_length}
use Rattle.btree_pages.specs.Keys.{key_of}
use Rattle.btree_pages.specs.Node.{Node, IsNode}
use Rattle.btree.specs.Tree.{TreeNode, row_of, rows_of, fewest, IsOnPage, pages_of, rows_in_order}
use Rattle.btree.specs.Moves.{Moves, Became, ReplacesNodes}
use Rattle.btree.specs.Builds.{IsLeafOf, Builds, rows_of_nodes}
use Rattle.btree.specs.Propagates.{node_with}
use Rattle.btree.proofs.Clearing.{moves_none}
use Rattle.btree.proofs.NewRoots.{new_root, tree_after}
use Rattle.btree.proofs.Order.{Up}
use Rattle.btree.proofs.Runs.{in_head, in_none}
use Rattle.btree.proofs.Shifts.{low_stays}
use Rattle.btree.proofs.Splices.{joined_still, joined_there}
use Rattle.btree.proofs.Steps.{Step, turned, step_moves, step_once}
use Rattle.btree.proofs.Writes.{put_node, node_is}

-- the page of the first of some nodes, 0 where there is none
abbrev pub first_page : List TreeNode → ℕ
first_page [] = 0
first_page (node ∷ more) = node.page

-- These leaves came to pages that were none. The rows above name them, and this is the page of the first.
pub record PutsLeaves (layout : RowLayout) (before : List (Option Sector)) (leaves : List Node)
    (after : List (Option Sector)) (root : ℕ) (above : List (List ℕ)) : Type 0 where
  pub run : List TreeNode
  pub became : Became layout before [] after (run ∷ [])
  pub same : rows_of run ≡ rows_of_nodes leaves
  pub count : length run ≡ length leaves
  pub named : map (row_of layout) run ≡ above
  pub first : first_page run ≡ root

pub none_put : (layout : RowLayout) (before : List (Option Sector)) → PutsLeaves layout before [] before 0 []
none_put layout before = record {
  run = [];
  became = record {
    joined = All-nil (IsOnPage layout before Leaf);
    once = tt;
    moves = moves_none before;
  };
  same = refl;
  count = refl;
  named = refl;
  first = refl;
}

-- a leaf comes before those that stand
leaf_before : (layout : RowLayout) (one two three : List (Option Sector)) (leaf : TreeNode) (run : List TreeNode)
    → Became layout one [] two (run ∷ []) → ReplacesNodes layout Leaf two [] three (leaf ∷ [])
    → Became layout one [] three ((leaf ∷ run) ∷ [])
leaf_before layout one two three leaf run low own =
    let s : Step layout Leaf one two three [] [] (leaf ∷ []) [] [] (pages_of (run ∷ [])) = record {
      stand = All-nil (IsOnPage layout one Leaf);
      once = tt;
      lower = low.moves;
      low_there = joined_there layout two (run ∷ []) low.joined;
      low_once = low.once;
      own = own;
    } in
    record {
      joined = All-append (IsOnPage layout three Leaf) (leaf ∷ []) run own.stand
          (joined_still layout two three (run ∷ [])
          (low_stays one two three [] [] [] (leaf.page ∷ []) (pages_of (run ∷ []))
          (turned layout Leaf one two three [] [] (leaf ∷ []) [] [] (pages_of (run ∷ [])) s)) low.joined);
      once = step_once layout Leaf one two three [] [] (leaf ∷ []) [] [] (pages_of (run ∷ [])) s;
      moves = step_moves layout Leaf one two three [] [] (leaf ∷ []) [] [] (pages_of (run ∷ [])) s;
    }

pub one_more_put : (layout : RowLayout) (one two three : List (Option Sector)) (leaf : Node) (leaves : List Node)
    (root page : ℕ) (above : List (List ℕ)) → PutsLeaves layout one leaves two root above
    → ReplacesNodes layout Leaf two [] three (node_with page leaf.rows ∷ [])
    → PutsLeaves layout one (leaf ∷ leaves) three page (row_of layout (node_with page leaf.rows) ∷ above)
one_more_put layout one two three leaf leaves root page above was own =
    let node = node_with page leaf.rows in
    record {
      run = node ∷ was.run;
      became = leaf_before layout one two three node was.run was.became own;
      same = ap (λ (rows : List (List ℕ)). leaf.rows ++ rows) was.same;
      count = omega (arith, was.count);
      named = ap (λ (rows : List (List ℕ)). row_of layout node ∷ rows) was.named;
      first = refl;
    }

-- a page of a tree that was none is no page 0
fresh_page : (before after : List (Option Sector)) (page : ℕ) (pages : List ℕ) → Moves before [] after (page ∷ pages)
    → page ≢ 0
fresh_page before after page pages moves =
    ⊎_elim (λ was. absurd (in_none page was)) (λ fresh zero. omega (arith, fresh.0, zero))
    (moves.joins page (in_head page pages))

-- No leaf, one, and more below a page that names them.
pub builds_none : (layout : RowLayout) (before : List (Option Sector)) (leaves : List Node)
    (after : List (Option Sector)) (root : ℕ) (above : List (List ℕ))
    (puts : PutsLeaves layout before leaves after root above)
    → puts.run ≡ [] → Builds layout before (rows_of_nodes leaves) after root
builds_none layout before leaves after root above puts none = record {
  levels = [];
  stands = inl (sym puts.first ∙ ap first_page none, refl);
  in_order = sym (ap rows_of none) ∙ puts.same;
  moves = subst (λ (run : List TreeNode). Moves before [] after (pages_of (run ∷ []))) none puts.became.moves;
}

pub builds_one : (layout : RowLayout) (before : List (Option Sector)) (leaves : List Node)
    (after : List (Option Sector)) (root : ℕ) (above : List (List ℕ)) (node : TreeNode)
    (puts : PutsLeaves layout before leaves after root above)
    → puts.run ≡ node ∷ [] → Up layout (rows_of_nodes leaves) → Builds layout before (rows_of_nodes leaves) after root
builds_one layout before leaves after root above node puts alone up =
    let levels : List (List TreeNode) = (node ∷ []) ∷ [] in
    let became : Became layout before [] after levels =
    subst (λ (run : List TreeNode). Became layout before [] after (run ∷ [])) alone puts.became in
    let page : node.page ≡ root = sym (ap first_page alone) ∙ puts.first in
    let rows : rows_in_order levels ≡ rows_of_nodes leaves = sym (ap rows_of alone) ∙ puts.same in
    record {
      levels = levels;
      stands = inr (
        subst (λ (p : ℕ). p ≢ 0) page (fresh_page before after node.page [] became.moves),
        tree_after layout before after root [] levels (All-nil (λ (p : ℕ). (0 < p) × (p < length before))) became
            (node, refl, page) (subst (λ (r : List (List ℕ)). Up layout r) (sym rows) up),
      );
      in_order = rows;
      moves = became.moves;
    }

pub builds_more : (layout : RowLayout) (one two three : List (Option Sector)) (leaves : List Node)
    (first root : ℕ) (above : List (List ℕ)) (puts : PutsLeaves layout one leaves two first above)
    → ReplacesNodes layout Inner two [] three (node_with root above ∷ []) → Up layout (rows_of_nodes leaves)
    → Builds layout one (rows_of_nodes leaves) three root
builds_more layout one two three leaves first root above puts own up =
    let top = node_with root above in
    let levels : List (List TreeNode) = (top ∷ []) ∷ puts.run ∷ [] in
    let became : Became layout one [] three levels =
    new_root layout one two three [] puts.run [] top tt puts.became own (append-nil above ∙ sym puts.named) in
    record {
      levels = levels;
      stands = inr (
        fresh_page one three root (pages_of (puts.run ∷ [])) became.moves,
        tree_after layout one three root [] levels (All-nil (λ (p : ℕ). (0 < p) × (p < length one))) became
            (top, refl, refl) (subst (λ (r : List (List ℕ)). Up layout r) (sym puts.same) up),
      );
      in_order = puts.same;
      moves = became.moves;
    }

-- at most one leaf
pub builds_few : (layout : RowLayout) (before : List (Option Sector)) (leaves : List Node)
    (after : List (Option Sector)) (root : ℕ) (above : List (List ℕ)) (run : List TreeNode)
    (puts : PutsLeaves layout before leaves after root above)
    → puts.run ≡ run → length leaves ≤ 1 → Up layout (rows_of_nodes leaves)
    → Builds layout before (rows_of_nodes leaves) after root
builds_few layout before leaves after root above [] puts is few up =
    builds_none layout before leaves after root above puts is
builds_few layout before leaves after root above (node ∷ []) puts is few up =
    builds_one layout before leaves after root above node puts is up
builds_few layout before leaves after root above (one ∷ two ∷ more) puts is few up =
    let count = ap length is in absurd (omega (arith, count, puts.count, few))

-- Turn by turn: the next leaf from the right, and those after it.
pub next_leaves : (leaves : List Node) (turn : ℕ) (none : Node) → turn < length leaves
    → drop (length leaves - (turn + 1)) leaves
    ≡ slice_index_or leaves (length leaves - 1 - turn) none ∷ drop (length leaves - turn) leaves
next_leaves leaves turn none low =
    let place : length leaves - (turn + 1) ≡ length leaves - 1 - turn = omega arith in
    let next : length leaves - 1 - turn + 1 ≡ length leaves - turn = omega arith in
    let within : length leaves - 1 - turn < length leaves = omega arith in
    ap (λ (n : ℕ). drop n leaves) place ∙ drop_more leaves (length leaves - 1 - turn) none within
    ∙ ap (λ (n : ℕ). slice_index_or leaves (length leaves - 1 - turn) none ∷ drop n leaves) next

-- one of the leaves, with its rows' lengths
leaf_lengths : (layout : RowLayout) (leaf : Node) → IsLeafOf layout leaf → IsNode leaf
    → All (λ row. length row ≡ row_length layout Leaf) leaf.rows
leaf_lengths layout leaf is node =
    subst (λ (f : RowLayout). All (λ row. length row ≡ row_length f Leaf) leaf.rows) is.like
    (subst (λ (k : Kind). All (λ row. length row ≡ row_length leaf.layout k) leaf.rows) is.kind node.lengths)

leaf_replaces : (layout : RowLayout) (two three : List (Option Sector)) (leaf : Node) (page : ℕ)
    → IsLeafOf layout leaf → IsNode leaf
    → (All (λ row. length row ≡ row_length leaf.layout leaf.kind) leaf.rows → fewest leaf.kind ≤ length leaf.rows
    → ReplacesNodes leaf.layout leaf.kind two [] three (node_with page leaf.rows ∷ []))
    → ReplacesNodes layout Leaf two [] three (node_with page leaf.rows ∷ [])
leaf_replaces layout two three leaf page is node put =
    put_node layout Leaf leaf leaf.rows page two three (node_is layout Leaf leaf is.like is.kind) put
    (leaf_lengths layout leaf is node) is.some

pub leaf_put : (layout : RowLayout) (one two three : List (Option Sector)) (leaves : List Node) (leaf : Node)
    (turn : ℕ) (none : Node) (root page : ℕ) (above rows : List (List ℕ)) (key : List ℕ)
    → turn < length leaves → slice_index_or leaves (length leaves - 1 - turn) none ≡ leaf
    → IsLeafOf layout leaf → IsNode leaf
    → (All (λ row. length row ≡ row_length leaf.layout leaf.kind) leaf.rows → fewest leaf.kind ≤ length leaf.rows
    → ReplacesNodes leaf.layout leaf.kind two [] three (node_with page leaf.rows ∷ []))
    → key ≡ key_of leaf.layout (slice_index_or leaf.rows 0 [])
    → rows ≡ (key ++ big_bytes 4 page) ∷ above
    → PutsLeaves layout one (drop (length leaves - turn) leaves) two root above
    → PutsLeaves layout one (drop (length leaves - (turn + 1)) leaves) three page rows
leaf_put layout one two three leaves leaf turn none root page above rows key low here is node put key_is rows_are was =
    let rest = drop (length leaves - turn) leaves in
    let all : drop (length leaves - (turn + 1)) leaves ≡ leaf ∷ rest =
    next_leaves leaves turn none low ∙ ap (λ (n : Node). n ∷ rest) here in
    let named : row_of layout (node_with page leaf.rows) ∷ above ≡ rows =
    sym (rows_are ∙ ap (λ (k : List ℕ). (k ++ big_bytes 4 page) ∷ above) (key_is
    ∙ ap (λ (f : RowLayout). key_of f (slice_index_or leaf.rows 0 [])) is.like)) in
    subst (λ (l : List Node). PutsLeaves layout one l three page rows) (sym all)
    (subst (λ (r : List (List ℕ)). PutsLeaves layout one (leaf ∷ rest) three page r) named
    (one_more_put layout one two three leaf rest root page above was
    (leaf_replaces layout two three leaf page is node put)))

-- at the end all leaves are put
pub all_put : (leaves : List Node) (turn : ℕ) → length leaves ≤ turn → drop (length leaves - turn) leaves ≡ leaves
all_put leaves turn past =
    let none : length leaves - turn ≡ 0 = omega (arith, past) in ap (λ (n : ℕ). drop n leaves) none

-- the row of one more child
pub one_length : (layout : RowLayout) (key : List ℕ) (page : ℕ) (rows : List (List ℕ))
    → length key ≡ layout.key_length → All (λ row. length row ≡ row_length layout Inner) rows
    → All (λ row. length row ≡ row_length layout Inner) ((key ++ big_bytes 4 page) ∷ rows)
one_length layout key page rows is all =
    All-cons (λ (row : List ℕ). length row ≡ row_length layout Inner) (key ++ big_bytes 4 page) rows
    (omega (arith, length-append key (big_bytes 4 page), is)) all
