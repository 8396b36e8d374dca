-- Two neighbours that a call joins, or that share their rows.
use Rattle.std.proofs.Common.{◌≡◌, ◌≤◌, ◌<◌, ◌+◌, ◌-◌, ◌*◌, ◌/◌, ◌++◌, ℕ, List, [], ◌∷◌, length, length-append, map}
use Rattle.std.proofs.Common.{take}
use Rattle.std.proofs.lemmas.List.{length-take-le, length-drop, take-append-drop}
use Rattle.std.proofs.Common.{append_assoc, drop, sym, ◌∙◌, ap, subst, arith}
use Rattle.std.specs.Prelude.{nat_lt, slice_index_or, IfSome, IfErr, Result, Ok, Err}
use Rattle.byteorder.specs.Endian.{big_bytes}
use Rattle.station.specs.Disk.{Sector}
use Rattle.pages.specs.declared.error.PagesError.{PagesError}
use Rattle.pages.specs.declared.error.PagesError.TheVariants.{Damaged}
use Rattle.pages.specs.declared.page_map.PageMap.{PageMap}
use Rattle.btree_pages.specs.declared.row_layout.RowLayout.{RowLayout}
use Rattle.btree_pages.specs.declared.row_layout.Kind.TheVariants.{Inner}
use Rattle.btree_pages.specs.Keys.{rest_of}
use Rattle.btree_pages.specs.Edits.{with_rows}
use Rattle.btree_pages.specs.Node.{Node}
use Rattle.btree.specs.declared.removal_outcome.Child.{Child}
use Rattle.btree.specs.declared.removal_outcome.RemovalOutcome.{RemovalOutcome}
use Rattle.btree.specs.declared.split_result.SplitResult.{SplitResult}
use Rattle.btree.specs.Tree.{TreeNode, row_of, rows_of}
use Rattle.btree.specs.Fills.{IsEven}
use Rattle.btree.specs.Moves.{ReplacesNodes}
use Rattle.btree.specs.Nodes.{SameNode}
use Rattle.btree.specs.Propagates.{node_with, run_of}
use Rattle.btree.specs.Changes.{pages_of_map}
use Rattle.btree.specs.Outcomes.{AreTwo, ArePair, IsJoined, Joins}
use Rattle.btree.specs.Puts.{PutsBack, PutsTogether}
use Rattle.btree.specs.Refusals.{IsPutRefusal, IsRestRefusal}
use Rattle.btree.proofs.Passing.{never_ok, put_is_rest, put_not_damaged}
use Rattle.btree.proofs.Rebalancing.{Learns, joins_so}

-- What is ensured of two neighbours that are joined.
pub record AreJoined (old mid : PageMap) (left right : Child) (joined : SplitResult) : Type 0 where
  pub rows : rows_of (run_of joined) ≡ left.node.rows ++ right.node.rows
  pub pages : PutsTogether old mid left right joined
  pub is_joined : IsJoined left.node.layout left.page right.page joined
  pub even : IsEven left.node.layout left.node.kind (run_of joined)

-- What is ensured of the page above them: its rows from a place on name what they became.
pub record NamesPair (node new : Node) (place : ℕ) (joined : SplitResult) : Type 0 where
  pub like : SameNode node new
  pub rows : rest_of node.layout (slice_index_or node.rows place []) ≡ big_bytes 4 joined.page
      → IfSome joined.right (λ right. rest_of node.layout (slice_index_or node.rows (place + 1) []) ≡ big_bytes 4
      right.page)
      → new.rows ≡ take place node.rows ++ (map (row_of node.layout) (run_of joined) ++ drop (place + 2) node.rows)

-- The nodes on the pages of the two children became others.
pair_replaced : (old mid : PageMap) (image : List Sector) (layout : RowLayout) (page place : ℕ) (rows : List (List ℕ))
    (left right : Child) (one two : TreeNode) (joined : SplitResult)
    → ArePair layout (pages_of_map old image) page rows place one two → one.page ≡ left.page → two.page ≡ right.page
    → PutsTogether old mid left right joined → ReplacesNodes left.node.layout left.node.kind (pages_of_map old image)
    (one ∷ two ∷ []) (pages_of_map mid image) (run_of joined)
pair_replaced old mid image layout page place rows left right one two joined pair one_is two_is together =
    let before = pages_of_map old image in
    let after = pages_of_map mid image in
    let both : AreTwo before left.page right.page = subst (λ (q : ℕ). AreTwo before left.page q) two_is
    (subst (λ (q : ℕ). AreTwo before q two.page) one_is pair.two) in
    subst (λ (q : ℕ). ReplacesNodes left.node.layout left.node.kind before (one ∷ node_with q two.rows ∷ []) after
    (run_of joined)) (sym two_is)
    (subst (λ (q : ℕ). ReplacesNodes left.node.layout left.node.kind before
    (node_with q one.rows ∷ node_with right.page two.rows ∷ []) after (run_of joined)) (sym one_is)
    (together image one.rows two.rows both))

pair_learns : (old mid : PageMap) (image : List Sector) (page place : ℕ) (node new : Node) (left right : Child)
    (one two : TreeNode) (joined : SplitResult) → left.node.layout ≡ node.layout → node.kind ≡ Inner
    → ArePair node.layout (pages_of_map old image) page node.rows place one two → one.page ≡ left.page
    → two.page ≡ right.page → AreJoined old mid left right joined → NamesPair node new place joined
    → Learns left.node.kind (pages_of_map old image) (pages_of_map mid image) place node new one two joined
pair_learns old mid image page place node new left right one two joined layout_is inner pair one_is two_is are names =
    let kind = left.node.kind in
    let is = are.is_joined in
    record {
      inner = inner;
      page_is = is.page_is ∙ sym one_is;
      beside_is = subst (λ (q : ℕ). IfSome joined.right (λ other. other.page ≡ q)) (sym two_is) is.beside_is;
      pair = subst (λ (layout : RowLayout). ReplacesNodes layout kind (pages_of_map old image) (one ∷ two ∷ [])
          (pages_of_map mid image) (run_of joined)) layout_is
          (pair_replaced old mid image node.layout page place node.rows left right one two joined pair one_is two_is
          are.pages);
      even = subst (λ (layout : RowLayout). IsEven layout kind (run_of joined)) layout_is are.even;
      like = names.like;
      names = names.rows;
    }

-- The two are joined, and the page above them is put back with rows that name what they became.
pub pair_joins : (old mid after : PageMap) (image : List Sector) (page place : ℕ) (node new : Node) (left right : Child)
    (one two : TreeNode) (joined : SplitResult) (outcome : RemovalOutcome) → left.node.layout ≡ node.layout
    → node.kind ≡ Inner → ArePair node.layout (pages_of_map old image) page node.rows place one two
    → one.page ≡ left.page → two.page ≡ right.page → AreJoined old mid left right joined
    → NamesPair node new place joined → PutsBack mid after page new (nat_lt 0 place) outcome
    → Joins node.layout left.node.kind (pages_of_map old image) (pages_of_map after image) page node.rows place
    (left.node.rows ++ right.node.rows) one two outcome
pair_joins old mid after image page place node new left right one two joined outcome layout_is inner pair one_is two_is
    are names back =
    subst (λ (rows : List (List ℕ)). Joins node.layout left.node.kind (pages_of_map old image)
    (pages_of_map after image) page node.rows place rows one two outcome) are.rows
    (joins_so left.node.kind (pages_of_map old image) (pages_of_map mid image) (pages_of_map after image) page place
    node new one two joined outcome pair
    (pair_learns old mid image page place node new left right one two joined layout_is inner pair one_is two_is are
    names) (back image node.rows))

-- Rows that two nodes share evenly are halved.
pub halved : (lower upper left right : List (List ℕ)) (n : ℕ) → lower ++ upper ≡ left ++ right
    → length lower ≤ length upper + 1 → length upper ≤ length lower + 1 → 2 * n ≤ length left + length right
    → (n ≤ length lower) × (n ≤ length upper)
halved lower upper left right n same low high many =
    let count : length lower + length upper ≡ length left + length right =
    sym (length-append lower upper) ∙ ap length same ∙ length-append left right in
    (omega (arith, count, low, high, many), omega (arith, count, low, high, many))

-- The lower rows of a node come after those of another one, and so nothing is lost,
pub joined_cut : (place : ℕ) (other node low rest all : Node) → low ≡ with_rows node (take place node.rows)
    → rest ≡ with_rows node (drop place node.rows) → all ≡ with_rows other (other.rows ++ low.rows)
    → all.rows ++ rest.rows ≡ other.rows ++ node.rows
joined_cut place other node low rest all low_is rest_is all_is =
    ap (λ (n : Node). n.rows ++ rest.rows) all_is
    ∙ ap (λ (n : Node). (other.rows ++ n.rows) ++ rest.rows) low_is
    ∙ ap (λ (n : Node). (other.rows ++ take place node.rows) ++ n.rows) rest_is
    ∙ append_assoc other.rows (take place node.rows) (drop place node.rows)
    ∙ ap (λ rows. other.rows ++ rows) (take-append-drop place node.rows)

-- and half of what it has more makes the two even.
pub even_cut : (one two : ℕ) (other node low rest all : Node) → one ≡ length other.rows → two ≡ length node.rows
    → one < two → low ≡ with_rows node (take ((two - one) / 2) node.rows)
    → rest ≡ with_rows node (drop ((two - one) / 2) node.rows) → all ≡ with_rows other (other.rows ++ low.rows)
    → (length all.rows ≤ length rest.rows + 1) × (length rest.rows ≤ length all.rows + 1)
even_cut one two other node low rest all one_is two_is less low_is rest_is all_is =
    let place = (two - one) / 2 in
    let within : place ≤ length node.rows = omega (arith, two_is) in
    let taken = length-take-le place node.rows within in
    let all_count : length all.rows ≡ length other.rows + length (take place node.rows) =
    ap (λ (n : Node). length n.rows) all_is ∙ length-append other.rows low.rows
    ∙ ap (λ (n : Node). length other.rows + length n.rows) low_is in
    let rest_count : length rest.rows ≡ length node.rows - place =
    ap (λ (n : Node). length n.rows) rest_is ∙ length-drop place node.rows in (
      omega (arith, one_is, two_is, less, taken, all_count, rest_count),
      omega (arith, one_is, two_is, less, taken, all_count, rest_count),
    )

-- A call that puts pages back is refused as a call that rebalances is, and never as damaged.
pub put_then_rest : {T : Type 0} (r : Result T PagesError) → IfErr r IsPutRefusal → IfErr r IsRestRefusal
put_then_rest (Ok x) why = tt
put_then_rest (Err e) why = put_is_rest e why

pub put_undamaged : {T A : Type 0} (r : Result T PagesError) → IfErr r IsPutRefusal → r ≡ Err Damaged → A
put_undamaged (Ok x) why is = never_ok is
put_undamaged (Err e) why is = put_not_damaged e why is
