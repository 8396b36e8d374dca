-- What a page becomes that rows leave.
use Rattle.std.proofs.Common.{◌≡◌, ◌≢◌, inr, ⊎_elim, ◌<◌, ◌≤◌, ◌+◌, ℕ, suc, List, [], ◌∷◌, ◌++◌, length, length-set}
use Rattle.std.proofs.Common.{take, drop, set, sym, ◌∙◌, ap, subst, arith, Bool, false, true, get_or-set_same}
use Rattle.std.proofs.Common.{get_or-set_other}
use Rattle.std.specs.Prelude.{Contains, nat_lt, Option, None, slice_index_or}
use Rattle.std.proofs.lemmas.Bool.{ltb-true}
use Rattle.std.proofs.lemmas.List.Elements.{All-nil}
use Rattle.byteorder.specs.Endian.{big_bytes}
use Rattle.station.specs.Disk.{Sector}
use Rattle.btree_pages.specs.declared.row_layout.RowLayout.{RowLayout}
use Rattle.btree_pages.specs.declared.row_layout.Kind.{Kind}
use Rattle.btree_pages.specs.declared.row_layout.Kind.TheVariants.{Leaf, Inner}
use Rattle.btree_pages.specs.Keys.{key_of, rest_of}
use Rattle.btree_pages.specs.Node.{Node}
use Rattle.btree_pages.specs.Edits.{node_without_row, with_key, with_rows}
use Rattle.btree.specs.declared.removal_outcome.RemovalOutcome.{RemovalOutcome}
use Rattle.btree.specs.declared.removal_outcome.Child.{Child}
use Rattle.btree.specs.Tree.{least_key, row_of, fewest, IsOnPage}
use Rattle.btree.specs.Moves.{ReplacesNodes}
use Rattle.btree.specs.Propagates.{node_with}
use Rattle.btree.specs.Changes.{IsIn}
use Rattle.btree.specs.Outcomes.{IsRemovalResult}
use Rattle.btree.specs.Fills.{HasTooFewRows}
use Rattle.btree.proofs.Runs.{in_none, in_cases, in_head}
use Rattle.btree.proofs.Writes.{is_low}
use Rattle.btree.proofs.ParentUpdates.{named_row, first_same}

-- a page in the map has a number that the map has room for
pub has_room : (pages : List (Option Sector)) (count page : ℕ) → length pages ≡ count → 0 < page → IsIn pages page
    → (0 < page) × (page < count)
has_room pages count page is some is_in = (some, omega (arith, is_low pages page is_in, is))

-- a page that leaves the map
pub write_none : (layout : RowLayout) (kind : Kind) (pages after : List (Option Sector)) (page : ℕ)
    (old : List (List ℕ)) → after ≡ set pages page None → page < length pages
    → ReplacesNodes layout kind pages (node_with page old ∷ []) after []
write_none layout kind pages after page old is low = record {
  stand = All-nil (IsOnPage layout after kind);
  once = tt;
  moves = record {
    count = ap length is ∙ length-set pages page None;
    others = λ q was new. ap (λ l. slice_index_or l q None) is ∙ get_or-set_other pages page q None None
        (λ same. was (subst (λ x. Contains (page ∷ []) x) (sym same) (in_head page [])));
    joins = λ q has. absurd (in_none q has);
    leaves = λ q has. ⊎_elim
        (λ same. inr (ap (λ x. slice_index_or after x None) same ∙ ap (λ l. slice_index_or l page None) is
        ∙ get_or-set_same pages page None None low))
        (λ past. absurd (in_none q past))
        (in_cases page [] q has);
  };
}

-- some rows that aren't too few are enough
pub enough_left : (layout : RowLayout) (kind : Kind) (count : ℕ) → count ≢ 0 → (HasTooFewRows layout kind count → ⊥)
    → fewest kind ≤ count
enough_left layout Leaf count some more = omega (arith, some)
enough_left layout Inner count some more = omega (arith, more)

-- A node's rows became others from a place on. What became of its page, to which it is told whether a row stands before
-- that place.
pub front_fares : (before after : List (Option Sector)) (page place : ℕ) (node new : Node) (more : List (List ℕ))
    (kind : Kind) (outcome : RemovalOutcome) → new ≡ with_rows node (take place node.rows ++ more)
    → node.kind ≡ kind → place < length node.rows
    → ((nat_lt 0 place ≡ true → least_key new.layout (node_with page new.rows) ≡ least_key new.layout
    (node_with page node.rows)) → IsRemovalResult new.layout new.kind before after page node.rows new.rows outcome)
    → IsRemovalResult node.layout kind before after page node.rows (take place node.rows ++ more) outcome
front_fares before after page place node new more kind outcome is kind_is low put =
    let rows = take place node.rows ++ more in
    let same : nat_lt 0 place ≡ true
    → least_key new.layout (node_with page new.rows) ≡ least_key new.layout (node_with page node.rows) =
    λ some. ap (λ (n : Node). key_of new.layout (slice_index_or n.rows 0 [])) is
    ∙ ap (key_of new.layout) (first_same place node.rows more (ltb-true 0 place some) low) in
    subst (λ (k : Kind). IsRemovalResult node.layout k before after page node.rows rows outcome) kind_is
    (subst (λ (n : Node). IsRemovalResult n.layout n.kind before after page node.rows n.rows outcome) is (put same))

pub removed_rows : (node new : Node) (place : ℕ) → new ≡ node_without_row node place
    → new ≡ with_rows node (take place node.rows ++ drop (place + 1) node.rows)
removed_rows node new place is = let next : suc place ≡ place + 1 =
    omega arith in is ∙ ap (λ (n : ℕ). with_rows node (take place node.rows ++ drop n node.rows)) next

-- the row of a child got the child's least key
pub renamed_rows : (node new : Node) (place : ℕ) (key : List ℕ) (child : Child) → new ≡ with_key node place key
    → place < length node.rows → child.node.layout ≡ node.layout
    → key ≡ key_of child.node.layout (slice_index_or child.node.rows 0 [])
    → rest_of node.layout (slice_index_or node.rows place []) ≡ big_bytes 4 child.page
    → new ≡ with_rows node
    (take place node.rows ++ (row_of node.layout (node_with child.page child.node.rows) ∷ drop (place + 1) node.rows))
renamed_rows node new place key child is low layout_is key_is names =
    is
    ∙ ap (λ (rows : List (List ℕ)). with_rows node rows) (named_row node.layout node.rows place key child.page low names
    ∙ ap (λ (k : List ℕ). take place node.rows ++ ((k ++ big_bytes 4 child.page) ∷ drop (place + 1) node.rows))
    (key_is ∙ ap (λ (layout : RowLayout). key_of layout (slice_index_or child.node.rows 0 [])) layout_is))

pub true_or_false : {b : Bool} → b ≡ true → b ≡ false → ⊥
true_or_false is other = cc
