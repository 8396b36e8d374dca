-- How many leaves are thin, where some of them became others.
use Rattle.std.proofs.Common.{◌≡◌, ⊎_elim, ◌<◌, ◌≤◌, ◌+◌, ◌*◌, ℕ, zero, suc, List, [], ◌∷◌, ◌++◌, length, length-append}
use Rattle.std.proofs.Common.{refl, sym, ◌∙◌, ap, subst, arith, Bool, true, false, cond}
use Rattle.std.specs.Prelude.{nat_lt}
use Rattle.std.specs.List.{All}
use Rattle.std.proofs.lemmas.Bool.{ltb-true, ltb-false, le-ltb}
use Rattle.std.proofs.Math.Nat.{suc-mul, add-mul}
use Rattle.std.proofs.lemmas.List.{append-nil, length-map}
use Rattle.std.proofs.lemmas.List.Sums.{sum_by-append, sum_by-cons}
use Rattle.std.proofs.lemmas.List.Elements.{All-head, All-tail}
use Rattle.btree_pages.specs.declared.row_layout.RowLayout.{RowLayout}
use Rattle.btree_pages.specs.declared.row_layout.Kind.TheVariants.{Leaf}
use Rattle.btree_pages.specs.RowLayouts.{capacity}
use Rattle.btree.specs.Tree.{TreeNode, rows_of, leaves_of, rows_in_order}
use Rattle.btree.specs.Entries.{entry_of}
use Rattle.btree.specs.Laws.{FewLeaves}
use Rattle.btree.specs.Outcomes.{rows_together}
use Rattle.btree.specs.Fills.{HasTooFewRows, is_thin, thin_leaves, IsEven}

thin_append : (layout : RowLayout) (a b : List TreeNode)
    → thin_leaves layout (a ++ b) ≡ thin_leaves layout a + thin_leaves layout b
thin_append layout a b = sum_by-append (λ (leaf : TreeNode). cond (is_thin layout leaf) 1 0) a b

thin_cons : (layout : RowLayout) (leaf : TreeNode) (more : List TreeNode)
    → thin_leaves layout (leaf ∷ more) ≡ cond (is_thin layout leaf) 1 0 + thin_leaves layout more
thin_cons layout leaf more = sum_by-cons (λ (leaf : TreeNode). cond (is_thin layout leaf) 1 0) leaf more

-- among other leaves
pub thin_around : (layout : RowLayout) (before run run' after : List TreeNode) → thin_leaves layout run' ≤ thin_leaves
    layout run → thin_leaves layout (before ++ (run' ++ after)) ≤ thin_leaves layout (before ++ (run ++ after))
thin_around layout before run run' after less =
    let new = thin_append layout before (run' ++ after) in
    let new_rest = thin_append layout run' after in
    let old = thin_append layout before (run ++ after) in
    let old_rest = thin_append layout run after in
    omega (arith, new, new_rest, old, old_rest, less)

-- a leaf that has enough rows
pub not_thin : (layout : RowLayout) (leaf : TreeNode) → (HasTooFewRows layout Leaf (length leaf.rows) → ⊥)
    → thin_leaves layout (leaf ∷ []) ≡ 0
not_thin layout leaf enough =
    let all : capacity layout Leaf ≤ 4 * length leaf.rows =
    not_below (4 * length leaf.rows) (capacity layout Leaf) enough in
    thin_cons layout leaf []
    ∙ ap (λ (b : Bool). cond b 1 0 + 0) (le-ltb (4 * length leaf.rows) (capacity layout Leaf) all)
  where
    not_below : (a b : ℕ) → (a < b → ⊥) → b ≤ a
    not_below a b not = omega (arith, not)

-- the more rows a leaf has, the less it is thin
less_thin : (some more room : ℕ) (is other : Bool) → some ≤ more → nat_lt more room ≡ is → nat_lt some room ≡ other
    → cond is 1 0 ≤ cond other 1 0
less_thin some more room false other less is_it other_it = omega arith
less_thin some more room true true less is_it other_it = omega arith
less_thin some more room true false less is_it other_it =
    absurd (omega (arith, less, ltb-true more room is_it, ltb-false some room other_it))

thin_by : (layout : RowLayout) (one other : TreeNode) → length other.rows ≤ length one.rows
    → cond (is_thin layout one) 1 0 ≤ cond (is_thin layout other) 1 0
thin_by layout one other less = less_thin (4 * length other.rows) (4 * length one.rows) (capacity layout Leaf)
    (is_thin layout one) (is_thin layout other) (omega (arith, less)) refl refl

-- one leaf that has the rows of both, of which one is as it was
thin_joined : (layout : RowLayout) (place : ℕ) (lone : List (List ℕ)) (left right one : TreeNode)
    → one.rows ≡ rows_together place lone left right
    → thin_leaves layout (one ∷ []) ≤ thin_leaves layout (left ∷ right ∷ [])
thin_joined layout zero lone left right one rows =
    let less = thin_by layout one right (omega (arith, ap length rows, length-append lone right.rows)) in
    omega (arith, less, thin_cons layout one [], thin_cons layout left (right ∷ []), thin_cons layout right [])
thin_joined layout (suc place) lone left right one rows =
    let less = thin_by layout one left (omega (arith, ap length rows, length-append left.rows lone)) in
    omega (arith, less, thin_cons layout one [], thin_cons layout left (right ∷ []), thin_cons layout right [])

-- leaves that have half of the rows that they have room for
thin_halves : (layout : RowLayout) (run : List TreeNode) → All (λ node. capacity layout Leaf ≤ 2 * length node.rows) run
    → thin_leaves layout run ≡ 0
thin_halves layout [] halves = refl
thin_halves layout (leaf ∷ more) halves =
    let half = All-head (λ (node : TreeNode). capacity layout Leaf ≤ 2 * length node.rows) leaf more halves in
    let rest = thin_halves layout more
    (All-tail (λ (node : TreeNode). capacity layout Leaf ≤ 2 * length node.rows) leaf more halves) in
    let here = thin_cons layout leaf more ∙ ap (λ (b : Bool). cond b 1 0 + thin_leaves layout more)
    (le-ltb (4 * length leaf.rows) (capacity layout Leaf) (omega (arith, half))) in
    omega (arith, here, rest)

thin_one : (layout : RowLayout) (place : ℕ) (lone : List (List ℕ)) (left right : TreeNode) (run : List TreeNode)
    → length run ≡ 1 → rows_of run ≡ rows_together place lone left right
    → thin_leaves layout run ≤ thin_leaves layout (left ∷ right ∷ [])
thin_one layout place lone left right [] one rows = absurd (omega (arith, one))
thin_one layout place lone left right (leaf ∷ []) one rows =
    thin_joined layout place lone left right leaf (sym (append-nil leaf.rows) ∙ rows)
thin_one layout place lone left right (leaf ∷ other ∷ more) one rows = absurd (omega (arith, one))

-- two neighbours that were joined, or share their rows
pub even_thin : (layout : RowLayout) (place : ℕ) (lone : List (List ℕ)) (left right : TreeNode) (run : List TreeNode)
    → IsEven layout Leaf run → rows_of run ≡ rows_together place lone left right
    → thin_leaves layout run ≤ thin_leaves layout (left ∷ right ∷ [])
even_thin layout place lone left right run even rows =
    ⊎_elim
    (λ one. thin_one layout place lone left right run one rows)
    (λ halves. omega (arith, thin_halves layout run halves))
    even

-- a leaf that isn't thin has a quarter of the rows that it has room for
leaf_fills : (rows room : ℕ) (is : Bool) → nat_lt (4 * rows) room ≡ is → room ≤ 4 * rows + cond is 1 0 * room
leaf_fills rows room true is = omega arith
leaf_fills rows room false is = omega (arith, ltb-false (4 * rows) room is)

leaves_fill : (layout : RowLayout) (leaves : List TreeNode) → length leaves * capacity layout Leaf ≤ 4 * length
    (rows_of leaves) + thin_leaves layout leaves * capacity layout Leaf
leaves_fill layout [] = omega arith
leaves_fill layout (leaf ∷ more) =
    let room = capacity layout Leaf in
    let here = leaf_fills (length leaf.rows) room (is_thin layout leaf) refl in
    let rest = leaves_fill layout more in
    let rows = length-append leaf.rows (rows_of more) in
    let thin = ap (λ (n : ℕ). n * room) (thin_cons layout leaf more)
    ∙ add-mul (cond (is_thin layout leaf) 1 0) (thin_leaves layout more) room in
    let count = suc-mul (length more) room in
    omega (arith, here, rest, rows, thin, count)

pub few_leaves : FewLeaves
few_leaves layout levels = subst (λ (n : ℕ). length (leaves_of levels) * capacity layout Leaf
    ≤ 4 * n + thin_leaves layout (leaves_of levels) * capacity layout Leaf)
    (sym (length-map (rows_in_order levels) (entry_of layout))) (leaves_fill layout (leaves_of levels))
