-- No key is below one of zeros.
use Rattle.std.proofs.Common.{◌≡◌, ◌≤◌, ◌<◌, ℕ, zero, suc, Bool, false, List, [], ◌∷◌, length, take, refl, sym, ap}
use Rattle.std.proofs.Common.{subst, arith, inl, inr}
use Rattle.std.specs.Prelude.{replicate, if◌then◌else◌, Option, Some}
use Rattle.std.specs.List.{All}
use Rattle.std.specs.declared.cmp.Ordering.{Ordering}
use Rattle.std.specs.declared.cmp.Ordering.TheVariants.{Less, Equal, Greater}
use Rattle.std.specs.Ordering.{is_lt, nat_cmp, ordering_then}
use Rattle.std.proofs.lemmas.Cmp.{ranked}
use Rattle.std.proofs.lemmas.List.{length-take-le}
use Rattle.std.proofs.lemmas.List.Elements.{All-head, All-nil, All-append, All-tail}
use Rattle.station.specs.Disk.{Sector}
use Rattle.btree_pages.specs.declared.row_layout.RowLayout.{RowLayout}
use Rattle.btree_pages.specs.declared.row_layout.Kind.TheVariants.{Leaf}
use Rattle.btree_pages.specs.Keys.{key_cmp, key_of, Precedes}
use Rattle.btree.specs.Tree.{TreeNode, rows_of, rows_in_order, leaves_of, AreJoinedLevels, IsTreeOrEmpty}
use Rattle.btree.specs.Entries.{entry_of, entries_of_rows, entries_of, first_from, first_entry}
use Rattle.btree.proofs.Levels.{HasRows, all_have_rows}

not_below_from : (x : ℕ) (o more : Ordering) → o ≡ nat_cmp x 0 → ordering_then o more ≡ Less → (more ≡ Less → ⊥) → ⊥
not_below_from x Less more is below rest = let low : x < 0 = ranked x 0 Less is in omega arith
not_below_from x Equal more is below rest = rest below
not_below_from x Greater more is below rest = cc

pub not_below_zeros : (key : List ℕ) (n : ℕ) → n ≤ length key → Precedes key (replicate n 0) → ⊥
not_below_zeros [] zero long below = cc
not_below_zeros (x ∷ key) zero long below = cc
not_below_zeros [] (suc n) long below = absurd (omega arith)
not_below_zeros (x ∷ key) (suc n) long below =
    not_below_from x (nat_cmp x 0) (key_cmp key (replicate n 0)) refl below (not_below_zeros key n (omega arith))

not_less : (o : Ordering) → (o ≡ Less → ⊥) → is_lt o ≡ false
not_less Less never = absurd (never refl)
not_less Equal never = refl
not_less Greater never = refl

from_zeros : (layout : RowLayout) (rows : List (List ℕ)) → All (λ row. layout.key_length ≤ length row) rows → first_from
    (entries_of_rows layout rows) (replicate layout.key_length 0) ≡ first_entry (entries_of_rows layout rows)
from_zeros layout [] long = refl
from_zeros layout (row ∷ rows) long =
    let here : layout.key_length ≤ length row = All-head (λ (r : List ℕ). layout.key_length ≤ length r) row rows long in
    let count : length (key_of layout row) ≡ layout.key_length = length-take-le layout.key_length row here in
    let high : is_lt (key_cmp (key_of layout row) (replicate layout.key_length 0)) ≡ false =
    not_less (key_cmp (key_of layout row) (replicate layout.key_length 0))
    (not_below_zeros (key_of layout row) layout.key_length (omega arith)) in
    ap (λ (b : Bool). if b then first_from (entries_of_rows layout rows) (replicate layout.key_length 0)
    else Some (entry_of layout row)) high

rows_long : (layout : RowLayout) (nodes : List TreeNode) → All (HasRows layout) nodes
    → All (λ row. layout.key_length ≤ length row) (rows_of nodes)
rows_long layout [] all = All-nil (λ row. layout.key_length ≤ length row)
rows_long layout (node ∷ nodes) all =
    All-append (λ (row : List ℕ). layout.key_length ≤ length row) node.rows (rows_of nodes) (All-head (HasRows layout)
    node nodes all).lengths (rows_long layout nodes (All-tail (HasRows layout) node nodes all))

leaves_have_rows : (layout : RowLayout) (pages : List (Option Sector)) (levels : List (List TreeNode))
    → AreJoinedLevels layout pages levels → All (HasRows layout) (leaves_of levels)
leaves_have_rows layout pages [] joined = absurd joined
leaves_have_rows layout pages (leaves ∷ []) joined = all_have_rows layout pages Leaf leaves joined
leaves_have_rows layout pages (upper ∷ lower ∷ more) joined = leaves_have_rows layout pages (lower ∷ more) joined.2

pub first_from_zeros : (layout : RowLayout) (pages : List (Option Sector)) (root : ℕ) (levels : List (List TreeNode))
    → IsTreeOrEmpty layout pages root levels
    → first_from (entries_of layout levels) (replicate layout.key_length 0) ≡ first_entry (entries_of layout levels)
first_from_zeros layout pages root levels (inl none) =
    let P : List (List TreeNode) → Type 0 =
    λ l. first_from (entries_of layout l) (replicate layout.key_length 0) ≡ first_entry (entries_of layout l) in
    subst P (sym none.1) refl
first_from_zeros layout pages root levels (inr tree) = from_zeros layout (rows_in_order levels)
    (rows_long layout (leaves_of levels) (leaves_have_rows layout pages levels tree.1.joined))

pub take_zeros : (n k : ℕ) → k ≤ n → take {A = ℕ} k (replicate {A = ℕ} n 0) ≡ replicate {A = ℕ} k 0
take_zeros n zero low = refl
take_zeros zero (suc k) low = absurd (omega arith)
take_zeros (suc n) (suc k) low = ap (λ (xs : List ℕ). 0 ∷ xs) (take_zeros n k (omega arith))
