-- Rows that are divided between two pages.
use Rattle.std.proofs.Common.{◌≡◌, ◌≤◌, ◌-◌, ℕ, List, ◌++◌, length, take, drop, sym, ◌∙◌, ap, arith}
use Rattle.std.specs.List.{insert}
use Rattle.std.proofs.lemmas.List.{length-take-le, take-append-drop}
use Rattle.std.proofs.lemmas.List.Edits.{insert-append_left, insert-append_right}
use Rattle.std.proofs.Math.Nat.{le-div_iff_mul-le}
use Rattle.btree_pages.specs.declared.row_layout.RowLayout.{RowLayout}
use Rattle.btree_pages.specs.declared.row_layout.Kind.{Kind}
use Rattle.btree_pages.specs.declared.row_layout.Kind.TheVariants.{Leaf, Inner}
use Rattle.btree_pages.specs.RowLayouts.{row_length, capacity, IsRowLayout}

pub three_fit : (layout : RowLayout) (kind : Kind) → IsRowLayout layout → 3 ≤ capacity layout kind
three_fit layout Leaf is =
    (le-div_iff_mul-le {k = row_length layout Leaf} {x = 3} {y = 4080} (omega (arith, is.key))).1 is.leaf
three_fit layout Inner is =
    (le-div_iff_mul-le {k = row_length layout Inner} {x = 3} {y = 4080} (omega (arith, is.key))).1 is.inner

pub left_insert : {X : Type 0} (rows : List X) (at place : ℕ) (row : X) → at ≤ length rows → place ≤ at
    → insert (take at rows) place row ++ drop at rows ≡ insert rows place row
left_insert rows at place row low under =
    sym (insert-append_left (take at rows) (drop at rows) place row (omega (arith, under, length-take-le at rows low)))
    ∙ ap (λ xs. insert xs place row) (take-append-drop at rows)

pub right_insert : {X : Type 0} (rows : List X) (at place : ℕ) (row : X) → at ≤ length rows → at ≤ place
    → take at rows ++ insert (drop at rows) (place - at) row ≡ insert rows place row
right_insert rows at place row low over =
    sym (insert-append_right (take at rows) (drop at rows) at place row (length-take-le at rows low) over)
    ∙ ap (λ xs. insert xs place row) (take-append-drop at rows)
