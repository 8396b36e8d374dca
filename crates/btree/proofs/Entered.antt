-- The entries, after a row came to its place, went, or got another value.
use Rattle.std.proofs.Common.{◌≡◌, ⊎_elim, ℕ, List, [], ◌∷◌, ◌++◌, map, refl, sym, ◌∙◌, ap, subst}
use Rattle.std.specs.Prelude.{slice_index_or, if◌then◌else◌}
use Rattle.std.specs.Ordering.{is_lt, is_eq}
use Rattle.std.specs.declared.cmp.Ordering.{Ordering}
use Rattle.std.proofs.lemmas.Cmp.{tied_itself}
use Rattle.std.proofs.lemmas.List.{map-append}
use Rattle.std.proofs.lemmas.List.Elements.{All-append, All-head, All-tail, All-cons, All-nil}
use Rattle.btree_pages.specs.declared.row_layout.RowLayout.{RowLayout}
use Rattle.btree_pages.specs.Keys.{key_cmp, key_of, keys_of, Precedes, Ascend, AllBelow, AllAbove}
use Rattle.btree.specs.Tree.{TreeNode, rows_of}
use Rattle.btree.specs.Path.{LevelZipper, IsSide}
use Rattle.btree.specs.Entries.{entry_of, with_new_entry, with_value, without_entry}
use Rattle.btree.proofs.Order.{key_order, greater_is, all_left, all_right, Up, up_cons, up_head, up_tail}
use Rattle.btree.proofs.Order.{all_below_first, all_below_weaker}

pub entry_comes : (layout : RowLayout) (left right : List (List ℕ)) (row : List ℕ)
    → AllBelow layout (key_of layout row) left → AllAbove layout (key_of layout row) right
    → map (entry_of layout) (left ++ row ∷ right)
    ≡ with_new_entry (map (entry_of layout) (left ++ right)) (entry_of layout row)
entry_comes layout [] [] row below above = refl
entry_comes layout [] (r ∷ right) row below above =
    sym (ap (λ (o : Ordering). if is_lt o then entry_of layout r ∷ with_new_entry (map (entry_of layout) right)
    (entry_of layout row) else entry_of layout row ∷ entry_of layout r ∷ map (entry_of layout) right)
    (greater_is (key_of layout r) (key_of layout row)
    (All-head (λ x. Precedes (key_of layout row) (key_of layout x)) r right above)))
entry_comes layout (l ∷ left) right row below above =
    ap (λ x. entry_of layout l ∷ x) (entry_comes layout left right row
    (All-tail (λ x. Precedes (key_of layout x) (key_of layout row)) l left below) above)
    ∙ sym
    (ap (λ (o : Ordering). if is_lt o then entry_of layout l ∷ with_new_entry (map (entry_of layout) (left ++ right))
    (entry_of layout row) else entry_of layout row ∷ entry_of layout l ∷ map (entry_of layout) (left ++ right))
    (All-head (λ x. Precedes (key_of layout x) (key_of layout row)) l left below))

pub entry_goes : (layout : RowLayout) (left right : List (List ℕ)) (row : List ℕ)
    → AllBelow layout (key_of layout row) left
    → map (entry_of layout) (left ++ right)
    ≡ without_entry (map (entry_of layout) (left ++ row ∷ right)) (key_of layout row)
entry_goes layout [] right row below =
    sym (ap (λ (o : Ordering). if is_eq o then map (entry_of layout) right else entry_of layout row
    ∷ without_entry (map (entry_of layout) right) (key_of layout row)) (tied_itself key_order (key_of layout row)))
entry_goes layout (l ∷ left) right row below =
    ap (λ x. entry_of layout l ∷ x)
    (entry_goes layout left right row (All-tail (λ x. Precedes (key_of layout x) (key_of layout row)) l left below))
    ∙ sym (ap (λ (o : Ordering). if is_eq o then map (entry_of layout) (left ++ row ∷ right)
    else entry_of layout l ∷ without_entry (map (entry_of layout) (left ++ row ∷ right)) (key_of layout row))
    (All-head (λ x. Precedes (key_of layout x) (key_of layout row)) l left below))

pub entry_changes : (layout : RowLayout) (left right : List (List ℕ)) (row new : List ℕ)
    → key_of layout row ≡ key_of layout new → AllBelow layout (key_of layout new) left
    → map (entry_of layout) (left ++ new ∷ right)
    ≡ with_value (map (entry_of layout) (left ++ row ∷ right)) (entry_of layout new)
entry_changes layout [] right row new same below =
    sym (ap (λ (o : Ordering). if is_eq o then entry_of layout new ∷ map (entry_of layout) right
    else entry_of layout row ∷ with_value (map (entry_of layout) right) (entry_of layout new))
    (ap (λ k. key_cmp k (key_of layout new)) same ∙ tied_itself key_order (key_of layout new)))
entry_changes layout (l ∷ left) right row new same below =
    ap (λ x. entry_of layout l ∷ x) (entry_changes layout left right row new same
    (All-tail (λ x. Precedes (key_of layout x) (key_of layout new)) l left below))
    ∙ sym (ap (λ (o : Ordering). if is_eq o then entry_of layout new ∷ map (entry_of layout) (left ++ row ∷ right)
    else entry_of layout l ∷ with_value (map (entry_of layout) (left ++ row ∷ right)) (entry_of layout new))
    (All-head (λ x. Precedes (key_of layout x) (key_of layout new)) l left below))

pub up_comes : (layout : RowLayout) (left right : List (List ℕ)) (row : List ℕ)
    → AllBelow layout (key_of layout row) left → AllAbove layout (key_of layout row) right → Up layout (left ++ right)
    → Up layout (left ++ row ∷ right)
up_comes layout [] right row below above up = up_cons layout row right above up
up_comes layout (l ∷ left) right row below above up =
    let higher = up_head layout l (left ++ right) up in
    up_cons layout l (left ++ row ∷ right)
    (All-append (λ x. Precedes (key_of layout l) (key_of layout x)) left (row ∷ right)
    (all_left (λ x. Precedes (key_of layout l) (key_of layout x)) left right higher)
    (All-cons (λ x. Precedes (key_of layout l) (key_of layout x))
    row right (All-head (λ x. Precedes (key_of layout x) (key_of layout row)) l left below)
    (all_right (λ x. Precedes (key_of layout l) (key_of layout x)) left right higher)))
    (up_comes layout left right row (All-tail (λ x. Precedes (key_of layout x) (key_of layout row)) l left below) above
    (up_tail layout l (left ++ right) up))

pub up_goes : (layout : RowLayout) (left right : List (List ℕ)) (row : List ℕ) → Up layout (left ++ row ∷ right)
    → Up layout (left ++ right)
up_goes layout [] right row up = up_tail layout row right up
up_goes layout (l ∷ left) right row up =
    let higher = up_head layout l (left ++ row ∷ right) up in
    up_cons layout l (left ++ right)
    (All-append (λ x. Precedes (key_of layout l) (key_of layout x)) left right
    (all_left (λ x. Precedes (key_of layout l) (key_of layout x)) left (row ∷ right) higher)
    (All-tail (λ x. Precedes (key_of layout l) (key_of layout x)) row right
    (all_right (λ x. Precedes (key_of layout l) (key_of layout x)) left (row ∷ right) higher)))
    (up_goes layout left right row (up_tail layout l (left ++ row ∷ right) up))

pub up_changes : (layout : RowLayout) (left right : List (List ℕ)) (row new : List ℕ)
    → key_of layout row ≡ key_of layout new → Up layout (left ++ row ∷ right) → Up layout (left ++ new ∷ right)
up_changes layout left right row new same up =
    subst Ascend (map-append (key_of layout) left (row ∷ right) ∙ ap (λ k.
    keys_of layout left ++ k ∷ keys_of layout right) same ∙ sym (map-append (key_of layout) left (new ∷ right))) up

-- All rows to the left of a leaf are below a key that belongs there.
pub left_below : (layout : RowLayout) (key : List ℕ) (spot : LevelZipper) (row : List ℕ) (rows : List (List ℕ))
    → IsSide layout key spot
    → spot.node.rows ≡ row ∷ rows → Up layout (rows_of spot.before ++ (spot.node.rows ++ rows_of spot.after))
    → AllBelow layout key (rows_of spot.before)
left_below layout key spot row rows side some up =
    ⊎_elim
    (λ none. subst (λ (nodes : List TreeNode). AllBelow layout key (rows_of nodes)) (sym none)
    (All-nil (λ r. Precedes (key_of layout r) key)))
    (λ not_above. all_below_weaker layout (key_of layout row) key (rows_of spot.before)
    (λ above. not_above
    (subst (λ (x : List (List ℕ)). Precedes key (key_of layout (slice_index_or x 0 []))) (sym some) above))
    (all_below_first layout (rows_of spot.before) row (rows ++ rows_of spot.after)
    (subst (λ x. Up layout (rows_of spot.before ++ (x ++ rows_of spot.after))) some up)))
    side.before
