-- What a search in a leaf tells of all entries.
use Rattle.std.proofs.Common.{◌≡◌, ◌≤◌, ◌<◌, ◌+◌, ℕ, suc, List, [], ◌∷◌, ◌++◌, length, take, drop, refl, sym, ap, subst}
use Rattle.std.proofs.Common.{◌∙◌, arith}
use Rattle.std.specs.Prelude.{slice_index_or, if◌then◌else◌, Some, None}
use Rattle.std.specs.declared.cmp.Ordering.{Ordering}
use Rattle.std.specs.declared.cmp.Ordering.TheVariants.{Equal}
use Rattle.std.specs.Ordering.{is_lt, is_eq, is_gt}
use Rattle.std.proofs.Math.Seq.{drop-cons}
use Rattle.std.proofs.lemmas.Cmp.{tied_itself}
use Rattle.std.proofs.lemmas.List.{append_assoc, take-append-drop}
use Rattle.std.proofs.lemmas.List.Elements.{All-head, All-tail, All-append}
use Rattle.btree_pages.specs.declared.row_layout.RowLayout.{RowLayout}
use Rattle.btree_pages.specs.Keys.{key_cmp, key_of, Precedes, AllBelow, AllAbove}
use Rattle.btree.specs.Path.{first_key}
use Rattle.btree.specs.Entries.{Entry, entry_of, entries_of_rows, entry_with, first_from, first_entry_after}
use Rattle.btree.specs.Entries.{first_entry}
use Rattle.btree.proofs.Order.{key_order, greater_is, Up, all_below_first}
use Rattle.btree.proofs.Ways.{drop_all}

-- Rows below the key are passed over.
with_below : (entry : Entry) (more : List Entry) (key : List ℕ) → Precedes entry.key key
    → entry_with (entry ∷ more) key ≡ entry_with more key
with_below entry more key less = ap (λ (r : Ordering). if is_eq r then Some entry else entry_with more key) less

from_below : (entry : Entry) (more : List Entry) (key : List ℕ) → Precedes entry.key key
    → first_from (entry ∷ more) key ≡ first_from more key
from_below entry more key less = ap (λ (r : Ordering). if is_lt r then first_from more key else Some entry) less

after_below : (entry : Entry) (more : List Entry) (key : List ℕ) → Precedes entry.key key
    → first_entry_after (entry ∷ more) key ≡ first_entry_after more key
after_below entry more key less = ap (λ (r : Ordering). if is_gt r then Some entry else first_entry_after more key) less

pub with_passes : (layout : RowLayout) (key : List ℕ) (rows more : List (List ℕ)) → AllBelow layout key rows
    → entry_with (entries_of_rows layout (rows ++ more)) key ≡ entry_with (entries_of_rows layout more) key
with_passes layout key [] more below = refl
with_passes layout key (row ∷ rows) more below =
    let P : List ℕ → Type 0 = λ r. Precedes (key_of layout r) key in
    with_below (entry_of layout row) (entries_of_rows layout (rows ++ more)) key (All-head P row rows below)
    ∙ with_passes layout key rows more (All-tail P row rows below)

pub from_passes : (layout : RowLayout) (key : List ℕ) (rows more : List (List ℕ)) → AllBelow layout key rows
    → first_from (entries_of_rows layout (rows ++ more)) key ≡ first_from (entries_of_rows layout more) key
from_passes layout key [] more below = refl
from_passes layout key (row ∷ rows) more below =
    let P : List ℕ → Type 0 = λ r. Precedes (key_of layout r) key in
    from_below (entry_of layout row) (entries_of_rows layout (rows ++ more)) key (All-head P row rows below)
    ∙ from_passes layout key rows more (All-tail P row rows below)

pub after_passes : (layout : RowLayout) (key : List ℕ) (rows more : List (List ℕ)) → AllBelow layout key rows
    → first_entry_after (entries_of_rows layout (rows ++ more)) key ≡ first_entry_after (entries_of_rows layout more)
    key
after_passes layout key [] more below = refl
after_passes layout key (row ∷ rows) more below =
    let P : List ℕ → Type 0 = λ r. Precedes (key_of layout r) key in
    after_below (entry_of layout row) (entries_of_rows layout (rows ++ more)) key (All-head P row rows below)
    ∙ after_passes layout key rows more (All-tail P row rows below)

-- Where all rows are above the key.
pub with_above : (layout : RowLayout) (key : List ℕ) (rows : List (List ℕ)) → AllAbove layout key rows
    → entry_with (entries_of_rows layout rows) key ≡ None
with_above layout key [] above = refl
with_above layout key (row ∷ rows) above =
    let P : List ℕ → Type 0 = λ r. Precedes key (key_of layout r) in
    let greater = greater_is (key_of layout row) key (All-head P row rows above) in
    ap (λ (r : Ordering). if is_eq r then Some (entry_of layout row) else entry_with (entries_of_rows layout rows) key)
    greater ∙ with_above layout key rows (All-tail P row rows above)

pub from_above : (layout : RowLayout) (key : List ℕ) (rows : List (List ℕ)) → AllAbove layout key rows
    → first_from (entries_of_rows layout rows) key ≡ first_entry (entries_of_rows layout rows)
from_above layout key [] above = refl
from_above layout key (row ∷ rows) above =
    let greater = greater_is (key_of layout row) key (All-head (λ r. Precedes key (key_of layout r)) row rows above) in
    ap (λ (r : Ordering). if is_lt r then first_from (entries_of_rows layout rows) key else Some (entry_of layout row))
    greater

pub after_above : (layout : RowLayout) (key : List ℕ) (rows : List (List ℕ)) → AllAbove layout key rows
    → first_entry_after (entries_of_rows layout rows) key ≡ first_entry (entries_of_rows layout rows)
after_above layout key [] above = refl
after_above layout key (row ∷ rows) above =
    let greater = greater_is (key_of layout row) key (All-head (λ r. Precedes key (key_of layout r)) row rows above) in
    ap (λ (r : Ordering). if is_gt r then Some (entry_of layout row)
    else first_entry_after (entries_of_rows layout rows) key) greater

-- Where the first row has the key.
equal_to : (layout : RowLayout) (key row : List ℕ) → key_of layout row ≡ key → key_cmp (key_of layout row) key ≡ Equal
equal_to layout key row is = ap (λ k. key_cmp k key) is ∙ tied_itself key_order key

pub with_here : (layout : RowLayout) (key row : List ℕ) (rows : List (List ℕ)) → key_of layout row ≡ key
    → entry_with (entries_of_rows layout (row ∷ rows)) key ≡ Some (entry_of layout row)
with_here layout key row rows is = ap (λ (r : Ordering). if is_eq r then Some (entry_of layout row)
    else entry_with (entries_of_rows layout rows) key) (equal_to layout key row is)

pub from_here : (layout : RowLayout) (key row : List ℕ) (rows : List (List ℕ)) → key_of layout row ≡ key
    → first_from (entries_of_rows layout (row ∷ rows)) key ≡ Some (entry_of layout row)
from_here layout key row rows is = ap (λ (r : Ordering). if is_lt r then first_from (entries_of_rows layout rows) key
    else Some (entry_of layout row)) (equal_to layout key row is)

pub after_here : (layout : RowLayout) (key row : List ℕ) (rows : List (List ℕ)) → key_of layout row ≡ key
    → first_entry_after (entries_of_rows layout (row ∷ rows)) key ≡ first_entry_after (entries_of_rows layout rows) key
after_here layout key row rows is = ap (λ (r : Ordering). if is_gt r then Some (entry_of layout row)
    else first_entry_after (entries_of_rows layout rows) key) (equal_to layout key row is)

-- A leaf, with the rows left and right of it.
pub record IsAround (layout : RowLayout) (key : List ℕ) (all before rows after : List (List ℕ)) : Type 0 where
  pub is : all ≡ before ++ (rows ++ after)
  pub low : AllBelow layout key before
  pub high : AllAbove layout key after

-- the key stands at a place, or would come there
pub record IsAt (layout : RowLayout) (key : List ℕ) (rows : List (List ℕ)) (place : ℕ) : Type 0 where
  pub low : place < length rows
  pub here : key_of layout (slice_index_or rows place []) ≡ key
  pub before : AllBelow layout key (take place rows)
  pub after : AllAbove layout key (drop (place + 1) rows)

pub record IsGap (layout : RowLayout) (key : List ℕ) (rows : List (List ℕ)) (place : ℕ) : Type 0 where
  pub low : place ≤ length rows
  pub before : AllBelow layout key (take place rows)
  pub after : AllAbove layout key (drop place rows)

-- what stands left of the place is passed over
passed : {X : Type 0} (f : List Entry → List ℕ → X) (layout : RowLayout) (key : List ℕ)
    (all before rows after : List (List ℕ)) (place : ℕ)
    → ((xs ys : List (List ℕ)) → AllBelow layout key xs
    → f (entries_of_rows layout (xs ++ ys)) key ≡ f (entries_of_rows layout ys) key)
    → IsAround layout key all before rows after → AllBelow layout key (take place rows)
    → f (entries_of_rows layout all) key ≡ f (entries_of_rows layout (drop place rows ++ after)) key
passed f layout key all before rows after place passes around below =
    ap (λ xs. f (entries_of_rows layout xs) key)
    (around.is ∙ ap (λ xs. before ++ (xs ++ after)) (sym (take-append-drop place rows))
    ∙ ap (λ xs. before ++ xs) (append_assoc (take place rows) (drop place rows) after))
    ∙ passes before (take place rows ++ (drop place rows ++ after)) around.low
    ∙ passes (take place rows) (drop place rows ++ after) below

at_drop : (rows : List (List ℕ)) (place : ℕ) → place < length rows
    → drop place rows ≡ slice_index_or rows place [] ∷ drop (place + 1) rows
at_drop rows place low =
    let next : suc place ≡ place + 1 = omega arith in
    drop-cons rows place [] low ∙ ap (λ (n : ℕ). slice_index_or rows place [] ∷ drop n rows) next

-- The key stands in the leaf.
pub with_at : (layout : RowLayout) (key : List ℕ) (all before rows after : List (List ℕ)) (place : ℕ)
    → IsAround layout key all before rows after → IsAt layout key rows place
    → entry_with (entries_of_rows layout all) key ≡ Some (entry_of layout (slice_index_or rows place []))
with_at layout key all before rows after place around at =
    passed entry_with layout key all before rows after place (with_passes layout key) around at.before
    ∙ ap (λ xs. entry_with (entries_of_rows layout (xs ++ after)) key) (at_drop rows place at.low)
    ∙ with_here layout key (slice_index_or rows place []) (drop (place + 1) rows ++ after) at.here

pub from_at : (layout : RowLayout) (key : List ℕ) (all before rows after : List (List ℕ)) (place : ℕ)
    → IsAround layout key all before rows after → IsAt layout key rows place
    → first_from (entries_of_rows layout all) key ≡ Some (entry_of layout (slice_index_or rows place []))
from_at layout key all before rows after place around at =
    passed first_from layout key all before rows after place (from_passes layout key) around at.before
    ∙ ap (λ xs. first_from (entries_of_rows layout (xs ++ after)) key) (at_drop rows place at.low)
    ∙ from_here layout key (slice_index_or rows place []) (drop (place + 1) rows ++ after) at.here

pub after_at : (layout : RowLayout) (key : List ℕ) (all before rows after : List (List ℕ)) (place : ℕ)
    → IsAround layout key all before rows after → IsAt layout key rows place → first_entry_after
    (entries_of_rows layout all) key ≡ first_entry (entries_of_rows layout (drop (place + 1) rows ++ after))
after_at layout key all before rows after place around at =
    passed first_entry_after layout key all before rows after place (after_passes layout key) around at.before
    ∙ ap (λ xs. first_entry_after (entries_of_rows layout (xs ++ after)) key) (at_drop rows place at.low)
    ∙ after_here layout key (slice_index_or rows place []) (drop (place + 1) rows ++ after) at.here
    ∙ after_above layout key (drop (place + 1) rows ++ after)
    (All-append (λ row. Precedes key (key_of layout row)) (drop (place + 1) rows) after at.after around.high)

-- It doesn't.
pub with_gap : (layout : RowLayout) (key : List ℕ) (all before rows after : List (List ℕ)) (place : ℕ)
    → IsAround layout key all before rows after → IsGap layout key rows place
    → entry_with (entries_of_rows layout all) key ≡ None
with_gap layout key all before rows after place around gap =
    passed entry_with layout key all before rows after place (with_passes layout key) around gap.before
    ∙ with_above layout key (drop place rows ++ after)
    (All-append (λ row. Precedes key (key_of layout row)) (drop place rows) after gap.after around.high)

pub from_gap : (layout : RowLayout) (key : List ℕ) (all before rows after : List (List ℕ)) (place : ℕ)
    → IsAround layout key all before rows after → IsGap layout key rows place
    → first_from (entries_of_rows layout all) key ≡ first_entry (entries_of_rows layout (drop place rows ++ after))
from_gap layout key all before rows after place around gap =
    passed first_from layout key all before rows after place (from_passes layout key) around gap.before
    ∙ from_above layout key (drop place rows ++ after)
    (All-append (λ row. Precedes key (key_of layout row)) (drop place rows) after gap.after around.high)

pub after_gap : (layout : RowLayout) (key : List ℕ) (all before rows after : List (List ℕ)) (place : ℕ)
    → IsAround layout key all before rows after → IsGap layout key rows place → first_entry_after
    (entries_of_rows layout all) key ≡ first_entry (entries_of_rows layout (drop place rows ++ after))
after_gap layout key all before rows after place around gap =
    passed first_entry_after layout key all before rows after place (after_passes layout key) around gap.before
    ∙ after_above layout key (drop place rows ++ after)
    (All-append (λ row. Precedes key (key_of layout row)) (drop place rows) after gap.after around.high)

-- The first entry from a place in the leaf on.
pub first_within : (layout : RowLayout) (rows after : List (List ℕ)) (place : ℕ) → place < length rows → first_entry
    (entries_of_rows layout (drop place rows ++ after)) ≡ Some (entry_of layout (slice_index_or rows place []))
first_within layout rows after place low =
    ap (λ xs. first_entry (entries_of_rows layout (xs ++ after))) (at_drop rows place low)

pub first_beyond : (layout : RowLayout) (rows after : List (List ℕ)) (place : ℕ) → length rows ≤ place
    → first_entry (entries_of_rows layout (drop place rows ++ after)) ≡ first_entry (entries_of_rows layout after)
first_beyond layout rows after place high =
    ap (λ xs. first_entry (entries_of_rows layout (xs ++ after))) (drop_all place rows high)

pub first_none : (layout : RowLayout) (after : List (List ℕ)) → first_key layout after ≡ None
    → first_entry (entries_of_rows layout after) ≡ None
first_none layout [] none = refl
first_none layout (row ∷ after) none = cc

-- the first entry to the right of the leaf is that of its key
pub first_right : (layout : RowLayout) (before after : List (List ℕ)) (right : List ℕ)
    → Up layout (before ++ after) → first_key layout after ≡ Some right
    → first_entry (entries_of_rows layout after) ≡ entry_with (entries_of_rows layout (before ++ after)) right
first_right layout before [] right up is = cc
first_right layout before (row ∷ after) right up is =
    let here : key_of layout row ≡ right = cc in
    sym (with_passes layout right before (row ∷ after) (subst (λ (key : List ℕ). AllBelow layout key before) here
    (all_below_first layout before row after up)) ∙ with_here layout right row after here)

-- it is there
pub some_right : (layout : RowLayout) (before after : List (List ℕ)) (right : List ℕ) → Up layout (before ++ after)
    → first_key layout after ≡ Some right → entry_with (entries_of_rows layout (before ++ after)) right ≡ None → ⊥
some_right layout before [] right up is none = cc
some_right layout before (row ∷ after) right up is none =
    let clash : Some (entry_of layout row) ≡ None = first_right layout before (row ∷ after) right up is ∙ none in
    cc
