-- Rows whose keys ascend.
use Rattle.std.proofs.Common.{◌≡◌, ℕ, List, [], ◌∷◌, ◌++◌, refl, sym, ap, ◌∙◌}
use Rattle.std.specs.List.{All, AllByRecursion}
use Rattle.std.specs.List.Sorted.{IsStrictlySortedBy}
use Rattle.std.specs.declared.cmp.Ordering.{Ordering}
use Rattle.std.specs.declared.cmp.Ordering.TheVariants.{Less, Equal, Greater}
use Rattle.std.specs.Ordering.{ordering_reverse}
use Rattle.std.specs.Cmp.{IsTotalOrder}
use Rattle.std.proofs.lemmas.Cmp.{nat_list_cmp_total, alike_right}
use Rattle.std.proofs.lemmas.List.Elements.{All-head, All-tail, All-cons, All-nil, All-append, All-weaker}
use Rattle.btree_pages.specs.declared.row_layout.RowLayout.{RowLayout}
use Rattle.btree_pages.specs.Keys.{key_cmp, key_of, keys_of, Precedes, Ascend, AllBelow, AllAbove}

-- The order of keys.
pub key_order : IsTotalOrder key_cmp
key_order = nat_list_cmp_total

pub below_below : (one two three : List ℕ) → Precedes one two → Precedes two three → Precedes one three
below_below one two three = key_order.trans one two three

reversed_less : (o : Ordering) → ordering_reverse o ≡ Greater → o ≡ Less
reversed_less Less is = refl
reversed_less Equal is = cc
reversed_less Greater is = cc

reversed_greater : (o : Ordering) → ordering_reverse o ≡ Less → o ≡ Greater
reversed_greater Less is = cc
reversed_greater Equal is = cc
reversed_greater Greater is = refl

-- what a comparison of two keys may answer
pub data Compared (one two : List ℕ) : Type 0 where
  less : Precedes one two → Compared one two
  equal : key_cmp one two ≡ Equal → Compared one two
  greater : Precedes two one → Compared one two

compared_as : (one two : List ℕ) (o : Ordering) → key_cmp one two ≡ o → Compared one two
compared_as one two Less is = less is
compared_as one two Equal is = equal is
compared_as one two Greater is = greater (reversed_less (key_cmp two one) (sym (key_order.antisymm one two) ∙ is))

pub compared : (one two : List ℕ) → Compared one two
compared one two = compared_as one two (key_cmp one two) refl

pub greater_is : (one two : List ℕ) → Precedes two one → key_cmp one two ≡ Greater
greater_is one two below = key_order.antisymm one two ∙ ap ordering_reverse below

pub not_both : (one two : List ℕ) → Precedes one two → Precedes two one → ⊥
not_both one two low high = let e = greater_is one two high in let clash : Less ≡ Greater = sym low ∙ e in cc

pub not_itself : (key : List ℕ) → Precedes key key → ⊥
not_itself key below = not_both key key below below

-- below what isn't above a key
pub below_not_above : (one two key : List ℕ) → Precedes one two → (Precedes key two → ⊥) → Precedes one key
below_not_above one two key below above =
    elim (compared two key) [
      | less is ↦ below_below one two key below is
      | equal is ↦ sym (alike_right key_order two key one is) ∙ below
      | greater is ↦ absurd (above is)
    ]

-- TreeNodes of a list.
pub all_left : {X : Type 0} (P : X → Type 0) (xs ys : List X) → All P (xs ++ ys) → All P xs
all_left P [] ys all = All-nil P
all_left P (x ∷ xs) ys all =
    All-cons P x xs (All-head P x (xs ++ ys) all) (all_left P xs ys (All-tail P x (xs ++ ys) all))

pub all_right : {X : Type 0} (P : X → Type 0) (xs ys : List X) → All P (xs ++ ys) → All P ys
all_right P [] ys all = all
all_right P (x ∷ xs) ys all = all_right P xs ys (All-tail P x (xs ++ ys) all)

-- Rows that ascend by their keys.
abbrev pub Up : RowLayout → List (List ℕ) → Type 0
Up layout rows = Ascend (keys_of layout rows)

above_keys : (layout : RowLayout) (key : List ℕ) (rows : List (List ℕ)) → AllAbove layout key rows
    → AllByRecursion (λ y. key_cmp key y ≡ Less) (keys_of layout rows)
above_keys layout key [] all = tt
above_keys layout key (row ∷ rows) all = (
  All-head (λ r. Precedes key (key_of layout r)) row rows all,
  above_keys layout key rows (All-tail (λ r. Precedes key (key_of layout r)) row rows all),
)

keys_above : (layout : RowLayout) (key : List ℕ) (rows : List (List ℕ))
    → AllByRecursion (λ y. key_cmp key y ≡ Less) (keys_of layout rows) → AllAbove layout key rows
keys_above layout key [] all = All-nil (λ r. Precedes key (key_of layout r))
keys_above layout key (row ∷ rows) all =
    All-cons (λ r. Precedes key (key_of layout r)) row rows all.0 (keys_above layout key rows all.1)

pub up_none : (layout : RowLayout) → Up layout []
unfolding IsStrictlySortedBy
up_none layout = tt

pub up_cons : (layout : RowLayout) (row : List ℕ) (rows : List (List ℕ)) → AllAbove layout (key_of layout row) rows
    → Up layout rows → Up layout (row ∷ rows)
unfolding IsStrictlySortedBy
up_cons layout row rows above up = (above_keys layout (key_of layout row) rows above, up)

pub up_head : (layout : RowLayout) (row : List ℕ) (rows : List (List ℕ)) → Up layout (row ∷ rows)
    → AllAbove layout (key_of layout row) rows
unfolding IsStrictlySortedBy
up_head layout row rows up = keys_above layout (key_of layout row) rows up.0

pub up_tail : (layout : RowLayout) (row : List ℕ) (rows : List (List ℕ)) → Up layout (row ∷ rows) → Up layout rows
unfolding IsStrictlySortedBy
up_tail layout row rows up = up.1

pub up_left : (layout : RowLayout) (xs ys : List (List ℕ)) → Up layout (xs ++ ys) → Up layout xs
up_left layout [] ys up = up_none layout
up_left layout (x ∷ xs) ys up =
    up_cons layout x xs (all_left (λ r. Precedes (key_of layout x) (key_of layout r)) xs ys
    (up_head layout x (xs ++ ys) up)) (up_left layout xs ys (up_tail layout x (xs ++ ys) up))

pub up_right : (layout : RowLayout) (xs ys : List (List ℕ)) → Up layout (xs ++ ys) → Up layout ys
up_right layout [] ys up = up
up_right layout (x ∷ xs) ys up = up_right layout xs ys (up_tail layout x (xs ++ ys) up)

-- each row of the left node is below each one of the right node
pub up_across : (layout : RowLayout) (xs ys : List (List ℕ)) → Up layout (xs ++ ys)
    → All (λ x. AllAbove layout (key_of layout x) ys) xs
up_across layout [] ys up = All-nil (λ x. AllAbove layout (key_of layout x) ys)
up_across layout (x ∷ xs) ys up =
    All-cons (λ r. AllAbove layout (key_of layout r) ys) x xs
    (all_right (λ r. Precedes (key_of layout x) (key_of layout r)) xs ys (up_head layout x (xs ++ ys) up))
    (up_across layout xs ys (up_tail layout x (xs ++ ys) up))

pub up_append : (layout : RowLayout) (xs ys : List (List ℕ)) → Up layout xs → Up layout ys
    → All (λ x. AllAbove layout (key_of layout x) ys) xs → Up layout (xs ++ ys)
up_append layout [] ys up_xs up_ys across = up_ys
up_append layout (x ∷ xs) ys up_xs up_ys across =
    up_cons layout x (xs ++ ys)
    (All-append (λ r. Precedes (key_of layout x) (key_of layout r)) xs ys (up_head layout x xs up_xs)
    (All-head (λ r. AllAbove layout (key_of layout r) ys) x xs across))
    (up_append layout xs ys (up_tail layout x xs up_xs) up_ys
    (All-tail (λ r. AllAbove layout (key_of layout r) ys) x xs across))

-- all rows are below the first row of the right node
pub all_below_first : (layout : RowLayout) (xs : List (List ℕ)) (y : List ℕ) (ys : List (List ℕ))
    → Up layout (xs ++ y ∷ ys) → AllBelow layout (key_of layout y) xs
all_below_first layout xs y ys up =
    All-weaker (λ x. AllAbove layout (key_of layout x) (y ∷ ys)) (λ x. Precedes (key_of layout x) (key_of layout y))
    (λ x above. All-head (λ r. Precedes (key_of layout x) (key_of layout r)) y ys above) xs
    (up_across layout xs (y ∷ ys) up)

pub all_above_weaker : (layout : RowLayout) (one two : List ℕ) (rows : List (List ℕ)) → Precedes one two
    → AllAbove layout two rows → AllAbove layout one rows
all_above_weaker layout one two rows below all = All-weaker (λ r. Precedes two (key_of layout r))
    (λ r. Precedes one (key_of layout r)) (λ r above. below_below one two (key_of layout r) below above) rows all

pub all_below_weaker : (layout : RowLayout) (one key : List ℕ) (rows : List (List ℕ)) → (Precedes key one → ⊥)
    → AllBelow layout one rows → AllBelow layout key rows
all_below_weaker layout one key rows above all =
    All-weaker (λ r. Precedes (key_of layout r) one) (λ r. Precedes (key_of layout r) key)
    (λ r below. below_not_above (key_of layout r) one key below above) rows all

-- where the first row is above a key, all are
pub above_from_first : (layout : RowLayout) (key row : List ℕ) (rows : List (List ℕ)) → Up layout (row ∷ rows)
    → Precedes key (key_of layout row) → AllAbove layout key (row ∷ rows)
above_from_first layout key row rows up first =
    All-cons (λ r. Precedes key (key_of layout r)) row rows first
    (all_above_weaker layout key (key_of layout row) rows first (up_head layout row rows up))
