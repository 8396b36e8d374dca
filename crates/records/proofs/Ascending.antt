-- Rows ascend, and stay so.
use Rattle.std.proofs.Common.{◌≡◌, ◌<◌, Bool, true, false, ◌||◌, cond, ℕ, zero, suc, List, [], ◌∷◌, length, map, get_or}
use Rattle.std.proofs.Common.{refl, ◌∙◌, ap, arith}
use Rattle.std.specs.Prelude.{Option, Some, filter}
use Rattle.std.specs.List.{AllByRecursion, list_any}
use Rattle.std.specs.List.Sorted.{IsStrictlySortedBy}
use Rattle.std.specs.Ordering.{is_lt, is_eq, is_gt, ordering_reverse}
use Rattle.std.specs.Cmp.{IsTotalOrder}
use Rattle.std.specs.declared.cmp.Ordering.{Ordering}
use Rattle.std.specs.declared.cmp.Ordering.TheVariants.{Less, Equal, Greater}
use Rattle.std.proofs.lemmas.Bool.{cond_both}
use Rattle.std.proofs.lemmas.Cmp.{then_total, on_total, nat_cmp_total, nat_list_cmp_total, tied_itself}
use Rattle.std.proofs.lemmas.Map.Keys.{sorted_head, sorted_tail}
use Rattle.records.specs.declared.file_spec.Organization.{Organization}
use Rattle.records.specs.declared.key.KeyOfReference.TheVariants.{Prime}
use Rattle.records.specs.Spec.{Spec}
use Rattle.records.specs.Rows.{Row, Pair, pair_cmp, prime_pair}
use Rattle.records.specs.Order.{RowBound, is_after, lesser, least_row, sought_row}
use Rattle.records.specs.Changes.{is_at, row_at, with_row}
use Rattle.records.specs.Laws.{first_of, RowsAscend}

pub pair_total : IsTotalOrder pair_cmp
pair_total =
    then_total (on_total (λ (p : Pair). p.value) nat_list_cmp_total) (on_total (λ (p : Pair). p.number) nat_cmp_total)

pub or_false : (a b : Bool) → (a || b) ≡ false → (a ≡ false) × (b ≡ false)
or_false true b e = absurd cc
or_false false b e = (refl, e)

pub all_filter : {A : Type 0} (P : A → Type 0) (test : A → Bool) (xs : List A) → AllByRecursion P xs
    → AllByRecursion P (filter test xs)
all_filter P test [] all = tt
all_filter P test (x ∷ xs) all = cond_both (test x) (x ∷ filter test xs) (filter test xs) (AllByRecursion P)
    (λ _. (all.0, all_filter P test xs all.1)) (λ _. all_filter P test xs all.1)

module _ (o : Organization) where
  abbrev Below : Row → Row → Type 0
  Below row other = pair_cmp (prime_pair o row) (prime_pair o other) ≡ Less

  -- over rows, and over their pairs
  pairs_from : (pair : Pair) (rows : List Row) → AllByRecursion (λ row. pair_cmp pair (prime_pair o row) ≡ Less) rows
      → AllByRecursion (λ other. pair_cmp pair other ≡ Less) (map (prime_pair o) rows)
  pairs_from pair [] all = tt
  pairs_from pair (row ∷ rows) all = (all.0, pairs_from pair rows all.1)

  pairs_to : (pair : Pair) (rows : List Row) → AllByRecursion (λ other. pair_cmp pair other ≡ Less)
      (map (prime_pair o) rows) → AllByRecursion (λ row. pair_cmp pair (prime_pair o row) ≡ Less) rows
  pairs_to pair [] all = tt
  pairs_to pair (row ∷ rows) all = (all.0, pairs_to pair rows all.1)

  head : (row : Row) (rows : List Row) → RowsAscend o (row ∷ rows) → AllByRecursion (Below row) rows
  head row rows ascend =
      pairs_to (prime_pair o row) rows (sorted_head pair_cmp (prime_pair o row) (map (prime_pair o) rows) ascend)

  tail : (row : Row) (rows : List Row) → RowsAscend o (row ∷ rows) → RowsAscend o rows
  tail row rows ascend = sorted_tail pair_cmp (prime_pair o row) (map (prime_pair o) rows) ascend

  both : (row : Row) (rows : List Row) → AllByRecursion (Below row) rows → RowsAscend o rows → RowsAscend o (row ∷ rows)
  unfolding IsStrictlySortedBy
  both row rows below ascend = (pairs_from (prime_pair o row) rows below, ascend)

  alone : RowsAscend o []
  unfolding IsStrictlySortedBy
  alone = tt

  pub all_with_row : (P : Row → Type 0) (new : Row) (rows : List Row) → P new → AllByRecursion P rows
      → AllByRecursion P (with_row o new rows)
  all_with_row P new [] here all = (here, tt)
  all_with_row P new (row ∷ rows) here all = cond_both (is_lt (pair_cmp (prime_pair o row) (prime_pair o new)))
      (row ∷ with_row o new rows) (new ∷ row ∷ rows) (AllByRecursion P)
      (λ _. (all.0, all_with_row P new rows here all.1)) (λ _. (here, all))

  lower : (new row : Row) (rows : List Row) → Below new row → AllByRecursion (Below row) rows
      → AllByRecursion (Below new) rows
  lower new row [] less all = tt
  lower new row (other ∷ rows) less all = (
    pair_total.trans (prime_pair o new) (prime_pair o row) (prime_pair o other) less all.0,
    lower new row rows less all.1,
  )

  abbrev Put : Row → List Row → Type 0
  Put new rows = RowsAscend o (with_row o new rows)

  abbrev put_by : Ordering → Row → Row → List Row → List Row
  put_by r new row rows = cond (is_lt r) (row ∷ with_row o new rows) (new ∷ row ∷ rows)

  put : (r : Ordering) (new row : Row) (rows : List Row) → pair_cmp (prime_pair o row) (prime_pair o new) ≡ r
      → is_eq r ≡ false → RowsAscend o (row ∷ rows) → Put new rows → RowsAscend o (put_by r new row rows)
  put Less new row rows is other ascend more =
      both row (with_row o new rows) (all_with_row (Below row) new rows is (head row rows ascend)) more
  put Equal new row rows is other ascend more = absurd cc
  put Greater new row rows is other ascend more =
      let less : Below new row = pair_total.antisymm (prime_pair o new) (prime_pair o row) ∙ ap ordering_reverse is in
      both new (row ∷ rows) (less, lower new row rows less (head row rows ascend)) ascend

  pub ascend_with_row : (new : Row) (rows : List Row) → RowsAscend o rows
      → list_any (is_at o (prime_pair o new)) rows ≡ false → RowsAscend o (with_row o new rows)
  ascend_with_row new [] ascend none = both new [] tt alone
  ascend_with_row new (row ∷ rows) ascend none =
      let apart = or_false (is_at o (prime_pair o new) row) (list_any (is_at o (prime_pair o new)) rows) none in
      put (pair_cmp (prime_pair o row) (prime_pair o new)) new row rows refl apart.0 ascend
      (ascend_with_row new rows (tail row rows ascend) apart.1)

  pub ascend_filter : (test : Row → Bool) (rows : List Row) → RowsAscend o rows → RowsAscend o (filter test rows)
  ascend_filter test [] ascend = alone
  ascend_filter test (row ∷ rows) ascend =
      cond_both (test row) (row ∷ filter test rows) (filter test rows) (RowsAscend o)
      (λ _. both row (filter test rows) (all_filter (Below row) test rows (head row rows ascend))
      (ascend_filter test rows (tail row rows ascend)))
      (λ _. ascend_filter test rows (tail row rows ascend))

  -- a row is found by its own pair
  abbrev found_by : Bool → Row → Pair → List Row → Option Row
  found_by b row pair rows = cond b (Some row) (row_at o pair rows)

  pub own_row : (rows : List Row) (i : ℕ) (d : Row) → RowsAscend o rows → i < length rows
      → row_at o (prime_pair o (get_or rows i d)) rows ≡ Some (get_or rows i d)
  own_row [] i d ascend lt = absurd (omega (arith, lt))
  own_row (row ∷ rows) zero d ascend lt =
      ap (λ (r : Ordering). found_by (is_eq r) row (prime_pair o row) rows) (tied_itself pair_total (prime_pair o row))
  own_row (row ∷ rows) (suc i) d ascend lt =
      ap (λ (r : Ordering). found_by (is_eq r) row (prime_pair o (get_or rows i d)) rows)
      (at (Below row) rows i d (omega (arith, lt)) (head row rows ascend))
      ∙ own_row rows i d (tail row rows ascend) (omega (arith, lt))
    where
      at : (P : Row → Type 0) (rows : List Row) (i : ℕ) (d : Row) → i < length rows → AllByRecursion P rows
          → P (get_or rows i d)
      at P [] i d lt all = absurd (omega (arith, lt))
      at P (row ∷ rows) zero d lt all = all.0
      at P (row ∷ rows) (suc i) d lt all = at P rows i d (omega (arith, lt)) all.1

-- the least of ascending rows is the first
abbrev less_than : Spec → Row → Option Row → Option Row
less_than spec row o = lesser spec Prime row o

first_least : (spec : Spec) (rows : List Row) → RowsAscend spec.organization rows
    → least_row spec Prime rows ≡ first_of rows
first_least spec [] ascend = refl
first_least spec (row ∷ []) ascend = refl
first_least spec (row ∷ other ∷ rows) ascend =
    ap (less_than spec row) (first_least spec (other ∷ rows) (tail spec.organization row (other ∷ rows) ascend))
    ∙ ap (λ (r : Ordering). Some (cond (is_gt r) other row)) (head spec.organization row (other ∷ rows) ascend).0

pub first_fits : (spec : Spec) (bound : RowBound) (rows : List Row) → RowsAscend spec.organization rows
    → sought_row spec Prime bound rows
    ≡ first_of (filter (λ row. is_after bound.side bound.pair (prime_pair spec.organization row)) rows)
first_fits spec bound rows ascend = first_least
    spec (filter (λ row. is_after bound.side bound.pair (prime_pair spec.organization row)) rows) (ascend_filter
    spec.organization (λ row. is_after bound.side bound.pair (prime_pair spec.organization row)) rows ascend)
