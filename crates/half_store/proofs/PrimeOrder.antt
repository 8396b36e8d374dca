-- Rows ascend by their prime key: those after a place come last, so a search by halves finds the first of them.
use Rattle.std.proofs.Common.{◌≡◌, ◌≤◌, ◌<◌, Bool, true, false, not, cond, ⊎_elim, ℕ, zero, suc, List, [], ◌∷◌, length}
use Rattle.std.proofs.Common.{take, map, get_or, refl, sym, ◌∙◌, ap, arith}
use Rattle.std.specs.Prelude.{Option, Some, None, filter}
use Rattle.std.specs.Cmp.{IsTotalOrder}
use Rattle.std.specs.Ordering.{is_lt, is_gt, nat_cmp, ordering_then, ordering_reverse}
use Rattle.std.specs.List.Sorted.{IsPartitionedBy, IsPartitionPoint}
use Rattle.std.specs.declared.cmp.Ordering.{Ordering}
use Rattle.std.specs.declared.cmp.Ordering.TheVariants.{Less, Equal, Greater}
use Rattle.std.proofs.lemmas.Bool.{cases_lt}
use Rattle.std.proofs.lemmas.Cmp.{upto, tied_itself, nat_list_cmp_total}
use Rattle.std.proofs.lemmas.List.{length-map, get_or-map}
use Rattle.std.proofs.lemmas.Map.Keys.{Less-from_sorted}
use Rattle.records.specs.declared.file_spec.Organization.{Organization}
use Rattle.records.specs.declared.key.Side.{Side}
use Rattle.records.specs.declared.key.Side.TheVariants.{From, After, Beyond}
use Rattle.records.specs.declared.key.KeyOfReference.TheVariants.{Prime}
use Rattle.records.specs.Spec.{Spec}
use Rattle.records.specs.Rows.{Row, Pair, bytes_cmp, pair_cmp, prime_pair}
use Rattle.records.specs.Order.{RowBound, is_after, sought_row}
use Rattle.records.specs.Laws.{first_of, RowsAscend}
use Rattle.records.proofs.Ascending.{pair_total, first_fits}
use Rattle.file_bytes.specs.Stored.{row_of}
use Rattle.file_bytes.specs.declared.stored.StoredRow.{StoredRow}

-- ---- orders

cut_later : (r rest cut : Ordering) → is_gt (ordering_then r rest) ≡ false → (is_gt rest ≡ false → is_gt cut ≡ false)
    → is_gt (ordering_then r cut) ≡ false
cut_later Less rest cut h f = refl
cut_later Equal rest cut h f = f h
cut_later Greater rest cut h f = h

-- beginnings are in the order of what they begin
beginnings : (n : ℕ) (v w : List ℕ) → is_gt (bytes_cmp v w) ≡ false → is_gt (bytes_cmp (take n v) (take n w)) ≡ false
beginnings zero v w h = refl
beginnings (suc n) [] [] h = refl
beginnings (suc n) [] (y ∷ w) h = refl
beginnings (suc n) (x ∷ v) [] h = h
beginnings (suc n) (x ∷ v) (y ∷ w) h =
    cut_later (nat_cmp x y) (bytes_cmp v w) (bytes_cmp (take n v) (take n w)) h (beginnings n v w)

values_first : (r s : Ordering) → is_gt (ordering_then r s) ≡ false → is_gt r ≡ false
values_first Less s h = refl
values_first Equal s h = refl
values_first Greater s h = h

module _ {K : Type 0} {R : K → K → Ordering} (total : IsTotalOrder R) where
  still_greater : (x y z : K) → is_gt (R x y) ≡ false → is_gt (R x z) ≡ true → is_gt (R y z) ≡ true
  still_greater x y z le greater = by (is_gt (R y z)) refl
    where
      by : (b : Bool) → is_gt (R y z) ≡ b → is_gt (R y z) ≡ true
      by true is = is
      by false is = let less = upto total x y z le is in cc

  reversed : (r : Ordering) → is_lt (ordering_reverse r) ≡ is_gt r
  reversed Less = refl
  reversed Equal = refl
  reversed Greater = refl

  turned : (x y : K) → is_lt (R x y) ≡ is_gt (R y x)
  turned x y = ap is_lt (total.antisymm x y) ∙ reversed (R y x)

  still_not_less : (x y z : K) → is_gt (R x y) ≡ false → is_lt (R x z) ≡ false → is_lt (R y z) ≡ false
  still_not_less x y z le least = turned y z ∙ upto total z x y (sym (turned x z) ∙ least) le

not_true : (b : Bool) → not b ≡ true → b ≡ false
not_true true h = cc
not_true false h = refl

-- what comes later is after a place as well
behind_later : (side : Side) (place one two : Pair) → is_gt (pair_cmp one two) ≡ false → is_after side place one ≡ true
    → is_after side place two ≡ true
behind_later From place one two le behind =
    ap not (still_not_less pair_total one two place le (not_true (is_lt (pair_cmp one place)) behind))
behind_later After place one two le behind = still_greater pair_total one two place le behind
behind_later Beyond place one two le behind =
    let n = length place.value in
    still_greater nat_list_cmp_total (take n one.value) (take n two.value) place.value
    (beginnings n one.value two.value (values_first (bytes_cmp one.value two.value) (nat_cmp one.number two.number) le))
    behind

-- ---- rows

module _ (o : Organization) (side : Side) (place : Pair) where
  abbrev pub is_before : StoredRow → Bool
  is_before row = not (is_after side place (prime_pair o (row_of row)))

  abbrev pair_at : List StoredRow → ℕ → StoredRow → Pair
  pair_at rows i d = prime_pair o (row_of (get_or rows i d))

  pairs_are : (rows : List StoredRow) (i : ℕ) (d : StoredRow) → i < length rows
      → get_or (map (prime_pair o) (map row_of rows)) i (prime_pair o (row_of d)) ≡ pair_at rows i d
  pairs_are rows i d lt =
      get_or-map (prime_pair o) (map row_of rows) i (row_of d) (prime_pair o (row_of d)) (let h =
      length-map rows row_of in omega (arith, h))
      ∙ ap (prime_pair o) (get_or-map row_of rows i d (row_of d) lt)

  ordered : (rows : List StoredRow) (i j : ℕ) (d : StoredRow) → RowsAscend o (map row_of rows) → i ≤ j → j < length rows
      → is_gt (pair_cmp (pair_at rows i d) (pair_at rows j d)) ≡ false
  ordered rows i j d ascend le lt = ⊎_elim less same (cases_lt i j)
    where
      less : i < j → is_gt (pair_cmp (pair_at rows i d) (pair_at rows j d)) ≡ false
      less h =
          let e = prime_pair o (row_of d) in
          let both = Less-from_sorted pair_cmp (map (prime_pair o) (map row_of rows)) i j e ascend h (let h' =
          length-map rows row_of in let h'' = length-map (map row_of rows) (prime_pair o) in omega (arith, h', h'')) in
          ap is_gt (sym (ap (λ (p : Pair). pair_cmp p (pair_at rows j d)) (pairs_are rows i d (omega arith)))
          ∙ sym (ap (pair_cmp (get_or (map (prime_pair o) (map row_of rows)) i e)) (pairs_are rows j d lt)) ∙ both)

      same : j ≤ i → is_gt (pair_cmp (pair_at rows i d) (pair_at rows j d)) ≡ false
      same h =
          let e : i ≡ j = omega arith in
          ap is_gt (ap (λ (k : ℕ). pair_cmp (pair_at rows i d) (pair_at rows k d)) (sym e)
          ∙ tied_itself pair_total (pair_at rows i d))

  -- no row before the place comes after one after it
  pub parted : (rows : List StoredRow) → RowsAscend o (map row_of rows) → IsPartitionedBy is_before rows
  parted rows ascend i j d le lt before = by (is_after side place (pair_at rows i d)) refl
    where
      by : (b : Bool) → is_after side place (pair_at rows i d) ≡ b → not (is_after side place (pair_at rows i d)) ≡ true
      by false is = ap not is
      by true is = let later =
          behind_later side place (pair_at rows i d) (pair_at rows j d) (ordered rows i j d ascend le lt) is in
          absurd (let never = not_true (is_after side place (pair_at rows j d)) before in cc)

  abbrev first_by : Bool → Row → List Row → Option Row
  first_by b row rows = first_of (cond b (row ∷ rows) rows)

  abbrev behind : Row → Bool
  behind row = is_after side place (prime_pair o row)

  none_first : (rows : List StoredRow)
      → ((k : ℕ) (d : StoredRow) → k < length rows → behind (row_of (get_or rows k d)) ≡ false)
      → first_of (filter behind (map row_of rows)) ≡ None
  none_first [] all = refl
  none_first (row ∷ rows) all =
      ap (λ (b : Bool). first_by b (row_of row) (filter behind (map row_of rows))) (all 0 row (omega arith))
      ∙ none_first rows (λ k d lt. all (suc k) d (omega arith))

  some_first : (rows : List StoredRow) (i : ℕ) (d : StoredRow)
      → i < length rows → ((k : ℕ) (d : StoredRow) → k < i → behind (row_of (get_or rows k d)) ≡ false)
      → behind (row_of (get_or rows i d)) ≡ true
      → first_of (filter behind (map row_of rows)) ≡ Some (row_of (get_or rows i d))
  some_first [] i d lt all here = absurd (omega arith)
  some_first (row ∷ rows) zero d lt all here =
      ap (λ (b : Bool). first_by b (row_of row) (filter behind (map row_of rows))) here
  some_first (row ∷ rows) (suc i) d lt all here =
      ap (λ (b : Bool). first_by b (row_of row) (filter behind (map row_of rows))) (all 0 row (omega arith))
      ∙ some_first rows i d (omega arith) (λ k e below. all (suc k) e (omega arith)) here

  not_false : (b : Bool) → not b ≡ false → b ≡ true
  not_false true h = refl
  not_false false h = cc

  abbrev Point : List StoredRow → ℕ → Type 0
  Point rows i = IsPartitionPoint (λ row. is_before row ≡ true) (λ row. is_before row ≡ false) rows i

  before_point : (rows : List StoredRow) (i : ℕ) → Point rows i → i ≤ length rows → (k : ℕ) (d : StoredRow) → k < i
      → behind (row_of (get_or rows k d)) ≡ false
  before_point rows i point le k d lt = not_true (behind (row_of (get_or rows k d))) (point.0 k d (omega arith) lt)

module _ (spec : Spec) (side : Side) (place : Pair) (rows : List StoredRow) (i : ℕ) where
  abbrev the_bound : RowBound
  the_bound = record { side = side; pair = place }

  pub none_from_point : RowsAscend spec.organization (map row_of rows) → Point spec.organization side place rows i
      → length rows ≤ i → i ≤ length rows → sought_row spec Prime the_bound (map row_of rows) ≡ None
  none_from_point ascend point all le = first_fits spec the_bound (map row_of rows) ascend
      ∙ none_first spec.organization side place rows
      (λ k d lt. before_point spec.organization side place rows i point le k d (omega arith))

  pub some_from_point : RowsAscend spec.organization (map row_of rows)
      → Point spec.organization side place rows i → i < length rows → (d : StoredRow)
      → sought_row spec Prime the_bound (map row_of rows) ≡ Some (row_of (get_or rows i d))
  some_from_point ascend point lt d = first_fits spec the_bound (map row_of rows) ascend
      ∙ some_first spec.organization side place rows i d lt
      (before_point spec.organization side place rows i point (omega arith))
      (not_false spec.organization side place (is_after side place
      (prime_pair spec.organization (row_of (get_or rows i d)))) (point.1 i d (omega arith) lt))
