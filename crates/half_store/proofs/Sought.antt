-- The first row after a place, found from the last row on.
use Rattle.std.proofs.Common.{◌≡◌, ◌≤◌, ◌<◌, ◌+◌, Bool, true, false, cond, ℕ, zero, suc, List, [], ◌∷◌, length, drop}
use Rattle.std.proofs.Common.{map, get_or, refl, ◌∙◌, ap, arith}
use Rattle.std.specs.Prelude.{Option, Some, None, filter}
use Rattle.std.specs.Option.{option_map}
use Rattle.std.specs.Ordering.{is_gt}
use Rattle.std.proofs.lemmas.Bool.{cond-true, cond-false}
use Rattle.std.proofs.lemmas.List.{drop_more, drop_all}
use Rattle.records.specs.declared.key.KeyOfReference.{KeyOfReference}
use Rattle.records.specs.Spec.{Spec}
use Rattle.records.specs.Rows.{Row, pair_cmp, pair_under}
use Rattle.records.specs.Order.{RowBound, is_after, lesser, least_row, sought_row}
use Rattle.file_bytes.specs.Stored.{row_of}
use Rattle.half_store.specs.Seeking.{AreRecords, IsBest}
use Rattle.file_bytes.specs.declared.stored.StoredRow.{StoredRow}

module _ (spec : Spec) (key : KeyOfReference) (b : RowBound) (rows : List StoredRow) where
  pub none_best : (k : ℕ) → length rows ≤ k → IsBest spec key b rows k None
  none_best k le d = ap (λ (l : List StoredRow). sought_row spec key b (map row_of l)) (drop_all k rows le)

  abbrev fits : Row → Bool
  fits row = is_after b.side b.pair (pair_under spec key row)

  step : (k : ℕ) (d : StoredRow) → k < length rows → sought_row spec key b (map row_of (drop k rows))
      ≡ least_row spec key (cond (fits (row_of (get_or rows k d))) (row_of (get_or rows k d)
      ∷ filter fits (map row_of (drop (k + 1) rows))) (filter fits (map row_of (drop (k + 1) rows))))
  step k d lt = ap (λ (l : List StoredRow). sought_row spec key b (map row_of l)) (drop_more rows k d lt)

  pub past_best : (k : ℕ) (best : Option ℕ) (one : StoredRow) → k < length rows
      → ((d : StoredRow) → get_or rows k d ≡ one) → fits (row_of one) ≡ false → IsBest spec key b rows (k + 1) best
      → IsBest spec key b rows k best
  past_best k best one lt is no_fit so_far d = step k d lt
      ∙ ap (least_row spec key) (cond-false
      (fits (row_of (get_or rows k d))) (row_of (get_or rows k d) ∷ filter fits (map row_of (drop (k + 1) rows)))
      (filter fits (map row_of (drop (k + 1) rows))) (ap (λ (r : StoredRow). fits (row_of r)) (is d) ∙ no_fit))
      ∙ so_far d

  fitting : (k : ℕ) (d : StoredRow) (best : Option ℕ) (one : StoredRow) → k < length rows
      → ((d : StoredRow) → get_or rows k d ≡ one) → fits (row_of one) ≡ true → IsBest spec key b rows (k + 1) best
      → sought_row spec key b (map row_of (drop k rows))
      ≡ lesser spec key (row_of (get_or rows k d)) (option_map (λ i. row_of (get_or rows i d)) best)
  fitting k d best one lt is fit so_far = step k d lt
      ∙ ap (least_row spec key) (cond-true
      (fits (row_of (get_or rows k d))) (row_of (get_or rows k d) ∷ filter fits (map row_of (drop (k + 1) rows)))
      (filter fits (map row_of (drop (k + 1) rows))) (ap (λ (r : StoredRow). fits (row_of r)) (is d) ∙ fit))
      ∙ ap (lesser spec key (row_of (get_or rows k d))) (so_far d)

  pub first_best : (k : ℕ) (one : StoredRow) → k < length rows → ((d : StoredRow) → get_or rows k d ≡ one)
      → fits (row_of one) ≡ true → IsBest spec key b rows (k + 1) None → IsBest spec key b rows k (Some k)
  first_best k one lt is fit so_far d = fitting k d None one lt is fit so_far

  abbrev behind : Row → Row → Bool
  behind row other = is_gt (pair_cmp (pair_under spec key row) (pair_under spec key other))

  abbrev lesser_by : Bool → Row → Row → Option Row
  lesser_by c row other = Some (cond c other row)

  pub keeps_best : (k i : ℕ) (one other : StoredRow) → k < length rows → ((d : StoredRow) → get_or rows k d ≡ one)
      → ((d : StoredRow) → get_or rows i d ≡ other) → fits (row_of one) ≡ true
      → behind (row_of one) (row_of other) ≡ true → IsBest spec key b rows (k + 1) (Some i)
      → IsBest spec key b rows k (Some i)
  keeps_best k i one other lt is is' fit gt so_far d = fitting k d (Some i) one lt is fit so_far
      ∙ ap (λ (c : Bool). lesser_by c (row_of (get_or rows k d)) (row_of (get_or rows i d)))
      (ap (λ (r : StoredRow). behind (row_of r) (row_of (get_or rows i d))) (is d)
      ∙ ap (λ (r : StoredRow). behind (row_of one) (row_of r)) (is' d) ∙ gt)

  pub new_best : (k i : ℕ) (one other : StoredRow) → k < length rows → ((d : StoredRow) → get_or rows k d ≡ one)
      → ((d : StoredRow) → get_or rows i d ≡ other) → fits (row_of one) ≡ true
      → behind (row_of one) (row_of other) ≡ false → IsBest spec key b rows (k + 1) (Some i)
      → IsBest spec key b rows k (Some k)
  new_best k i one other lt is is' fit gt so_far d = fitting k d (Some i) one lt is fit so_far
      ∙ ap (λ (c : Bool). lesser_by c (row_of (get_or rows k d)) (row_of (get_or rows i d)))
      (ap (λ (r : StoredRow). behind (row_of r) (row_of (get_or rows i d))) (is d)
      ∙ ap (λ (r : StoredRow). behind (row_of one) (row_of r)) (is' d) ∙ gt)

-- none is there, whatever row stands for none
pub none_from : (spec : Spec) (key : KeyOfReference) (b : RowBound) (rows : List StoredRow)
    → ((d : StoredRow) → sought_row spec key b (map row_of rows) ≡ None)
    → sought_row spec key b (map row_of rows) ≡ None
none_from spec key b [] each = refl
none_from spec key b (one ∷ more) each = each one

pub long_at : (size : ℕ) (rows : List StoredRow) (i : ℕ) (d : StoredRow) → i < length rows
    → AreRecords size (map row_of rows) → length (get_or rows i d).bytes.items ≡ size
long_at size [] i d lt all = absurd (omega (arith, lt))
long_at size (one ∷ more) zero d lt all = all.0
long_at size (one ∷ more) (suc i) d lt all = long_at size more i d (omega (arith, lt)) all.1
