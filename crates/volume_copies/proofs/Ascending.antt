-- Rows that ascend in one order of positions compare alike.
use Rattle.std.proofs.Common.{◌≡◌, ◌<◌, ◌≤◌, ◌-◌, ℕ, zero, suc, List, length, get_or, ⊎_elim, sym, ap, ◌∙◌, subst}
use Rattle.std.proofs.Common.{arith}
use Rattle.std.specs.Prelude.{slice_index_or}
use Rattle.std.specs.Ordering.{ordering_reverse}
use Rattle.std.specs.declared.cmp.Ordering.TheVariants.{Less}
use Rattle.std.proofs.lemmas.Bool.{cases_lt}
use Rattle.std.proofs.lemmas.Cmp.{tied_itself}
use Rattle.records.specs.declared.file_spec.KeyPlace.{KeyPlace}
use Rattle.records.specs.Rows.{Row, Pair, pair_cmp}
use Rattle.records.proofs.Ascending.{pair_total}
use Rattle.file_bytes.specs.declared.stored.StoredRow.{StoredRow}
use Rattle.file_bytes.specs.Stored.{row_of, rows_of}
use Rattle.volume_copies.specs.Ascents.{IsAscent, HasEach, pair_at}
use Rattle.volume_copies.proofs.Zips.{row_here}

-- pairs that ascend from each place to the next
abbrev Ascends : ℕ → (ℕ → Pair) → Type 0
Ascends count f = (next : ℕ) → 1 ≤ next → next < count → pair_cmp (f (next - 1)) (f next) ≡ Less

ascends_by : (count : ℕ) (f : ℕ → Pair) → Ascends count f → (x y : ℕ) → x < y → y < count
    → pair_cmp (f x) (f y) ≡ Less
ascends_by count f next x zero less there = absurd (omega (arith, less))
ascends_by count f next x (suc y) less there =
    let step : pair_cmp (f y) (f (suc y)) ≡ Less =
    subst (λ (n : ℕ). pair_cmp (f n) (f (suc y)) ≡ Less) (omega arith) (next (suc y) (omega arith) there) in
    ⊎_elim
    (λ before.
    pair_total.trans (f x) (f y) (f (suc y)) (ascends_by count f next x y before (omega (arith, there))) step)
    (λ past. subst (λ (n : ℕ). pair_cmp (f n) (f (suc y)) ≡ Less) (omega (arith, past, less)) step)
    (cases_lt x y)

-- two of them compare alike
pub same_compared : (count : ℕ) (f h : ℕ → Pair) → Ascends count f → Ascends count h → (x y : ℕ) → x < count → y < count
    → pair_cmp (f x) (f y) ≡ pair_cmp (h x) (h y)
same_compared count f h first second x y there there' = ⊎_elim
    (λ less. ascends_by count f first x y less there' ∙ sym (ascends_by count h second x y less there'))
    (λ not_less. ⊎_elim
    (λ more. pair_total.antisymm (f x) (f y) ∙ ap ordering_reverse (ascends_by count f first y x more there
    ∙ sym (ascends_by count h second y x more there)) ∙ sym (pair_total.antisymm (h x) (h y)))
    (λ not_more.
    let same : x ≡ y = omega (arith, not_less, not_more) in
    subst (λ (n : ℕ). pair_cmp (f x) (f n) ≡ pair_cmp (h x) (h n)) same
    (tied_itself pair_total (f x) ∙ sym (tied_itself pair_total (h x))))
    (cases_lt y x))
    (cases_lt x y)

-- rows at the places of an order that has each
module _ (place : KeyPlace) (key : ℕ) (one two : List Row) (order : List ℕ) (count : ℕ) where
  pub same_order : HasEach count order → IsAscent place key one order → IsAscent place key two order
      → (p q : ℕ) (d : Row)
      → p < count → q < count
      → pair_cmp (pair_at place key (slice_index_or one p d)) (pair_at place key (slice_index_or one q d))
      ≡ pair_cmp (pair_at place key (slice_index_or two p d)) (pair_at place key (slice_index_or two q d))
  same_order has first second p q d there there' =
      let at : ℕ → ℕ = λ n. slice_index_or order n 0 in
      let f : ℕ → Pair = λ n. pair_at place key (slice_index_or one (at n) d) in
      let h : ℕ → Pair = λ n. pair_at place key (slice_index_or two (at n) d) in
      let x = slice_index_or has.places p 0 in
      let y = slice_index_or has.places q 0 in
      let same = same_compared (length order) f h (λ next low high. first.each next d low high)
      (λ next low high. second.each next d low high) x y (has.at p there) (has.at q there') in
      subst
      (λ (n : ℕ). pair_cmp (pair_at place key (slice_index_or one p d)) (pair_at place key (slice_index_or one n d))
      ≡ pair_cmp (pair_at place key (slice_index_or two p d)) (pair_at place key (slice_index_or two n d)))
      (has.is q there')
      (subst (λ (n : ℕ). pair_cmp (pair_at place key (slice_index_or one n d)) (f y)
      ≡ pair_cmp (pair_at place key (slice_index_or two n d)) (h y)) (has.is p there) same)

-- of rows in memory that were compared
pub pairs_here : (place : KeyPlace) (key : ℕ) (rows : List StoredRow) (one two : ℕ) (row row' : StoredRow) (d : Row)
    → one < length rows → two < length rows → row ≡ get_or rows one row → row' ≡ get_or rows two row'
    → pair_cmp (pair_at place key (row_of row)) (pair_at place key (row_of row')) ≡ Less
    → pair_cmp (pair_at place key (slice_index_or (rows_of rows) one d))
    (pair_at place key (slice_index_or (rows_of rows) two d)) ≡ Less
pairs_here place key rows one two row row' d there there' is is' less =
    let pair = pair_at place key in
    subst (λ (r : Row). pair_cmp (pair r) (pair (slice_index_or (rows_of rows) two d)) ≡ Less)
    (sym (row_here rows one row d there is))
    (subst (λ (r : Row). pair_cmp (pair (row_of row)) (pair r) ≡ Less) (sym (row_here rows two row' d there' is')) less)

-- of rows in memory
pub ascent_of : (place place' : KeyPlace) (key : ℕ) (rows rows' : List StoredRow) (order order' : List ℕ)
    → place ≡ place' → rows ≡ rows' → order ≡ order' → IsAscent place key (rows_of rows) order
    → IsAscent place' key (rows_of rows') order'
ascent_of place place' key rows rows' order order' same_place same_rows same_order ascent =
    subst (λ (p : KeyPlace). IsAscent p key (rows_of rows') order') same_place
    (subst (λ (l : List StoredRow). IsAscent place key (rows_of l) order') same_rows
    (subst (IsAscent place key (rows_of rows)) same_order ascent))
