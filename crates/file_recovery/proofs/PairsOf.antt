-- An entry as the pair of a row that its prime key names.
use Rattle.std.proofs.Common.{◌≡◌, ◌≤◌, ◌<◌, ◌++◌, ⊎_elim, true, ℕ, List, length, take, drop, length-append, refl, sym}
use Rattle.std.proofs.Common.{ap, ◌∙◌, arith}
use Rattle.std.specs.Prelude.{map, slice_index_or, Contains}
use Rattle.std.specs.Ordering.{ordering_then}
use Rattle.std.specs.declared.cmp.Ordering.{Ordering}
use Rattle.std.specs.declared.cmp.Ordering.TheVariants.{Less, Equal, Greater}
use Rattle.std.proofs.lemmas.Bool.{cases_lt}
use Rattle.std.proofs.lemmas.Cmp.{nat_list_cmp_total, tied_itself}
use Rattle.std.proofs.lemmas.List.{get_or_default, get_or-map, length-map, take_at, drop_at, take-append-drop}
use Rattle.std.proofs.lemmas.List.Elements.{Contains-get_or}
use Rattle.std.proofs.lemmas.Map.Keys.{Less-from_sorted}
use Rattle.btree.specs.Entries.{Entry}
use Rattle.records.specs.declared.file_spec.AlternateKey.{AlternateKey}
use Rattle.records.specs.declared.file_spec.Organization.{Organization}
use Rattle.records.specs.declared.file_spec.Organization.TheVariants.{Sequential, Relative, Indexed}
use Rattle.records.specs.declared.key.KeyOfReference.TheVariants.{Alternate}
use Rattle.records.specs.Laws.{RowsAscend}
use Rattle.records.specs.Rows.{Row, Pair, bytes_cmp, part, pair_cmp, pair_under, prime_pair, prime_place}
use Rattle.records.specs.Spec.{Spec, is_spec, are_keys}
use Rattle.records.specs.Stores.{IsKey}
use Rattle.volume_format.specs.Trees.{entry_under, key_under}
use Rattle.records.proofs.Places.{spec as spec_with}
use Rattle.volume_format.proofs.Small.{spec_keys}
use Rattle.file_recovery.specs.Rows.{IsPairOf, PrimesAscend, no_row, prime_at}
use Rattle.file_recovery.proofs.Entered.{entry_made}
use Rattle.file_recovery.proofs.Matching.{no_alternates}

-- the prime keys of rows that ascend
then_less : (o : Ordering) → ordering_then o Equal ≡ Less → o ≡ Less
then_less Less is = refl
then_less Equal is = cc
then_less Greater is = cc

primes_by : (n : ℕ) (o : Organization) (keys : List AlternateKey) (i : ℕ) (rows : List Row) → are_keys n o keys ≡ true
    → IsKey (spec_with n o keys) (Alternate i) → RowsAscend o rows →
    PrimesAscend (spec_with n o keys) rows
primes_by n Sequential keys i rows are within up = no_alternates n keys i are within
primes_by n Relative keys i rows are within up = no_alternates n keys i are within
primes_by n (Indexed place) keys i rows are within up = λ j k lt low.
    let f : Row → Pair = prime_pair (Indexed place) in
    let pairs : List Pair = map f rows in
    let many = length-map rows f in
    let less : pair_cmp (slice_index_or pairs j (f no_row)) (slice_index_or pairs k (f no_row)) ≡ Less =
    Less-from_sorted pair_cmp pairs j k (f no_row) up lt (omega (arith, low, many)) in
    let one : slice_index_or pairs j (f no_row) ≡ f (slice_index_or rows j no_row) =
    get_or-map f rows j no_row (f no_row) (omega (arith, lt, low)) in
    let two : slice_index_or pairs k (f no_row) ≡ f (slice_index_or rows k no_row) =
    get_or-map f rows k no_row (f no_row) low in
    let both : pair_cmp (f (slice_index_or rows j no_row)) (f (slice_index_or rows k no_row)) ≡ Less =
    sym (ap (λ (p : Pair). pair_cmp p (f (slice_index_or rows k no_row))) one)
    ∙ sym (ap (pair_cmp (slice_index_or pairs j (f no_row))) two) ∙ less in
    then_less
    (bytes_cmp (part place (slice_index_or rows j no_row).bytes) (part place (slice_index_or rows k no_row).bytes)) both

pub primes_ascend : (spec : Spec) (i : ℕ) (rows : List Row) → is_spec spec ≡ true → IsKey spec (Alternate i)
    → RowsAscend spec.organization rows → PrimesAscend spec rows
primes_ascend spec i rows is within up =
    primes_by spec.record_length spec.organization spec.alternates i rows (spec_keys spec is) within up

module _ (spec : Spec) (i : ℕ) (rows : List Row) (entry : Entry) where
  pub found_pair : (k : ℕ) → k < length rows → prime_at spec rows k ≡ entry.value
      → key_under spec (Alternate i) (pair_under spec (Alternate i) (slice_index_or rows k no_row)) ≡ entry.key
      → IsPairOf spec i rows entry
  found_pair k low value key = (
    slice_index_or rows k no_row,
    Contains-get_or rows k no_row low,
    entry_made (entry_under spec (Alternate i) (slice_index_or rows k no_row)) entry key value,
  )

  -- where a row of the entry stands
  row_here : (row : Row) (has : Contains rows row) → slice_index_or rows has.0 no_row ≡ row
  row_here row has = get_or_default rows has.0 no_row row has.1 ∙ has.2

  prime_here : (row : Row) (has : Contains rows row) → entry_under spec (Alternate i) row ≡ entry
      → prime_at spec rows has.0 ≡ entry.value
  prime_here row has is =
      ap (λ (r : Row). part (prime_place spec.organization) r.bytes) (row_here row has) ∙ ap (λ (e : Entry). e.value) is

  pub no_pair : ((k : ℕ) → k < length rows → prime_at spec rows k ≡ entry.value → ⊥) → IsPairOf spec i rows entry → ⊥
  no_pair never own = never own.1.0 own.1.1 (prime_here own.0 own.1 own.2)

  one_place : PrimesAscend spec rows → (j k : ℕ) → j < length rows → k < length rows
      → prime_at spec rows j ≡ prime_at spec rows k → j ≡ k
  one_place up j k low low_too same =
      let tied : bytes_cmp (prime_at spec rows j) (prime_at spec rows k) ≡ Equal =
      ap (λ (x : List ℕ). bytes_cmp x (prime_at spec rows k)) same
      ∙ tied_itself nat_list_cmp_total (prime_at spec rows k) in
      let tied_too : bytes_cmp (prime_at spec rows k) (prime_at spec rows j) ≡ Equal =
      ap (bytes_cmp (prime_at spec rows k)) same ∙ tied_itself nat_list_cmp_total (prime_at spec rows k) in
      ⊎_elim
      (λ (under : j < k). let clash : Equal ≡ Less = sym tied ∙ up j k under low_too in absurd {0} cc)
      (λ (from : k ≤ j). ⊎_elim
      (λ (over : k < j). let clash : Equal ≡ Less = sym tied_too ∙ up k j over low in absurd {0} cc)
      (λ (to : j ≤ k). let e : j ≡ k = omega (arith, from, to) in e)
      (cases_lt k j))
      (cases_lt j k)

  pub other_pair : PrimesAscend spec rows → (k : ℕ) → k < length rows → prime_at spec rows k ≡ entry.value
      → (key_under spec (Alternate i) (pair_under spec (Alternate i) (slice_index_or rows k no_row)) ≡ entry.key → ⊥)
      → IsPairOf spec i rows entry → ⊥
  other_pair up k low value differs own =
      let place = one_place up own.1.0 k own.1.1 low (prime_here own.0 own.1 own.2 ∙ sym value) in
      let row : slice_index_or rows k no_row ≡ own.0 =
      ap (λ (n : ℕ). slice_index_or rows n no_row) (sym place) ∙ row_here own.0 own.1 in
      differs (ap (λ (r : Row). key_under spec (Alternate i) (pair_under spec (Alternate i) r)) row
      ∙ ap (λ (e : Entry). e.key) own.2)

-- bytes in two parts
module _ (value tail pair : List ℕ) (n : ℕ) (long : length value ≡ n) where
  pub joined : take n pair ≡ value → drop n pair ≡ tail → value ++ tail ≡ pair
  joined front behind = ap (λ (l : List ℕ). l ++ tail) (sym front) ∙ ap (λ (l : List ℕ). take n pair ++ l) (sym behind)
      ∙ take-append-drop n pair

  pub front_of : value ++ tail ≡ pair → take n pair ≡ value
  front_of is = ap (take n) (sym is) ∙ take_at value tail n long

  pub behind_of : value ++ tail ≡ pair → drop n pair ≡ tail
  behind_of is = ap (drop n) (sym is) ∙ drop_at value tail n long

  pub too_short : length pair < n → value ++ tail ≡ pair → ⊥
  too_short low is =
      let many = length-append value tail in
      let same = ap (λ (l : List ℕ). length l) is in
      omega (arith, low, many, same, long)
