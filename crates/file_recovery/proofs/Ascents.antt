-- Rows whose entries ascend ascend too, and so do names.
use Rattle.std.proofs.Common.{◌≡◌, ◌≤◌, ◌^◌, true, ℕ, List, [], ◌∷◌, sym, ◌∙◌}
use Rattle.std.specs.Prelude.{map}
use Rattle.std.specs.List.{AllByRecursion}
use Rattle.std.specs.List.Sorted.{IsStrictlySortedBy}
use Rattle.std.specs.declared.cmp.Ordering.TheVariants.{Less}
use Rattle.std.proofs.lemmas.List.Elements.{All-head}
use Rattle.std.proofs.lemmas.Map.Keys.{sorted_head, sorted_tail}
use Rattle.btree_pages.specs.Keys.{key_cmp, Ascend}
use Rattle.btree.specs.Laws.{keys_listed}
use Rattle.records.specs.declared.key.KeyOfReference.TheVariants.{Prime}
use Rattle.records.specs.Spec.{Spec, is_spec, is_name}
use Rattle.records.specs.Rows.{Row, Pair, bytes_cmp, pair_cmp, pair_under, prime_pair}
use Rattle.records.specs.Files.{File, IsRow, IsFile, IsNamed, names}
use Rattle.records.specs.Laws.{RowsAscend}
use Rattle.file_bytes.specs.Description.{padded_name}
use Rattle.volume_format.specs.Pairs.{IsUnder}
use Rattle.volume_format.specs.Trees.{entry_under}
use Rattle.volume_format.specs.Volume.{FileTrees, catalog_entry}
use Rattle.volume_format.proofs.Keeping.{rows_fit_most}
use Rattle.volume_format.proofs.Names.{names_in_order}
use Rattle.volume_format.proofs.Order.{keys_in_order}

-- a row alone
row_fits : (spec : Spec) (next : ℕ) (row : Row) → is_spec spec ≡ true → 1 ≤ next → next ≤ 2 ^ 63 → IsRow spec next row
    → IsUnder spec Prime row
unfolding IsStrictlySortedBy
row_fits spec next row is some few good =
    let alone : File = record { spec = spec; rows = row ∷ []; next_arrival = next } in
    let file : IsFile alone = record { spec = is; next = some; ascend = (tt, tt); rows = (good, tt) } in
    All-head (IsUnder spec Prime) row [] (rows_fit_most alone file few).0

module _ (spec : Spec) (next : ℕ) (is : is_spec spec ≡ true) (some : 1 ≤ next) (few : next ≤ 2 ^ 63) where
  behind : (row : Row) (rows : List Row) → IsRow spec next row → AllByRecursion (IsRow spec next) rows
      → AllByRecursion (λ (k : List ℕ). key_cmp (entry_under spec Prime row).key k ≡ Less)
      (keys_listed (map (entry_under spec Prime) rows)) →
      AllByRecursion (λ (p : Pair). pair_cmp (prime_pair spec.organization row) p ≡ Less)
      (map (prime_pair spec.organization) rows)
  behind row [] good all below = tt
  behind row (one ∷ rows) good all below = (
    sym (keys_in_order spec Prime (pair_under spec Prime row) (pair_under spec Prime one)
        (row_fits spec next row is some few good).pair (row_fits spec next one is some few all.0).pair) ∙ below.0,
    behind row rows good all.1 below.1,
  )

  pub rows_ascend : (rows : List Row) → AllByRecursion (IsRow spec next) rows
      → Ascend (keys_listed (map (entry_under spec Prime) rows)) → RowsAscend spec.organization rows
  unfolding IsStrictlySortedBy
  rows_ascend [] all up = tt
  rows_ascend (row ∷ rows) all up = (
    behind row rows all.0 all.1
        (sorted_head key_cmp (entry_under spec Prime row).key (keys_listed (map (entry_under spec Prime) rows)) up),
    rows_ascend rows all.1
        (sorted_tail key_cmp (entry_under spec Prime row).key (keys_listed (map (entry_under spec Prime) rows)) up),
  )

-- files whose entries ascend

behind_name : (mark : ℕ) (one : FileTrees) (kept : List FileTrees)
    → is_name one.named.name ≡ true → AllByRecursion IsNamed (map (λ (k : FileTrees). k.named) kept) → AllByRecursion
    (λ (k : List ℕ). key_cmp (padded_name one.named.name) k ≡ Less) (keys_listed (map (catalog_entry mark) kept)) →
    AllByRecursion (λ (n : List ℕ). bytes_cmp one.named.name n ≡ Less) (names (map (λ (k : FileTrees). k.named) kept))
behind_name mark one [] good all below = tt
behind_name mark one (two ∷ kept) good all below = (
  sym (names_in_order one.named.name two.named.name good all.0.name) ∙ below.0,
  behind_name mark one kept good all.1 below.1,
)

pub names_ascend : (mark : ℕ) (kept : List FileTrees)
    → AllByRecursion IsNamed (map (λ (k : FileTrees). k.named) kept)
    → Ascend (keys_listed (map (catalog_entry mark) kept))
    → IsStrictlySortedBy bytes_cmp (names (map (λ (k : FileTrees). k.named) kept))
unfolding IsStrictlySortedBy
names_ascend mark [] all up = tt
names_ascend mark (one ∷ kept) all up = (
  behind_name mark one kept all.0.name all.1
      (sorted_head key_cmp (padded_name one.named.name) (keys_listed (map (catalog_entry mark) kept)) up),
  names_ascend mark kept all.1
      (sorted_tail key_cmp (padded_name one.named.name) (keys_listed (map (catalog_entry mark) kept)) up),
)
