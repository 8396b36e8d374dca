-- The number of rows of a file after a change, and its bytes in the catalog.
use Rattle.std.proofs.Common.{◌≡◌, ◌<◌, ◌+◌, ◌%◌, ◌^◌, ◌++◌, ◌||◌, Bool, true, false, not, ℕ, zero, suc, List, [], ◌∷◌}
use Rattle.std.proofs.Common.{length, refl, ap, ◌∙◌, arith}
use Rattle.std.specs.Prelude.{Option, Some, None, filter, if◌then◌else◌}
use Rattle.std.specs.List.{list_any}
use Rattle.std.specs.Ordering.{is_lt}
use Rattle.std.proofs.lemmas.Bool.{cond_both}
use Rattle.std.proofs.lemmas.List.{length-map}
use Rattle.records.specs.declared.answer.Outcome.TheVariants.{Taken}
use Rattle.records.specs.declared.file_spec.AlternateKey.{AlternateKey}
use Rattle.records.specs.declared.file_spec.Organization.{Organization}
use Rattle.records.specs.Rows.{Row, Pair, pair_cmp, prime_pair, named_pair}
use Rattle.records.specs.Changes as rows
use Rattle.records.specs.Changes.{FileChange, is_at, row_at, with_row, in_place, changes, changed_row, done_outcome}
use Rattle.records.specs.Changes.{is_taken, is_duplicate, has_prime, new_row, without_change, insertion, replaced_row}
use Rattle.records.specs.Changes.{removed_row}
use Rattle.records.specs.Files.{File}
use Rattle.records.specs.Laws.{RowsAscend}
use Rattle.records.specs.Stores.{is_change, pair_of}
use Rattle.volume_format.specs.Catalog.{catalog_value}
use Rattle.volume_format.proofs.Values.{rows_low}
use Rattle.alternate_keys.specs.declared.row_verb.RowVerb.{RowVerb}
use Rattle.alternate_keys.specs.declared.row_verb.RowVerb.TheVariants.{Insert, Replace, Remove}
use Rattle.alternate_keys.specs.Moved.{changed_by, IsCountAfter}
use Rattle.alternate_keys.proofs.RowEdits.{alone, later, all_stay}

-- lists of rows
one_more : (o : Organization) (new : Row) (all : List Row) → length (with_row o new all) ≡ length all + 1
one_more o new [] = refl
one_more o new (row ∷ all) =
    cond_both (is_lt (pair_cmp (prime_pair o row) (prime_pair o new))) (row ∷ with_row o new all) (new ∷ row ∷ all)
    (λ (l : List Row). length l ≡ length (row ∷ all) + 1)
    (λ _. let rest = one_more o new all in omega (arith, rest)) (λ _. omega arith)

one_fewer_by : (o : Organization) (pair : Pair) (b : Bool) (row old : Row) (all : List Row) → is_at o pair row ≡ b
    → RowsAscend o (row ∷ all) → (if b then Some row else row_at o pair all) ≡ Some old
    → (row_at o pair all ≡ Some old → length (rows.without_pair o pair all) + 1 ≡ length all) →
    length (if not b then row ∷ rows.without_pair o pair all else rows.without_pair o pair all) + 1
    ≡ length (row ∷ all)
one_fewer_by o pair true row old all at up is rest =
    ap (λ (l : List Row). length l + 1) (all_stay o pair all (alone o pair row all up at)) ∙ omega arith
one_fewer_by o pair false row old all at up is rest = let more = rest is in omega (arith, more)

one_fewer : (o : Organization) (pair : Pair) (old : Row) (all : List Row) → RowsAscend o all
    → row_at o pair all ≡ Some old → length (rows.without_pair o pair all) + 1 ≡ length all
one_fewer o pair old [] up is = absurd cc
one_fewer o pair old (row ∷ all) up is = one_fewer_by o pair (is_at o pair row) row old all refl up is
    (λ more. one_fewer o pair old all (later o pair row all up) more)

-- files
inserted : (number : ℕ) (bytes : List ℕ) (file : File) → is_change (insertion number bytes file).outcome ≡ true
    → length (insertion number bytes file).file.rows ≡ length file.rows + 1
inserted number bytes file =
    let new : Row = new_row file number bytes in
    cond_both (has_prime file new || is_taken file.spec.alternates file.rows bytes) (without_change Taken file)
    (record {
      outcome = done_outcome (is_duplicate file.spec.alternates file.rows bytes);
      file = record file {
        rows = with_row file.spec.organization new file.rows;
        next_arrival = file.next_arrival + 1;
      };
    })
    (λ (c : FileChange). is_change c.outcome ≡ true → length c.file.rows ≡ length file.rows + 1)
    (λ _ change. absurd (let clash : false ≡ true = change in cc))
    (λ _ change. one_more file.spec.organization new file.rows)

replaced : (pair : Pair) (bytes : List ℕ) (file : File) (found : Option Row)
    → length (replaced_row pair bytes file found).file.rows ≡ length file.rows
replaced pair bytes file None = refl
replaced pair bytes file (Some row) =
    let keys = filter (changes row.bytes bytes) file.spec.alternates in
    let others = rows.without_pair file.spec.organization pair file.rows in
    let new : Row = changed_row file bytes row in
    cond_both (is_taken keys others bytes) (without_change Taken file)
    (record {
      outcome = done_outcome (is_duplicate keys others bytes);
      file = record file {
        rows = in_place file.spec.organization pair new file.rows;
        next_arrival = if list_any (λ (key : AlternateKey). changes row.bytes bytes key) file.spec.alternates
            then file.next_arrival + 1 else file.next_arrival;
      };
    })
    (λ (c : FileChange). length c.file.rows ≡ length file.rows) (λ _. refl)
    (λ _. length-map file.rows (λ (r : Row). if is_at file.spec.organization pair r then new else r))

removed : (pair : Pair) (file : File) (found : Option Row) → RowsAscend file.spec.organization file.rows
    → row_at file.spec.organization pair file.rows ≡ found → is_change (removed_row pair file found).outcome ≡ true
    → length (removed_row pair file found).file.rows + 1 ≡ length file.rows
removed pair file None up is change = absurd (let clash : false ≡ true = change in cc)
removed pair file (Some old) up is change = one_fewer file.spec.organization pair old file.rows up is

-- the remainders of numbers of rows
more_low : (stored new held after : ℕ) → stored ≡ held % 2 ^ 64 → new ≡ (stored + 1) % 2 ^ 64 → after ≡ held + 1
    → new % 2 ^ 64 ≡ after % 2 ^ 64
more_low stored new held after read is more = omega (arith, read, is, more)

fewer_low : (stored new held after : ℕ) → stored ≡ held % 2 ^ 64 → (new + 1) % 2 ^ 64 ≡ stored → after + 1 ≡ held
    → new % 2 ^ 64 ≡ after % 2 ^ 64
fewer_low stored new held after read is fewer = omega (arith, read, is, fewer)

same_low : (stored new held after : ℕ) → stored ≡ held % 2 ^ 64 → new ≡ stored → after ≡ held
    → new % 2 ^ 64 ≡ after % 2 ^ 64
same_low stored new held after read is same = omega (arith, read, is, same)

after_low : (verb : RowVerb) (organization : Organization) (number : ℕ) (bytes : List ℕ) (file : File)
    (stored new : ℕ) → RowsAscend file.spec.organization file.rows → stored ≡ length file.rows % 2 ^ 64
    → IsCountAfter verb stored new → is_change (changed_by verb organization number bytes file).outcome ≡ true
    → new % 2 ^ 64 ≡ length (changed_by verb organization number bytes file).file.rows % 2 ^ 64
after_low Insert organization number bytes file stored new up read is change =
    more_low stored new (length file.rows) _ read is (inserted number bytes file change)
after_low Replace organization number bytes file stored new up read is change =
    let pair : Pair = named_pair file.spec.organization number bytes in
    same_low stored new (length file.rows) _ read is
    (replaced pair bytes file (row_at file.spec.organization pair file.rows))
after_low Remove organization number bytes file stored new up read is change =
    let pair : Pair = pair_of organization bytes number in
    fewer_low stored new (length file.rows) _ read is
    (removed pair file (row_at file.spec.organization pair file.rows) up refl change)

-- what a value of the catalog says of the rows
pub rows_spelled : (mark : ℕ) (verb : RowVerb) (organization : Organization) (listing : List ℕ) (number : ℕ)
    (bytes : List ℕ) (file : File) (stored new : ℕ) → RowsAscend file.spec.organization file.rows
    → (0 < mark → stored ≡ length file.rows % 2 ^ 64) → IsCountAfter verb stored new
    → is_change (changed_by verb organization number bytes file).outcome ≡ true
    → catalog_value mark listing new
    ≡ catalog_value mark listing (length (changed_by verb organization number bytes file).file.rows)
rows_spelled zero verb organization listing number bytes file stored new up read is change = refl
rows_spelled (suc mark) verb organization listing number bytes file stored new up read is change =
    ap (λ (l : List ℕ). listing ++ l)
    (rows_low new (length (changed_by verb organization number bytes file).file.rows)
    (after_low verb organization number bytes file stored new up (read (omega arith)) is change))
