-- What a new row does to its file.
use Rattle.std.proofs.Common.{◌≡◌, ◌≤◌, ◌<◌, ⊎_elim, ◌+◌, ◌||◌, Bool, true, false, cond, ℕ, List, [], ◌∷◌, map, refl}
use Rattle.std.proofs.Common.{ap, arith}
use Rattle.std.specs.Prelude.{max, min}
use Rattle.std.specs.Ordering.{is_lt}
use Rattle.std.proofs.lemmas.Bool.{cond_both}
use Rattle.records.specs.declared.file_spec.Organization.{Organization}
use Rattle.records.specs.declared.file_spec.Organization.TheVariants.{Sequential, Relative, Indexed}
use Rattle.records.specs.declared.answer.Outcome.TheVariants.{Taken}
use Rattle.records.specs.Rows.{Row, pair_cmp, prime_pair}
use Rattle.records.specs.Files.{File}
use Rattle.records.specs.Changes.{FileChange, without_change, with_row, has_prime, is_taken, is_duplicate, done_outcome}
use Rattle.records.specs.Changes.{new_number, new_row, insertion}
use Rattle.records.specs.Stores.{IsNewNumber, is_change}
use Rattle.volume_copies.specs.Loaded.{greatest_number, number_among, next_number, IsNext, following_number}
use Rattle.volume_copies.specs.Loaded.{file_change}
use Rattle.volume_copies.specs.OneLine.{IsPast}

-- numbers that aren't past the greatest
same_number : (n m : ℕ) → n ≤ 999999999 → min n 1000000000 ≡ min m 1000000000 → n ≡ m
same_number n m few same = omega (arith, few, same)

same_new_number : (o : Organization) (number other arrival : ℕ) → IsNewNumber o number
    → min number 1000000000 ≡ min other 1000000000 → new_number o number arrival ≡ new_number o other arrival
same_new_number Sequential number other arrival new same = refl
same_new_number Relative number other arrival new same = same_number number other new.1 same
same_new_number (Indexed place) number other arrival new same = refl

-- the change that a new row makes
change_by : File → List ℕ → Row → FileChange
change_by file bytes row =
    cond (has_prime file row || is_taken file.spec.alternates file.rows bytes) (without_change Taken file)
    (record {
      outcome = done_outcome (is_duplicate file.spec.alternates file.rows bytes);
      file = record file { rows = with_row file.spec.organization row file.rows; next_arrival = file.next_arrival + 1 };
    })

row_with : File → List ℕ → ℕ → Row
row_with file bytes number =
    record { number = number; bytes = bytes; arrivals = map (λ key. file.next_arrival) file.spec.alternates }

pub same_insertion : (number : ℕ) (bytes : List ℕ) (file : File) → IsNewNumber file.spec.organization number
    → IsNext number file → insertion number bytes file ≡ file_change bytes file
unfolding change_by row_with
same_insertion number bytes file new next =
    ap (λ (n : ℕ). change_by file bytes (row_with file bytes n))
    (same_new_number file.spec.organization number (next_number file) file.next_arrival new next)

module _ (bytes : List ℕ) (file : File) where
  row : Row
  row = new_row file (next_number file) bytes

  added : FileChange
  added = record {
    outcome = done_outcome (is_duplicate file.spec.alternates file.rows bytes);
    file = record file { rows = with_row file.spec.organization row file.rows; next_arrival = file.next_arrival + 1 };
  }

  is_taken_row : Bool
  is_taken_row = has_prime file row || is_taken file.spec.alternates file.rows bytes

  by_case : (P : FileChange → Type 0) → P (without_change Taken file) → P added → P (file_change bytes file)
  unfolding added row is_taken_row
  by_case P taken other = cond_both is_taken_row (without_change Taken file) added P (λ _. taken) (λ _. other)

  never_unchanged : (d : Bool) → is_change (done_outcome d) ≡ false → done_outcome d ≡ Taken
  never_unchanged true e = cc
  never_unchanged false e = cc

  pub not_added : is_change (file_change bytes file).outcome ≡ false → (file_change bytes file).outcome ≡ Taken
  unfolding added
  not_added = by_case (λ (c : FileChange). is_change c.outcome ≡ false → c.outcome ≡ Taken) (λ _. refl)
      (never_unchanged (is_duplicate file.spec.alternates file.rows bytes))

  pub same_spec_after : (file_change bytes file).file.spec ≡ file.spec
  unfolding added
  same_spec_after = by_case (λ (c : FileChange). c.file.spec ≡ file.spec) refl refl

  pub rows_after : is_change (file_change bytes file).outcome ≡ true → (file_change bytes file).file.rows
      ≡ with_row file.spec.organization (new_row file (next_number file) bytes) file.rows
  unfolding added row
  rows_after = by_case (λ (c : FileChange). is_change c.outcome ≡ true
      → c.file.rows ≡ with_row file.spec.organization (new_row file (next_number file) bytes) file.rows)
      (λ e. cc) (λ _. refl)

  pub arrival_after : is_change (file_change bytes file).outcome ≡ true
      → (file_change bytes file).file.next_arrival ≡ file.next_arrival + 1
  unfolding added row
  arrival_after = by_case (λ (c : FileChange). is_change c.outcome ≡ true
      → c.file.next_arrival ≡ file.next_arrival + 1) (λ e. cc) (λ _. refl)

greatest_with_row : (o : Organization) (new : Row) (rows : List Row)
    → greatest_number (with_row o new rows) ≡ max new.number (greatest_number rows)
greatest_with_row o new [] = refl
greatest_with_row o new (row ∷ rows) =
    cond_both (is_lt (pair_cmp (prime_pair o row) (prime_pair o new))) (row ∷ with_row o new rows) (new ∷ row ∷ rows)
    (λ (l : List Row). greatest_number l ≡ max new.number (greatest_number (row ∷ rows)))
    (λ _. later row.number new.number (greatest_number rows) (greatest_number (with_row o new rows))
    (greatest_with_row o new rows))
    (λ _. refl)
  where
    later : (a b c d : ℕ) → d ≡ max b c → max a d ≡ max b (max a c)
    later a b c d is = omega (arith, is)

-- the number after the new row's
next_by : (o : Organization) (number arrival : ℕ) (new : Row) (rows : List Row) → IsNewNumber o number
    → min number 1000000000 ≡ min (number_among o rows) 1000000000
    → new.number ≡ new_number o (number_among o rows) arrival
    → min (following_number o number) 1000000000 ≡ min (number_among o (with_row o new rows)) 1000000000
next_by Sequential number arrival new rows is_new same has = refl
next_by Relative number arrival new rows is_new same has =
    let this : number ≡ greatest_number rows + 1 = same_number number (greatest_number rows + 1) is_new.1 same in
    let whole : greatest_number (with_row Relative new rows) ≡ max new.number (greatest_number rows) =
    greatest_with_row Relative new rows in
    omega (arith, this, has, whole)
next_by (Indexed place) number arrival new rows is_new same has = refl

pub next_after : (number : ℕ) (bytes : List ℕ) (file : File) → IsNewNumber file.spec.organization number
    → IsNext number file
    → is_change (file_change bytes file).outcome ≡ true
    → IsNext (following_number file.spec.organization number) (file_change bytes file).file
unfolding added row
next_after number bytes file is_new next =
    by_case bytes file
    (λ (c : FileChange). is_change c.outcome ≡ true → IsNext (following_number file.spec.organization number) c.file)
    (λ e. cc)
    (λ _. next_by file.spec.organization number file.next_arrival (row bytes file) file.rows is_new next refl)

-- a number that is past the greatest, and is the next one
past_among : (o : Organization) (number : ℕ) (rows : List Row) → IsPast o number
    → min number 1000000000 ≡ min (number_among o rows) 1000000000 → 999999999 < number_among o rows
past_among Sequential number rows past same = absurd past
past_among Relative number rows past same =
    ⊎_elim (λ zero. omega (arith, zero, same)) (λ far. omega (arith, far, same)) past
past_among (Indexed place) number rows past same = absurd past

pub past_next : (number : ℕ) (file : File) → IsPast file.spec.organization number → IsNext number file
    → 999999999 < next_number file
past_next number file past next = past_among file.spec.organization number file.rows past next
