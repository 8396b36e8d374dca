-- What a change of a file asks of the files after it.
use Rattle.std.proofs.Common.{◌≢◌, ⊎_elim, ◌≤◌, ◌+◌, Bool, true, false, ◌||◌, cond, ℕ, List, arith}
use Rattle.std.specs.Prelude.{Option, Some, None, Result, Ok, Err, IfErr, filter}
use Rattle.std.specs.List.{list_any}
use Rattle.std.proofs.lemmas.Bool.{cond_both}
use Rattle.records.specs.declared.answer.Outcome.TheVariants.{Taken}
use Rattle.records.specs.declared.fault.StoreFault.{StoreFault}
use Rattle.records.specs.declared.fault.StoreFault.TheVariants.{Damaged, Old}
use Rattle.records.specs.Rows.{Row, Pair, named_pair}
use Rattle.records.specs.Files.{File}
use Rattle.records.specs.Changes.{FileChange, without_change, done_outcome, has_prime, new_row, is_taken, is_duplicate}
use Rattle.records.specs.Changes.{changes, changed_row, with_row, row_at, in_place, without_pair, insertion}
use Rattle.records.specs.Changes.{replacement, replaced_row, removal, removed_row}
use Rattle.half_store.specs.Changing.{IsMemoryCause}
use Rattle.half_store.specs.Write.{IsCause}

-- a change gives one arrival at most
pub inserted_next : (number : ℕ) (bytes : List ℕ) (file : File)
    → (insertion number bytes file).file.next_arrival ≤ file.next_arrival + 1
inserted_next number bytes file = cond_both (has_prime file (new_row file number bytes)
    || is_taken file.spec.alternates file.rows bytes) (without_change Taken file)
    (record {
      outcome = done_outcome (is_duplicate file.spec.alternates file.rows bytes);
      file = record file {
        rows = with_row file.spec.organization (new_row file number bytes) file.rows;
        next_arrival = file.next_arrival + 1;
      };
    }) (λ (c : FileChange). c.file.next_arrival ≤ file.next_arrival + 1) (λ _. omega arith) (λ _. omega arith)

raised : (b : Bool) (n : ℕ) → cond b (n + 1) n ≤ n + 1
raised true n = omega arith
raised false n = omega arith

pub replaced_next : (number : ℕ) (bytes : List ℕ) (file : File)
    → (replacement number bytes file).file.next_arrival ≤ file.next_arrival + 1
replaced_next number bytes file =
    by (row_at file.spec.organization (named_pair file.spec.organization number bytes) file.rows)
  where
    by : (found : Option Row) → (replaced_row (named_pair file.spec.organization number bytes) bytes file
        found).file.next_arrival ≤ file.next_arrival + 1
    by None = omega arith
    by (Some row) =
        let keys = filter (changes row.bytes bytes) file.spec.alternates in
        let others = without_pair file.spec.organization (named_pair file.spec.organization number bytes) file.rows in
        let b = list_any (λ key. changes row.bytes bytes key) file.spec.alternates in
        cond_both (is_taken keys others bytes) (without_change Taken file)
        (record {
          outcome = done_outcome (is_duplicate keys others bytes);
          file = record file {
            rows = in_place file.spec.organization (named_pair file.spec.organization number bytes)
                (changed_row file bytes row) file.rows;
            next_arrival = cond b (file.next_arrival + 1) file.next_arrival;
          };
        }) (λ (c : FileChange). c.file.next_arrival ≤ file.next_arrival + 1) (λ _. omega arith)
        (λ _. raised b file.next_arrival)

pub removed_next : (pair : Pair) (file : File) → (removal pair file).file.next_arrival ≤ file.next_arrival + 1
removed_next pair file = by (row_at file.spec.organization pair file.rows)
  where
    by : (found : Option Row) → (removed_row pair file found).file.next_arrival ≤ file.next_arrival + 1
    by None = omega arith
    by (Some row) = omega arith

-- a write is never refused for damage
pub cause_sound : {T : Type 0} (result : Result T StoreFault) → IfErr result IsCause → result ≢ Err Damaged
cause_sound (Ok x) cause is = absurd {0} cc
cause_sound (Err e) cause is =
    ⊎_elim (λ device. absurd {0} cc) (λ rest. ⊎_elim (λ full. absurd {0} cc) (λ memory. absurd {0} cc) rest) cause

-- nor for its mark, and no change in memory is
pub cause_takes : {T : Type 0} (result : Result T StoreFault) → IfErr result IsCause → result ≢ Err Old
cause_takes (Ok x) cause is = absurd {0} cc
cause_takes (Err e) cause is =
    ⊎_elim (λ device. absurd {0} cc) (λ rest. ⊎_elim (λ full. absurd {0} cc) (λ memory. absurd {0} cc) rest) cause

pub memory_takes : {T : Type 0} (result : Result T StoreFault) → IfErr result IsMemoryCause → result ≢ Err Old
memory_takes (Ok x) cause is = absurd {0} cc
memory_takes (Err e) cause is =
    ⊎_elim (λ full. absurd {0} cc) (λ rest. ⊎_elim (λ memory. absurd {0} cc) (λ damaged. absurd {0} cc) rest) cause
